-- A table of records to whose front the records that are laid out are copied, as the layout by value promises for any table; what stands
-- after them keeps its place, and a refused call leaves it as it was. Assumes nothing.
use Prim.Native.Nat.{ℕ, zero, suc}
use mathlib.Core.Path.{◌≡◌, refl, sym, ap, ◌∙◌, subst}
use mathlib.Core.List.{List, [], ◌∷◌, ◌++◌, map, map-append}
use lib.ListN.{length, drop, length-map}
use Rattle.std.specs.Prelude.{Ok, Err}
use Rattle.model.specs.Bytes.{written_at_front}
use Rattle.model.specs.Calls.{LaidRecord, LayoutOutcome}
use Rattle.model.specs.Demands.{LayoutAnswered}
use Rattle.model.proofs.Bytes.{front-none}
use Rattle.questions.specs.Refusal.{number_of}
use Rattle.questions.specs.declared.refusal.Refusal.{Refusal}
use Rattle.laying.specs.declared.laid.NodeRecord.{NodeRecord}
use Rattle.laying.specs.Records.{record_of, LaidBy}
use Rattle.cadwezin.specs.Table.{records_in, layout_of}

map-drop : {X Y : Type 0} (g : X → Y) (n : ℕ) (l : List X) → map g (drop n l) ≡ drop n (map g l)
map-drop g zero l = refl
map-drop g (suc n) [] = refl
map-drop g (suc n) (x ∷ l) = map-drop g n l

-- the records at the front of a table, as the model has them
records-front : (rs ys : List NodeRecord) → records_in (rs ++ drop (length rs) ys) ≡ written_at_front (records_in rs) (records_in ys)
unfolding written_at_front
records-front rs ys =
    map-append record_of rs (drop (length rs) ys)
    ∙ ap (λ (w : List LaidRecord). records_in rs ++ w) (map-drop record_of (length rs) ys ∙ ap (λ (n : ℕ). drop n (records_in ys)) (sym (length-map rs record_of)))

module _ {b : List ℕ} {s : ℕ} {l : List ℕ} (ys : List NodeRecord) where
  pub laid-answered : (rs : List NodeRecord) → LaidBy b s l (length ys) (Ok (records_in rs)) → LayoutAnswered b s l (records_in ys) (layout_of (Ok (length rs)) (rs ++ drop (length rs) ys))
  laid-answered rs g =
      subst (LayoutAnswered b s l (records_in ys))
      (λ i. record { answer = record { refused = 0; count = length-map rs record_of i }; table = sym (records-front rs ys) i })
      (g.answered (records_in ys) (length-map ys record_of))

  pub refused-answered : (r : Refusal) → LaidBy b s l (length ys) (Err r) → LayoutAnswered b s l (records_in ys) (layout_of (Err r) ys)
  refused-answered r g =
      subst (LayoutAnswered b s l (records_in ys))
      (ap {B = LayoutOutcome} (λ (t : List LaidRecord). record { answer = record { refused = number_of r; count = 0 }; table = t }) (front-none (records_in ys)))
      (g.answered (records_in ys) (length-map ys record_of))
