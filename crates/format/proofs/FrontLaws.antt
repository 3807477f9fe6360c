-- What is written at the front of a buffer or table, piece by piece: storing right after it, or writing at the front of the part
-- after it, writes so much more, because what stands after keeps its place. Assumes nothing.
use Prim.Native.Nat.{ℕ, ◌+◌, ◌-◌, ◌≤◌, ◌<◌}
use mathlib.Core.Path.{◌≡◌, sym, ap, ap₂, ◌∙◌}
use mathlib.Core.List.{List, [], ◌∷◌, ◌++◌, map, append_assoc, append-nil}
use native.Mathlib.Omega.{arith}
use lib.ListN.{length, get_or, take, drop, set, length-append, length-drop, drop_of_length-le, get_or-append}
use lib.Seq.{sets, sets-eq, take_all, take-append_seam, drop-append_seam, drop-append-add, drop-drop}
use Rattle.model.specs.Lists.{up_from}
use Rattle.model.specs.Bytes.{written_at_front}
use Rattle.model.proofs.Bytes.{front_length, front-none}
use Rattle.format.proofs.RangeLaws.{map_last}
use Rattle.model.proofs.ListLaws.{length-map-up_from}

module _ {A : Type 0} where
  -- an element of what is written
  pub front-get_or : (w b : List A) (i : ℕ) (d : A) → i < length w → get_or (written_at_front w b) i d ≡ get_or w i d
  unfolding written_at_front
  front-get_or w b i d h = get_or-append w (drop (length w) b) d i h

  pieces : (w b vs : List A) → take (length w) (written_at_front w b) ++ vs ++ drop (length w + length vs) (written_at_front w b) ≡ written_at_front (w ++ vs) b
  unfolding written_at_front
  pieces w b vs = rw (take-append_seam, drop-append-add, drop-drop, length-append)

  -- a run of stores right after what is written
  pub front-sets : (w b vs : List A) → length w + length vs ≤ length b → sets (written_at_front w b) (length w) vs ≡ written_at_front (w ++ vs) b
  front-sets w b vs h =
      let e : length (written_at_front w b) ≡ length b = front_length w b (omega arith) in
      sets-eq vs (written_at_front w b) (length w) (omega arith) ∙ pieces w b vs

  -- one store right after it
  pub front-set : (w b : List A) (x : A) → length w < length b → set (written_at_front w b) (length w) x ≡ written_at_front (w ++ (x ∷ [])) b
  front-set w b x h = front-sets w b (x ∷ []) (omega arith)

  -- writing at the front of the part after it
  pub front-append : (w v b : List A) → take (length w) (written_at_front w b) ++ written_at_front v (drop (length w) (written_at_front w b)) ≡ written_at_front (w ++ v) b
  unfolding written_at_front
  front-append w v b = rw (take-append_seam, drop-append_seam, drop-drop, length-append, append_assoc)

  -- the same where the part is lent: xs has w at its front, and its part from a on comes back as ys, with v at its front
  pub front-part : (w v b : List A) {xs ys : List A} {a : ℕ} → a ≡ length w → xs ≡ written_at_front w b → ys ≡ written_at_front v (take (length xs - a) (drop a xs))
      → take a xs ++ (ys ++ drop (length xs - a) (drop a xs)) ≡ written_at_front (w ++ v) b
  front-part w v b {xs} {ys} {a} at front part =
      let len : length (drop a xs) ≡ length xs - a = length-drop a xs in
      let whole : take (length xs - a) (drop a xs) ≡ drop a xs = take_all (length xs - a) (drop a xs) (omega arith) in
      let none : drop (length xs - a) (drop a xs) ≡ [] = drop_of_length-le (drop a xs) {i = length xs - a} (omega arith) in
      ap (λ (l : List A). take a xs ++ (ys ++ l)) none ∙ ap (λ (l : List A). take a xs ++ l) (append-nil ys ∙ part ∙ ap (written_at_front v) whole)
      ∙ ap₂ (λ (l : List A) (k : ℕ). take k l ++ written_at_front v (drop k l)) front at ∙ front-append w v b

  -- what is written over a shorter front hides it
  pub front-over : (v w b : List A) → length v ≤ length w → written_at_front w (written_at_front v b) ≡ written_at_front w b
  unfolding written_at_front
  front-over v w b h =
      let e : length v + (length w - length v) ≡ length w = omega arith in
      ap (λ (l : List A). w ++ l)
      (ap (λ (k : ℕ). drop k (v ++ drop (length v) b)) (sym e) ∙ drop-append-add v (drop (length v) b) (length w - length v)
      ∙ drop-drop (length w - length v) (length v) b ∙ ap (λ (k : ℕ). drop k b) e)

  -- a table filled from the front, one store a turn: where it begins, and a turn
  pub fill_none : (f : ℕ → A) (b : List A) → written_at_front (map f (up_from 0 0)) b ≡ b
  unfolding up_from
  fill_none f b = front-none b

  pub fill_more : (f : ℕ → A) (b : List A) (i : ℕ) → i < length b → set (written_at_front (map f (up_from 0 i)) b) i (f i) ≡ written_at_front (map f (up_from 0 (i + 1))) b
  fill_more f b i h =
      let w : List A = map f (up_from 0 i) in
      let e : length w ≡ i = length-map-up_from f 0 i in
      ap (λ (k : ℕ). set (written_at_front w b) k (f i)) (sym e) ∙ front-set w b (f i) (omega arith)
      ∙ ap (λ (v : List A). written_at_front v b) (sym (map_last f i))
