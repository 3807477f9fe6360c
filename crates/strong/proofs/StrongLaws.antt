-- Gathering strong children: after the turns below t each node's mask has its strong children below t, and past the last node there
-- are none. Assumes nothing.
use Prim.Native.Nat.{ℕ, ◌+◌, ◌≤◌, ◌<◌}
use mathlib.Core.Path.{◌≡◌, refl, sym, ◌∙◌, subst}
use mathlib.Core.Bool.{Bool, true, false, ◌&&◌}
use mathlib.Core.List.{List}
use native.Mathlib.Omega.{arith}
use native.Mathlib.Nat.{lt_of_lt_of_le}
use lib.Dec.{eqb, ltb}
use lib.ListN.{length, get_or, set, replicate, length-replicate, get_or-replicate, length-set}
use lib.Pow.{pow_mono}
use lib.Seq.{ext_get_or, get_or-set_same, get_or-set_other}
use borrow.Author.Tests.{eqb-true, eqb-false, ltb-true, ltb-false, lt-ltb, eq-eqb, ne_eqb}
use Rattle.model.specs.Limits.{max_summary}
use Rattle.model.specs.Lists.{mask_below, has}
use Rattle.model.specs.Tree.{IsTree}
use Rattle.model.specs.Summary.{Summary, as_document, no_summary_record, summary_parent}
use Rattle.model.specs.Embeddings.{child_test}
use Rattle.model.specs.Fitting.{strong_test}
use Rattle.model.specs.Strong.{strong_table}
use Rattle.model.proofs.ListLaws.{by_bool, length-map-up_from}
use Rattle.model.proofs.Masks.{mask_lt, mask_below_lem, mask-past}
use Rattle.model.proofs.Strong.{strong-past, strong-entry}
use Rattle.model.proofs.TreeLaws.{length-as_document}
use Rattle.bits.specs.Sets.{insert_if}
use Rattle.bits.proofs.MaskLaws.{mask-of, mask_step, mask-step-out}

-- the test of a strong edge, case by case
module _ (S : Summary) (s t : ℕ) where
  strong-elsewhere : (summary_parent S t ≡ s → ⊥) → strong_test S s t ≡ false
  unfolding child_test
  strong-elsewhere ne =
      by_bool (λ (b : Bool). (b && eqb (summary_parent S t) s && eqb (get_or S t no_summary_record).strong 1) ≡ false) (ltb 0 t && ltb t (length (as_document S)))
      (rw (ne_eqb (summary_parent S t) s ne)) refl

  strong-by-edge : 0 < t → t < length S → summary_parent S t ≡ s → eqb (get_or S t no_summary_record).strong 1 ≡ strong_test S s t
  unfolding child_test
  strong-by-edge z h e =
      let l : t < length (as_document S) = (let n = length-as_document S in omega arith) in
      rw (lt-ltb 0 t z, lt-ltb t (length (as_document S)) l, eq-eqb (summary_parent S t) s e)

-- the loop: node t is next
pub record Gathering (S : Summary) (strong : List ℕ) (t : ℕ) : Type 0 where
  pub started : 0 < t
  pub turns : t ≤ length S
  pub size : length strong ≡ max_summary
  pub row : (s : ℕ) → s < max_summary → get_or strong s 0 ≡ mask_below (strong_test S s) t

module _ {S : Summary} (tree : IsTree (as_document S)) (few : length S ≤ max_summary) where
  pub gathering-start : Gathering S (replicate max_summary 0) 1
  unfolding mask_below child_test
  gathering-start =
      record {
        started = omega arith;
        turns = omega (arith, tree.inhabited, length-as_document S);
        size = length-replicate {A = ℕ} max_summary 0;
        row = λ s h. get_or-replicate {A = ℕ} max_summary s 0 0 h;
      }

  module _ {strong : List ℕ} {t : ℕ} (g : Gathering S strong t) where
    -- the parent's mask is in the table
    pub gathering-up : {p : ℕ} → t < length S → p ≡ summary_parent S t → p < max_summary
    gathering-up {p} h e =
        let up : summary_parent S t < t = tree.earlier t g.started (omega (arith, length-as_document S)) in
        omega arith

    pub gathering-next : {p y : ℕ} {b : Bool} → t < length S → p ≡ summary_parent S t → b ≡ eqb (get_or S t no_summary_record).strong 1
        → y ≡ insert_if b (get_or strong p 0) t → Gathering S (set strong p y) (t + 1)
    gathering-next {p} {y} {b} h e f w =
        record { started = omega arith; turns = omega arith; size = length-set strong p y ∙ g.size; row = λ s l. go s l (eqb p s) refl }
      where
        go : (s : ℕ) → s < max_summary → (d : Bool) → eqb p s ≡ d → get_or (set strong p y) s 0 ≡ mask_below (strong_test S s) (t + 1)
        go s l true q =
            let same : p ≡ s = eqb-true p s q in
            subst (λ (i : ℕ). get_or (set strong p y) i 0 ≡ mask_below (strong_test S i) (t + 1)) same
            (get_or-set_same strong p y 0 (omega (arith, g.size, gathering-up h e)) ∙ w
            ∙ mask_step (strong_test S p) t (get_or strong p 0) b (g.row p (gathering-up h e)) (f ∙ strong-by-edge S p t g.started h (sym e)))
        go s l false q =
            get_or-set_other strong p s y 0 (λ i. eqb-false p s q (sym i))
            ∙ mask-step-out (strong_test S s) t (get_or strong s 0) (g.row s l) (strong-elsewhere S s t (λ i. eqb-false p s q (e ∙ i)))

    -- past the last node there is no child
    all-gathered : (s : ℕ) → t ≡ length S → mask_below (strong_test S s) t ≡ mask_below (strong_test S s) max_summary
    all-gathered s e =
        mask-of (strong_test S s) max_summary (mask_below (strong_test S s) t) (lt_of_lt_of_le (mask_lt (strong_test S s) t) (pow_mono {j = max_summary} (omega arith))) (λ i h. go i (ltb i t) refl)
      where
        go : (i : ℕ) (d : Bool) → ltb i t ≡ d → has (mask_below (strong_test S s) t) i ≡ strong_test S s i
        go i true q = mask_below_lem (strong_test S s) t i (ltb-true i t q)
        go i false q = let l : t ≤ i = ltb-false i t q in mask-past (strong_test S s) t i l ∙ sym (strong-past S s i (omega arith))

    pub gathering-end : length S ≤ t → strong ≡ strong_table S
    unfolding strong_table
    gathering-end h =
        ext_get_or 0 strong (strong_table S) (g.size ∙ sym (length-map-up_from (λ s. mask_below (strong_test S s) max_summary) 0 max_summary))
        (λ s l. let k : s < max_summary = omega (arith, g.size) in g.row s k ∙ all-gathered s (omega (arith, g.turns)) ∙ sym (strong-entry S s k))
