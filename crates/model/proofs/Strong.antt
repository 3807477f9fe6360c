-- The table of strong children has for each outline node exactly its strong children, in outline order: a mask's members are read in
-- ascending order, and no child stands past the outline's last node. Assumes nothing.
use Prim.Native.Nat.{ℕ, ◌+◌, ◌-◌, ◌≤◌, ◌<◌}
use mathlib.Core.Path.{◌≡◌, refl, sym, ap, ◌∙◌}
use mathlib.Core.Bool.{Bool, true, false}
use mathlib.Core.List.{map, map-map}
use native.Mathlib.Omega.{arith}
use native.Mathlib.Nat.{zero-add}
use lib.ListN.{length, get_or}
use Rattle.model.specs.Limits.{max_summary}
use Rattle.model.specs.Lists.{up_from, keep, has, mask_below, members}
use Rattle.model.specs.Summary.{Summary, as_document, no_summary_record}
use Rattle.model.specs.Fitting.{strong_test, strong_children}
use Rattle.model.specs.Strong.{strong_table}
use Rattle.model.proofs.ListLaws.{up_from-mem, map-agree, get_or-map-up_from}
use Rattle.model.proofs.KeepLaws.{keep-past}
use Rattle.model.proofs.Masks.{mask_below_lem, members-mask}
use Rattle.model.proofs.TreeLaws.{test-child-and, length-as_document}

module _ (S : Summary) (s : ℕ) where
  -- no child stands past the last node
  pub strong-past : (t : ℕ) → length S ≤ t → strong_test S s t ≡ false
  strong-past t h = go (strong_test S s t) refl
    where
      go : (b : Bool) → strong_test S s t ≡ b → strong_test S s t ≡ false
      go true e =
          let k : t < length (as_document S) = (test-child-and (as_document S) s t (get_or S t no_summary_record).strong 1 e).0.inside in
          let n : length (as_document S) ≡ length S = length-as_document S in
          absurd (omega arith)
      go false e = e

  module _ (inside : s < max_summary) where
    pub strong-entry : get_or (strong_table S) s 0 ≡ mask_below (strong_test S s) max_summary
    unfolding strong_table
    strong-entry = get_or-map-up_from (λ s. mask_below (strong_test S s) max_summary) 0 max_summary s 0 inside ∙ ap (λ (x : ℕ). mask_below (strong_test S x) max_summary) (zero-add s)

    pub strong-bit : (t : ℕ) → t < max_summary → has (get_or (strong_table S) s 0) t ≡ strong_test S s t
    strong-bit t h = ap (λ (m : ℕ). has m t) strong-entry ∙ mask_below_lem (strong_test S s) max_summary t h

    -- the members of a node's mask are its strong children, in outline order
    pub strong-members : length S ≤ max_summary → members (get_or (strong_table S) s 0) ≡ strong_children S s
    unfolding strong_children
    strong-members few =
        let e : max_summary ≡ length S + (max_summary - length S) = omega arith in
        ap members strong-entry ∙ members-mask (strong_test S s) max_summary (omega arith)
        ∙ ap (λ (n : ℕ). keep (strong_test S s) (up_from 0 n)) e
        ∙ keep-past (strong_test S s) 0 (length S) (max_summary - length S) (λ t h. strong-past t (omega arith))

-- the whole table: for each outline node exactly its strong children, in outline order
pub strong-gathered : (S : Summary) → length S ≤ max_summary → map members (strong_table S) ≡ map (strong_children S) (up_from 0 max_summary)
unfolding strong_table
strong-gathered S few =
    map-map members mask (up_from 0 max_summary)
    ∙ map-agree (λ s. members (mask s)) (strong_children S) (up_from 0 max_summary)
    (λ s m. let h = up_from-mem 0 max_summary s m in let l : s < max_summary = omega arith in ap members (sym (strong-entry S s l)) ∙ strong-members S s l few)
  where
    mask : ℕ → ℕ
    mask s = mask_below (strong_test S s) max_summary
