-- Questions 5 and 6 by what the code reads: the summary's records and its nodes read as a document's agree, and siblings stand after their
-- parent. Assumes nothing.
use Prim.Native.Nat.{ℕ, zero, suc, ◌-◌, ◌≤◌, ◌<◌}
use mathlib.Core.Path.{◌≡◌, refl, sym, ap, ◌∙◌}
use mathlib.Core.Bool.{Bool, true, false, ◌&&◌, ◌||◌, not}
use mathlib.Core.Logic.{◌⊎◌, inl, inr}
use native.Mathlib.Omega.{arith}
use lib.Dec.{eqb, leb, ltb}
use lib.ListN.{length, get_or, get_or-map}
use borrow.Author.Tests.{ne_eqb, le-ltb, ltb-true, ltb-false}
use Rattle.model.specs.Lists.{up_from, all_of}
use Rattle.model.specs.Tree.{DocumentRecord, no_document_record, Rooted}
use Rattle.model.specs.Summary.{Summary, no_summary_record, without_strong, as_document, summary_parent, summary_label}
use Rattle.model.specs.Fitting.{parent_rule}
use Rattle.model.specs.Questions.{summary_record_kept, summary_kept, alike}
use Rattle.model.proofs.Fitting.{rooted}
use Rattle.model.proofs.ListLaws.{bool-ext, true-or-false, and_left, all-intro, all-elim, all-below, below_all, mem-up_from, up_from-mem}
use Rattle.questions.specs.Rules.{flag_rule}
use Rattle.questions.proofs.TestLaws.{and_assoc}

module _ (S : Summary) (i : ℕ) where
  same-node : get_or (as_document S) i no_document_record ≡ without_strong (get_or S i no_summary_record)
  same-node = get_or-map without_strong S i no_summary_record

  abbrev strong_of : ℕ
  strong_of = (get_or S i no_summary_record).strong

  -- 5, with the rule for the flag by itself
  pub by_rules : (parent_rule i (summary_parent S i) && ltb 0 (summary_label S i) && flag_rule i strong_of) ≡ summary_record_kept S i
  unfolding summary_record_kept
  by_rules =
      ap (λ (d : DocumentRecord). parent_rule i d.parent && ltb 0 d.label && flag_rule i strong_of) same-node
      ∙ sym (and_assoc (parent_rule i (get_or S i no_summary_record).parent && ltb 0 (get_or S i no_summary_record).label) (leb strong_of 1) (ltb 0 i || eqb strong_of 0))

-- where question 5 was answered yes, parents come first, so no node up to j's parent is its sibling
module _ (S : Summary) (kept : summary_kept S ≡ true) where
  parents : (j : ℕ) → j < length S → Rooted (length S) (summary_parent S)
  unfolding summary_kept summary_record_kept
  parents j h =
      rooted (length S) (summary_parent S) (omega arith)
      (λ i l. (let k : summary_record_kept S i ≡ true = all-below (summary_record_kept S) (length S) kept i l in
      ap (λ (d : DocumentRecord). parent_rule i d.parent) (same-node S i) ∙ and_left _ _ (and_left _ _ (and_left _ _ k))))

  parent-first : (j : ℕ) → j < length S → summary_parent S j ≤ j
  parent-first zero h = let e : summary_parent S 0 ≡ 0 = (parents 0 h).root in omega arith
  parent-first (suc j) h = let l : summary_parent S (suc j) < suc j = (parents (suc j) h).earlier (suc j) (omega arith) h in omega arith

  not-sibling : (j i : ℕ) → j < length S → i ≤ summary_parent S j → alike S i j ≡ false
  unfolding alike
  not-sibling j zero h l = ap (λ (b : Bool). b && eqb (summary_parent S 0) (summary_parent S j) && eqb (summary_label S 0) (summary_label S j)) (le-ltb 0 0 (omega arith))
  not-sibling j (suc i) h l =
      let p : summary_parent S j ≤ j = parent-first j h in
      let q : summary_parent S (suc i) < suc i = (parents j h).earlier (suc i) (omega arith) (omega arith) in
      ap (λ (b : Bool). ltb 0 (suc i) && b && eqb (summary_label S (suc i)) (summary_label S j)) (ne_eqb (summary_parent S (suc i)) (summary_parent S j) (λ e. omega arith)) ∙ middle (ltb 0 (suc i)) (eqb (summary_label S (suc i)) (summary_label S j))
    where
      middle : (a c : Bool) → (a && false && c) ≡ false
      middle true c = refl
      middle false c = refl

  -- so the nodes from the parent on decide
  pub from_parent : (j first : ℕ) (r : Bool) → j < length S → first ≡ summary_parent S j → r ≡ all_of (λ i. not (alike S i j)) (up_from first (j - first))
      → r ≡ all_of (λ i. not (alike S i j)) (up_from 0 j)
  from_parent j first r h p e = e ∙ bool-ext (all_of (λ i. not (alike S i j)) (up_from first (j - first))) (all_of (λ i. not (alike S i j)) (up_from 0 j)) forth back
    where
      forth : all_of (λ i. not (alike S i j)) (up_from first (j - first)) ≡ true → all_of (λ i. not (alike S i j)) (up_from 0 j) ≡ true
      forth t = below_all (λ i. not (alike S i j)) j (λ i l. go i l (true-or-false (ltb i first)))
        where
          go : (i : ℕ) → i < j → (ltb i first ≡ true) ⊎ (ltb i first ≡ false) → not (alike S i j) ≡ true
          go i l (inl y) = let m = ltb-true i first y in ap not (not-sibling j i h (omega arith))
          go i l (inr n) = let m = ltb-false i first n in all-elim (λ i. not (alike S i j)) (up_from first (j - first)) t i (mem-up_from first (j - first) i (omega arith) (omega arith))

      back : all_of (λ i. not (alike S i j)) (up_from 0 j) ≡ true → all_of (λ i. not (alike S i j)) (up_from first (j - first)) ≡ true
      back t = all-intro (λ i. not (alike S i j)) (up_from first (j - first)) (λ x m. let r = up_from-mem first (j - first) x m in all-below (λ i. not (alike S i j)) j t x (omega arith))
