-- Trees that a renumbering turns into each other have one list: the children of a node correspond, their lists are the same by induction,
-- and what is put in order does not depend on the order in which it came. An outline's siblings have different labels, so going by
-- label is going by subtree. Assumes nothing.
use Prim.Native.Nat.{ℕ, zero, suc, ◌+◌, ◌≤◌, ◌<◌}
use mathlib.Core.Path.{◌≡◌, refl, sym, ap, ap₂, ◌∙◌, subst}
use mathlib.Core.Bool.{Bool, true, false}
use mathlib.Core.Logic.{◌⊎◌, inl, inr}
use mathlib.Core.List.{List, [], ◌∷◌, map, flat_map, flatten, Memᴰ, head-eq_of_cons-eq, tail-eq_of_cons-eq}
use native.Mathlib.Omega.{arith}
use lib.Dec.{ltb, leb}
use lib.ListN.{length, get_or}
use borrow.Author.Tests.{ltb-true, ltb-false, le-leb, lt-leb}
use Rattle.model.specs.Lists.{up_from, Ascending}
use Rattle.model.specs.Tree.{Child}
use Rattle.model.specs.Summary.{Summary, as_document, summary_label}
use Rattle.model.specs.Pattern.{PatternRecord, Pattern, no_pattern_record, pattern_parent, IsPatternTree}
use Rattle.model.specs.Facts.{SummaryFacts}
use Rattle.model.specs.Renumbering.{PatternRenumbering}
use Rattle.model.specs.Normal.{not_after, ordered, depth_of, Entry, entry_at, entries, entry_numbers, by_subtree, by_label, is_child_of, children_of, by_written, preorder, listed, table_of, normal_pattern, as_pattern}
use Rattle.model.proofs.ListLaws.{map-agree}
use Rattle.model.proofs.Ascending.{ascending-keep, ascending-up_from, ascending-map}
use Rattle.model.proofs.TreeLaws.{length-as_document}
use Rattle.model.proofs.Renumbering.{renumbering-back, renumbered-not-root, parent_of, label_of, summary-rooted, length-as_pattern, record-as_pattern}
use Rattle.model.proofs.Ordering.{after_same, after_less, after-greater, subtree-order, Unlike, Matched, ordered-ascends, ordered-agree, ordered-matched}
use Rattle.model.proofs.Preorder.{none_or_some, depth-root, depth-child, child-elim, child-intro, child-later, preorder-whole, rows-flat}

-- children stand in the order of their numbers, so each once
pub children-ascend : (P : Pattern) (i : ℕ) → Ascending ◌<◌ (children_of P i)
unfolding children_of
children-ascend P i = ascending-keep ◌<◌ (is_child_of P i) (up_from 0 (length P)) (ascending-up_from 0 (length P))

children-unlike : (P : Pattern) (i : ℕ) → Unlike (children_of P i)
children-unlike P i = apart (children_of P i) (children-ascend P i)
  where
    apart : (xs : List ℕ) → Ascending ◌<◌ xs → Unlike xs
    apart [] a = tt
    apart (x ∷ xs) a = (λ y m e. (let l : x < y = a.0 y m in omega arith), apart xs a.1)

module _ {P Q : Pattern} (s : IsPatternTree P) (t : IsPatternTree Q) (r : PatternRenumbering P Q) where
  -- the root alone goes to the root
  from-later : (j : ℕ) → 0 < j → j < length Q → 0 < r.from j
  unfolding renumbering-back
  from-later j z h = renumbered-not-root (renumbering-back r s) j z h

  depth-within : (n i : ℕ) → i < n → i < length P → depth_of P i ≡ depth_of Q (r.to i)
  depth-within zero i l h = absurd (omega arith)
  depth-within (suc n) i l h = go (none_or_some i) (λ j p q. depth-within n j p q)
    where
      go : (i ≡ 0) ⊎ (0 < i) → ((j : ℕ) → j < n → j < length P → depth_of P j ≡ depth_of Q (r.to j)) → depth_of P i ≡ depth_of Q (r.to i)
      go (inl z) rest = ap (depth_of P) z ∙ depth-root P ∙ sym (depth-root Q) ∙ ap (depth_of Q) (sym r.root) ∙ ap (λ (x : ℕ). depth_of Q (r.to x)) (sym z)
      go (inr z) rest =
          let e : pattern_parent P i < i = s.earlier i z h in
          depth-child P s i z h ∙ ap suc (rest (pattern_parent P i) (omega arith) (omega arith)) ∙ ap (λ (x : ℕ). suc (depth_of Q x)) (sym (r.parents i h))
          ∙ sym (depth-child Q t (r.to i) (renumbered-not-root r i z h) (r.inside i h))

  pub entry-same : (i : ℕ) → i < length P → entry_at P i ≡ entry_at Q (r.to i)
  entry-same i h =
      let f = r.fields i h in
      let g = tail-eq_of_cons-eq f in
      let k = tail-eq_of_cons-eq g in
      let l = tail-eq_of_cons-eq k in
      let d : depth_of P i ≡ depth_of Q (r.to i) = depth-within (suc i) i (omega arith) h in
      λ x. record { depth = d x; label = sym (head-eq_of_cons-eq f) x; edge = sym (head-eq_of_cons-eq g) x; position = sym (head-eq_of_cons-eq k) x; figure = sym (head-eq_of_cons-eq l) x }

  pub children-matched : (i : ℕ) → i < length P → Matched r.to (children_of P i) (children_of Q (r.to i))
  children-matched i h =
      record {
        into = λ c m. (let e = child-elim P i c m in subst (λ (x : ℕ). Memᴰ (r.to c) (children_of Q x)) (r.parents c e.1 ∙ ap r.to e.2) (child-intro Q (r.to c) (renumbered-not-root r c e.0 e.1) (r.inside c e.1)));
        onto = λ d m. (let e = child-elim Q (r.to i) d m in (r.from d, back d e.0 e.1 e.2, r.forth d e.1));
        apart = λ c d m n e. sym (r.back c (child-elim P i c m).1) ∙ ap r.from e ∙ r.back d (child-elim P i d n).1;
        distinct = children-unlike P i;
        images = children-unlike Q (r.to i);
      }
    where
      back : (d : ℕ) → 0 < d → d < length Q → pattern_parent Q d ≡ r.to i → Memᴰ (r.from d) (children_of P i)
      back d z l e =
          let z' : 0 < r.from d = from-later d z l in
          let l' : r.from d < length P = r.inside_back d l in
          let up : pattern_parent P (r.from d) < r.from d = s.earlier (r.from d) z' l' in
          let same : r.to (pattern_parent P (r.from d)) ≡ r.to i = sym (r.parents (r.from d) l') ∙ ap (pattern_parent Q) (r.forth d l) ∙ e in
          let own : pattern_parent P (r.from d) ≡ i = sym (r.back (pattern_parent P (r.from d)) (omega arith)) ∙ ap r.from same ∙ r.back i h in
          subst (λ (x : ℕ). Memᴰ (r.from d) (children_of P x)) own (child-intro P (r.from d) z' l')

  abbrev row_p : ℕ → List Entry
  row_p i = entries P (preorder by_subtree (length P) P i)

  abbrev row_q : ℕ → List Entry
  row_q i = entries Q (preorder by_subtree (length Q) Q i)

  rows-within : (n i : ℕ) → i < length P → length P ≤ n + i → row_p i ≡ row_q (r.to i)
  rows-within zero i h k = absurd (omega arith)
  rows-within (suc n) i h k =
      rows-flat P by_subtree s i h
      ∙ ap (λ (e : Entry). e ∷ flatten (ordered by_subtree (map row_p (children_of P i)))) (entry-same i h)
      ∙ ap (λ (l : List (List Entry)). entry_at Q (r.to i) ∷ flatten l)
      (ordered-matched r.to row_p row_q subtree-order (children_of P i) (children_of Q (r.to i)) (children-matched i h)
      (λ c m. rows-within n c (child-elim P i c m).1 (let l = child-later P s i c m in omega arith)))
      ∙ sym (rows-flat Q by_subtree t (r.to i) (r.inside i h))

  pub listed-alike : listed by_subtree P ≡ listed by_subtree Q
  unfolding listed
  listed-alike = rows-within (length P) 0 s.inhabited (omega arith) ∙ ap row_q r.root

  pub normal-alike : normal_pattern P ≡ normal_pattern Q
  unfolding normal_pattern
  normal-alike = ap table_of listed-alike

-- ---- outlines: siblings by label, which differ, are siblings by subtree

module _ (S : Summary) (f : SummaryFacts S) where
  -- the outline read as a selection
  abbrev read : Pattern
  read = as_pattern S

  pub summary-tree : IsPatternTree (as_pattern S)
  summary-tree =
      let n = length-as_pattern S in
      let t = summary-rooted S f.tree in
      record {
        inhabited = (let l = t.inhabited in omega arith);
        root = ap (λ (r : PatternRecord). r.parent) (record-as_pattern S 0) ∙ t.root;
        earlier = λ i z h. subst (λ (r : PatternRecord). r.parent < i) (sym (record-as_pattern S i)) (t.earlier i z (omega arith));
      }

  -- a child's number is a child of the outline
  child-of : (i c : ℕ) → Memᴰ c (children_of read i) → Child (as_document S) i c
  child-of i c m =
      let e = child-elim read i c m in
      let n = length-as_pattern S in
      let k = length-as_document S in
      record { not_root = e.0; inside = (let l = e.1 in omega arith); is_parent = parent_of S c ∙ ap (λ (r : PatternRecord). r.parent) (sym (record-as_pattern S c)) ∙ e.2 }

  label-read : (c : ℕ) → (get_or read c no_pattern_record).label ≡ summary_label S c
  label-read c = ap (λ (r : PatternRecord). r.label) (record-as_pattern S c) ∙ sym (label_of S c)

  abbrev row_of : ℕ → List Entry
  row_of c = entries read (preorder by_subtree (length read) read c)

  -- two siblings: as deep as each other, with different labels
  by-labels : (d k l : ℕ) (us vs : List ℕ) → (k ≡ l → ⊥) → leb k l ≡ not_after (d ∷ k ∷ us) (d ∷ l ∷ vs)
  by-labels d k l us vs ne = go (ltb k l) refl ∙ sym (after_same d d (k ∷ us) (l ∷ vs) refl)
    where
      go : (t : Bool) → ltb k l ≡ t → leb k l ≡ not_after (k ∷ us) (l ∷ vs)
      go true q = let h : k < l = ltb-true k l q in le-leb k l (omega arith) ∙ sym (after_less k l us vs h)
      go false q = let h : l ≤ k = ltb-false k l q in lt-leb k l (omega arith) ∙ sym (after-greater k l us vs (omega arith))

  sibling-same : (i c d : ℕ) → Memᴰ c (children_of read i) → Memᴰ d (children_of read i) → c < d → by_label (row_of c) (row_of d) ≡ by_subtree (row_of c) (row_of d)
  unfolding by_label by_subtree flat_map
  sibling-same i c d m n l =
      let e = child-elim read i c m in
      let g = child-elim read i d n in
      let deep : (x : ℕ) → (0 < x) × (x < length read) × (pattern_parent read x ≡ i) → depth_of read x ≡ suc (depth_of read i) = λ x h. depth-child read summary-tree x h.0 h.1 ∙ ap (λ (p : ℕ). suc (depth_of read p)) h.2 in
      let level : depth_of read c ≡ depth_of read d = deep c e ∙ sym (deep d g) in
      let ne : (get_or read c no_pattern_record).label ≡ (get_or read d no_pattern_record).label → ⊥ =
      λ q. (let same : c ≡ d = f.siblings i c d (child-of i c m) (child-of i d n) (sym (label-read c) ∙ q ∙ label-read d) in omega arith) in
      ap₂ by_label (rows-flat read by_subtree summary-tree c e.1) (rows-flat read by_subtree summary-tree d g.1)
      ∙ by-labels (depth_of read c) (get_or read c no_pattern_record).label (get_or read d no_pattern_record).label (rest c) (rest d) ne
      ∙ ap (λ (x : ℕ). not_after (depth_of read c ∷ (get_or read c no_pattern_record).label ∷ rest c) (x ∷ (get_or read d no_pattern_record).label ∷ rest d)) level
      ∙ ap₂ by_subtree (sym (rows-flat read by_subtree summary-tree c e.1)) (sym (rows-flat read by_subtree summary-tree d g.1))
    where
      below : ℕ → List Entry
      below x = flatten (ordered by_subtree (map row_of (children_of read x)))

      rest : ℕ → List ℕ
      rest x = (get_or read x no_pattern_record).edge ∷ (get_or read x no_pattern_record).position ∷ (get_or read x no_pattern_record).figure ∷ flat_map entry_numbers (below x)

  preorder-same : (n i : ℕ) → i < length read → length read ≤ n + i → preorder by_label (length read) read i ≡ preorder by_subtree (length read) read i
  preorder-same zero i h k = absurd (omega arith)
  preorder-same (suc n) i h k =
      preorder-whole read by_label summary-tree i h
      ∙ ap (λ (os : List (List ℕ)). i ∷ flatten (ordered (by_written by_label read) os))
      (map-agree (preorder by_label (length read) read) (preorder by_subtree (length read) read) (children_of read i)
      (λ c m. preorder-same n c (child-elim read i c m).1 (let l = child-later read summary-tree i c m in omega arith)))
      ∙ ap (λ (os : List (List ℕ)). i ∷ flatten os)
      (ordered-agree (by_written by_label read) (by_written by_subtree read) (map (preorder by_subtree (length read) read) (children_of read i))
      (ascending-map ◌<◌ (λ a b. by_written by_label read a b ≡ by_written by_subtree read a b) (preorder by_subtree (length read) read) (children_of read i)
      (λ c d m l h. sibling-same i c d m l h) (children-ascend read i)))
      ∙ sym (preorder-whole read by_subtree summary-tree i h)

  pub by-label-order : preorder by_label (length (as_pattern S)) (as_pattern S) 0 ≡ preorder by_subtree (length (as_pattern S)) (as_pattern S) 0
  by-label-order = preorder-same (length read) 0 summary-tree.inhabited (omega arith)

  pub by-label-alike : listed by_label (as_pattern S) ≡ listed by_subtree (as_pattern S)
  unfolding listed
  by-label-alike = ap (entries read) by-label-order

-- ---- siblings in their order

-- the children's subtrees go by what is written of them, of a selection
pub siblings-ascend : (P : Pattern) (i : ℕ) → Ascending (λ a b. by_subtree (entries P a) (entries P b) ≡ true) (ordered (by_written by_subtree P) (map (preorder by_subtree (length P) P) (children_of P i)))
siblings-ascend P i =
    ordered-ascends (by_written by_subtree P) (λ a b. subtree-order.total (entries P a) (entries P b)) (λ a b c. subtree-order.trans (entries P a) (entries P b) (entries P c))
    (map (preorder by_subtree (length P) P) (children_of P i))
