-- Laws of the path map: the search for a child with a label starts after its parent, the root's entry compares labels, each further
-- entry comes from its parent's, so the table fills up in order. Assumes nothing.
use Prim.Native.Nat.{ℕ, ◌+◌, ◌≤◌, ◌<◌}
use mathlib.Core.Path.{◌≡◌, refl, sym, ap, ap₂, ◌∙◌, subst}
use mathlib.Core.Bool.{Bool, true, false, ◌&&◌}
use mathlib.Core.List.{List}
use native.Mathlib.Omega.{arith}
use lib.Dec.{eqb}
use lib.ListN.{length, get_or}
use borrow.Author.Count.{below_more}
use borrow.Author.Tests.{lt-ltb, eq-eqb, ne_eqb}
use Rattle.model.specs.Lists.{up_from}
use Rattle.model.specs.Tree.{Document, IsTree, parent_of, label_of}
use Rattle.model.specs.Summary.{Summary, as_document, summary_parent, summary_label}
use Rattle.model.specs.Embeddings.{child_test}
use Rattle.model.specs.Fitting.{child_labelled, path_in}
use Rattle.model.proofs.ListLaws.{first-miss, up_from-mem, and_left}
use Rattle.model.proofs.TreeLaws.{length-as_document, test-child, rooted-lt}
use Rattle.model.proofs.Paths.{path-root, path-next}
use Rattle.fitting.specs.Steps.{labelled_at, OnPaths}
use Rattle.fitting.proofs.LoopLaws.{first-at}

-- ---- the child with a label

-- the model's test
abbrev child_with : Summary → ℕ → ℕ → ℕ → Bool
child_with S s l t = child_test (as_document S) s t && eqb (summary_label S t) l

-- none of the numbers below i is a child of s with label l
pub record Missed (S : Summary) (s l i : ℕ) : Type 0 where
  pub after : s < i
  pub turns : i ≤ length S
  pub none : (j : ℕ) → j < i → child_with S s l j ≡ false

module _ (S : Summary) (s l : ℕ) where
  -- of a number inside that is not the root's the two tests say the same
  by-fields : (t : ℕ) → 0 < t → t < length S → child_with S s l t ≡ labelled_at S s l t
  unfolding child_test
  by-fields t p h =
      let size : length (as_document S) ≡ length S = length-as_document S in
      ap₂ (λ (a b : Bool). a && b && eqb (summary_parent S t) s && eqb (summary_label S t) l) (lt-ltb 0 t p) (lt-ltb t (length (as_document S)) (omega arith))

  -- a child stands after its parent
  pub missed-start : IsTree (as_document S) → s < length S → Missed S s l (s + 1)
  missed-start tree h = record { after = omega arith; turns = omega arith; none = λ j k. go j k (child_with S s l j) refl }
    where
      go : (j : ℕ) → j < s + 1 → (b : Bool) → child_with S s l j ≡ b → b ≡ false
      go j k true e =
          let c = test-child (as_document S) s j (and_left (child_test (as_document S) s j) (eqb (summary_label S j) l) e) in
          let up : s < j = rooted-lt tree c.not_root c.inside c.is_parent in
          absurd (omega arith)
      go j k false e = refl

  pub missed-step : {i : ℕ} → Missed S s l i → i < length S → labelled_at S s l i ≡ false → Missed S s l (i + 1)
  missed-step {i} m h e =
      record { after = omega arith; turns = omega arith; none = below_more (λ j. child_with S s l j ≡ false) i m.none (by-fields i (omega arith) h ∙ e) }

  -- the search stops at the first child with the label
  pub child-found : {i : ℕ} → Missed S s l i → i < length S → labelled_at S s l i ≡ true → i ≡ child_labelled S s l
  unfolding child_labelled
  child-found {i} m h e = sym (first-at (child_with S s l) (length S) (length S) i h (by-fields i (omega arith) h ∙ e) m.none)

  -- or passes all
  pub child-none : {i : ℕ} → Missed S s l i → length S ≤ i → length S ≡ child_labelled S s l
  unfolding child_labelled
  child-none {i} m h =
      sym (first-miss (child_with S s l) (length S) (up_from 0 (length S)) (λ x k. let inside = up_from-mem 0 (length S) x k in m.none x (omega arith)))

-- ---- the entry of a node

module _ (S : Summary) (W : Document) where
  pub root-same : 0 < length W → label_of W 0 ≡ summary_label S 0 → 0 ≡ path_in S W 0
  root-same h e = sym (path-root S W h ∙ ap (λ (b : Bool). elim b as (λ _. ℕ) [ true ↦ 0 | false ↦ length S ]) (eq-eqb (label_of W 0) (summary_label S 0) e))

  pub root-other : 0 < length W → (label_of W 0 ≡ summary_label S 0 → ⊥) → length S ≡ path_in S W 0
  root-other h e = sym (path-root S W h ∙ ap (λ (b : Bool). elim b as (λ _. ℕ) [ true ↦ 0 | false ↦ length S ]) (ne_eqb (label_of W 0) (summary_label S 0) e))

  -- any other's: p is the parent's number, s its entry
  pub next-entry : {path : List ℕ} {i p s r : ℕ} → IsTree W → OnPaths S W path i → 0 < i → i < length W → p ≡ parent_of W i → s ≡ get_or path p 0
      → r ≡ child_labelled S s (label_of W i) → r ≡ path_in S W i
  next-entry {path} {i} {p} {s} {r} tree on pos h e f g =
      let up : p < i = subst (λ (x : ℕ). x < i) (sym e) (tree.earlier i pos h) in
      g ∙ ap (λ (k : ℕ). child_labelled S k (label_of W i)) (f ∙ on.same p up ∙ ap (path_in S W) e) ∙ sym (path-next S W tree i pos h)

-- that entry is a summary node
pub parent-inside : {S : Summary} {W : Document} {path : List ℕ} {i p s : ℕ} → IsTree W → OnPaths S W path i → 0 < i → i < length W → p ≡ parent_of W i → s ≡ get_or path p 0
    → s < length S
parent-inside {S} {W} {path} {i} {p} {s} tree on pos h e f =
    let up : p < i = subst (λ (x : ℕ). x < i) (sym e) (tree.earlier i pos h) in
    subst (λ (x : ℕ). x < length S) (sym f) (on.inside p up)

-- ---- the table

-- the first i entries stand in it
pub record Filling (S : Summary) (W : Document) (path : List ℕ) (i : ℕ) : Type 0 where
  pub turns : i ≤ length W
  pub room : length W ≤ length path
  pub on : OnPaths S W path i

module _ {S : Summary} {W : Document} {path : List ℕ} where
  pub filling-start : length W ≤ length path → Filling S W path 0
  filling-start room = record { turns = omega arith; room = room; on = record { same = λ v h. absurd (omega arith); inside = λ v h. absurd (omega arith) } }

  -- all of them do
  pub filling-end : {i : ℕ} → Filling S W path i → length W ≤ i → OnPaths S W path (length W)
  filling-end {i} f h = let done : i ≡ length W = omega arith in subst (λ (k : ℕ). OnPaths S W path k) done f.on
