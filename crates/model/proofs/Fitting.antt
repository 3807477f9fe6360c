-- The test of fitting says exactly `Fits`: a path map that stays inside the summary is a homomorphism, which gives each node
-- its path, and the rest is test by test what the definition asks. Assumes nothing.
use Prim.Native.Nat.{ℕ, zero, suc, ◌<◌}
use mathlib.Core.Path.{◌≡◌, sym, ap, ◌∙◌, subst}
use mathlib.Core.Bool.{Bool, true, ◌&&◌}
use mathlib.Core.Logic.{◌↔◌}
use mathlib.Core.List.{Memᴰ}
use native.Mathlib.Omega.{arith}
use lib.Dec.{eqb, ltb}
use lib.ListN.{length, get_or}
use borrow.Author.Tests.{ltb-true, eqb-true, lt-ltb, eq-eqb}
use Rattle.model.specs.Lists.{up_from, keep, any_of, all_of}
use Rattle.model.specs.Tree.{Rooted, Document, IsTree, parent_of, label_of, Child, Hom}
use Rattle.model.specs.Summary.{Summary, as_document, no_summary_record, StrongEdge, OnPath, Fits}
use Rattle.model.specs.Facts.{SummaryFacts}
use Rattle.model.specs.Embeddings.{child_test}
use Rattle.model.specs.Fitting.{parent_rule, is_rooted, strong_children, path_map, strong_kept, fits, path_in}
use Rattle.model.proofs.ListLaws.{and_intro, and_left, and_right, all-intro, all-elim, keep-intro, keep-elim, all-below, below_all, any_below, below-any, mem-up_from, mem-at, at_mem}
use Rattle.model.proofs.TreeLaws.{length-as_document, test-child-and, child-and-test}
use Rattle.model.proofs.Paths.{on-path-unique, hom-on-path, length-path_map, inside-hom, path-hom, path-on}

-- ---- trees

-- a table whose parents keep the rule is a tree
pub rooted : (n : ℕ) (parent : ℕ → ℕ) → 0 < n → ((i : ℕ) → i < n → parent_rule i (parent i) ≡ true) → Rooted n parent
unfolding parent_rule
rooted n parent some each = record { inhabited = some; root = eqb-true (parent 0) 0 (each 0 some); earlier = earlier }
  where
    earlier : (i : ℕ) → 0 < i → i < n → parent i < i
    earlier zero p l = absurd (omega arith)
    earlier (suc i) p l = ltb-true (parent (suc i)) (suc i) (each (suc i) l)

-- and a tree's parents keep it
pub rooted-rule : {n : ℕ} {parent : ℕ → ℕ} → Rooted n parent → (i : ℕ) → i < n → parent_rule i (parent i) ≡ true
unfolding parent_rule
rooted-rule {n} {parent} r zero l = eq-eqb (parent 0) 0 r.root
rooted-rule {n} {parent} r (suc i) l = lt-ltb (parent (suc i)) (suc i) (r.earlier (suc i) (omega arith) l)

-- the test of a table says exactly that it is a rooted tree
pub rooted-exact : (n : ℕ) (parent : ℕ → ℕ) → (is_rooted n parent ≡ true) ↔ Rooted n parent
unfolding is_rooted
rooted-exact n parent = (forth, back)
  where
    forth : (ltb 0 n && all_of (λ i. parent_rule i (parent i)) (up_from 0 n)) ≡ true → Rooted n parent
    forth e =
        rooted n parent (ltb-true 0 n (and_left (ltb 0 n) (all_of (λ i. parent_rule i (parent i)) (up_from 0 n)) e))
        (all-below (λ i. parent_rule i (parent i)) n (and_right (ltb 0 n) (all_of (λ i. parent_rule i (parent i)) (up_from 0 n)) e))

    back : Rooted n parent → (ltb 0 n && all_of (λ i. parent_rule i (parent i)) (up_from 0 n)) ≡ true
    back r = and_intro (lt-ltb 0 n r.inhabited) (below_all (λ i. parent_rule i (parent i)) n (rooted-rule r))

-- ---- strong edges

-- the strong children listed are exactly the ends of the strong edges
pub strong-children-exact : (S : Summary) (s t : ℕ) → Memᴰ t (strong_children S s) ↔ StrongEdge S s t
unfolding strong_children
strong-children-exact S s t = (forth, back)
  where
    test : ℕ → Bool
    test u = child_test (as_document S) s u && eqb (get_or S u no_summary_record).strong 1

    forth : Memᴰ t (keep test (up_from 0 (length S))) → StrongEdge S s t
    forth m =
        let r = test-child-and (as_document S) s t (get_or S t no_summary_record).strong 1 (keep-elim test t (up_from 0 (length S)) m).1 in
        record { child = r.0; strong = r.1 }

    back : StrongEdge S s t → Memᴰ t (keep test (up_from 0 (length S)))
    back g =
        let size : length (as_document S) ≡ length S = length-as_document S in
        let low : t < length (as_document S) = g.child.inside in
        keep-intro test t (up_from 0 (length S)) (mem-up_from 0 (length S) t (omega arith) (omega arith)) (child-and-test (get_or S t no_summary_record).strong 1 g.child g.strong)

-- ---- fitting

-- the path map stays inside the summary
pub paths-inside-exact : (S : Summary) (W : Document) → (all_of (λ m. ltb m (length S)) (path_map S W) ≡ true) ↔ ((i : ℕ) → i < length W → path_in S W i < length S)
paths-inside-exact S W = (forth, back)
  where
    size : length (path_map S W) ≡ length W
    size = length-path_map S W

    forth : all_of (λ m. ltb m (length S)) (path_map S W) ≡ true → (i : ℕ) → i < length W → path_in S W i < length S
    forth e i l = ltb-true (path_in S W i) (length S) (all-elim (λ m. ltb m (length S)) (path_map S W) e (path_in S W i) (mem-at (path_map S W) i 0 (omega (arith, size))))

    back : ((i : ℕ) → i < length W → path_in S W i < length S) → all_of (λ m. ltb m (length S)) (path_map S W) ≡ true
    back h = all-intro (λ m. ltb m (length S)) (path_map S W) each
      where
        each : (m : ℕ) → Memᴰ m (path_map S W) → ltb m (length S) ≡ true
        each m k =
            let r = at_mem (path_map S W) m 0 k in
            let l : r.0 < length (path_map S W) = r.1 in
            lt-ltb m (length S) (subst (λ (x : ℕ). x < length S) r.2 (h r.0 (omega (arith, size))))

-- node i has a child on the other end of each strong edge from its path
pub strong-kept-exact : (S : Summary) (W : Document) (i : ℕ) → (strong_kept S W i ≡ true) ↔ ((t : ℕ) → StrongEdge S (path_in S W i) t → (j : ℕ) × Child W i j × (path_in S W j ≡ t))
unfolding strong_kept
strong-kept-exact S W i = (forth, back)
  where
    test : ℕ → ℕ → Bool
    test t j = child_test W i j && eqb (path_in S W j) t

    forth : all_of (λ t. any_of (test t) (up_from 0 (length W))) (strong_children S (path_in S W i)) ≡ true → (t : ℕ) → StrongEdge S (path_in S W i) t → (j : ℕ) × Child W i j × (path_in S W j ≡ t)
    forth e t g =
        let some = all-elim (λ t. any_of (test t) (up_from 0 (length W))) (strong_children S (path_in S W i)) e t ((strong-children-exact S (path_in S W i) t).1 g) in
        let r = any_below (test t) (length W) some in
        let c = test-child-and W i r.0 (path_in S W r.0) t r.2 in
        (r.0, c.0, c.1)

    back : ((t : ℕ) → StrongEdge S (path_in S W i) t → (j : ℕ) × Child W i j × (path_in S W j ≡ t)) → all_of (λ t. any_of (test t) (up_from 0 (length W))) (strong_children S (path_in S W i)) ≡ true
    back h = all-intro (λ t. any_of (test t) (up_from 0 (length W))) (strong_children S (path_in S W i)) each
      where
        each : (t : ℕ) → Memᴰ t (strong_children S (path_in S W i)) → any_of (test t) (up_from 0 (length W)) ≡ true
        each t m =
            let r = h t ((strong-children-exact S (path_in S W i) t).0 m) in
            below-any (test t) (length W) r.0 r.1.inside (child-and-test (path_in S W r.0) t r.1 r.2)

-- what the three tests of fitting say together
record Tested (S : Summary) (W : Document) : Type 0 where
  tree : IsTree W
  inside : (i : ℕ) → i < length W → path_in S W i < length S
  strong : (i : ℕ) → i < length W → (t : ℕ) → StrongEdge S (path_in S W i) t → (j : ℕ) × Child W i j × (path_in S W j ≡ t)

tested-exact : (S : Summary) (W : Document) → (fits S W ≡ true) ↔ Tested S W
unfolding fits
tested-exact S W = (forth, back)
  where
    a : Bool
    a = is_rooted (length W) (parent_of W)

    b : Bool
    b = all_of (λ m. ltb m (length S)) (path_map S W)

    c : Bool
    c = all_of (strong_kept S W) (up_from 0 (length W))

    forth : (a && b && c) ≡ true → Tested S W
    forth e =
        record {
          tree = (rooted-exact (length W) (parent_of W)).0 (and_left a b (and_left (a && b) c e));
          inside = (paths-inside-exact S W).0 (and_right a b (and_left (a && b) c e));
          strong = λ i l. (strong-kept-exact S W i).0 (all-below (strong_kept S W) (length W) (and_right (a && b) c e) i l);
        }

    back : Tested S W → (a && b && c) ≡ true
    back w =
        and_intro (and_intro ((rooted-exact (length W) (parent_of W)).1 w.tree) ((paths-inside-exact S W).1 w.inside))
        (below_all (strong_kept S W) (length W) (λ i l. (strong-kept-exact S W i).1 (w.strong i l)))

tested-fits : {S : Summary} {W : Document} → SummaryFacts S → Tested S W → Fits S W
tested-fits {S} {W} f w =
    record {
      tree = w.tree;
      root = sym (hom.labels 0 w.tree.inhabited) ∙ ap (λ (k : ℕ). label_of (as_document S) k) hom.root;
      paths = λ i l. (path_in S W i, w.inside i l, on i l);
      strong = strong;
    }
  where
    hom : Hom W (as_document S) (path_in S W)
    hom = inside-hom S W w.tree w.inside

    on : (i : ℕ) → i < length W → OnPath S W i (path_in S W i)
    on i l = hom-on-path w.tree hom i l

    strong : (i s t : ℕ) → i < length W → s < length S → OnPath S W i s → StrongEdge S s t → (j : ℕ) × Child W i j × OnPath S W j t
    strong i s t l k o g =
        let e : path_in S W i ≡ s = on-path-unique f (w.inside i l) k (on i l) o in
        let r = w.strong i l t (subst (λ (x : ℕ). StrongEdge S x t) (sym e) g) in
        (r.0, r.1, subst (λ (x : ℕ). OnPath S W r.0 x) r.2 (on r.0 r.1.inside))

fits-tested : {S : Summary} {W : Document} → SummaryFacts S → Fits S W → Tested S W
fits-tested {S} {W} f w =
    record {
      tree = w.tree;
      inside = inside;
      strong = strong;
    }
  where
    hom : Hom W (as_document S) (path_in S W)
    hom = path-hom f w

    size : length (as_document S) ≡ length S
    size = length-as_document S

    inside : (i : ℕ) → i < length W → path_in S W i < length S
    inside i l = subst (λ (n : ℕ). path_in S W i < n) size (hom.inside i l)

    strong : (i : ℕ) → i < length W → (t : ℕ) → StrongEdge S (path_in S W i) t → (j : ℕ) × Child W i j × (path_in S W j ≡ t)
    strong i l t g =
        let r = w.strong i (path_in S W i) t l (inside i l) (hom-on-path w.tree hom i l) g in
        (r.0, r.1, path-on f w r.0 t r.1.inside (subst (λ (n : ℕ). t < n) size g.child.inside) r.2)

-- the test of fitting says exactly that the document fits
pub fits-exact : {S : Summary} → SummaryFacts S → (W : Document) → (fits S W ≡ true) ↔ Fits S W
fits-exact {S} f W = (λ e. tested-fits f ((tested-exact S W).0 e), λ w. (tested-exact S W).1 (fits-tested f w))
