-- Which summary node a document's node is on. A node has one path of labels, and by the different labels of siblings a path
-- belongs to one summary node. The path map, which steps down by labels, finds it. Assumes nothing.
use Prim.Native.Nat.{ℕ, zero, suc, ◌+◌, ◌<◌}
use mathlib.Core.Path.{◌≡◌, refl, sym, ap, ◌∙◌, subst}
use mathlib.Core.Bool.{Bool, true, false, ◌&&◌}
use mathlib.Core.Logic.{◌⊎◌, inl, inr}
use mathlib.Core.List.{List, [], ◌∷◌, ◌++◌}
use native.Mathlib.Omega.{arith}
use native.Mathlib.Nat.{add-zero}
use lib.Dec.{eqb}
use lib.ListN.{length, get_or, get_or-append}
use lib.Seq.{get_or-append_seam}
use borrow.Author.Tests.{eqb-true, eq-eqb}
use Rattle.model.specs.Lists.{up_from}
use Rattle.model.specs.Tree.{DocumentRecord, no_document_record, Document, IsTree, parent_of, label_of, Child, LabelPath, Hom}
use Rattle.model.specs.Summary.{Summary, as_document, summary_parent, summary_label, OnPath, Fits}
use Rattle.model.specs.Facts.{SummaryFacts}
use Rattle.model.specs.Embeddings.{child_test}
use Rattle.model.specs.Fitting.{child_labelled, next_path, paths_from, path_map, path_in}
use Rattle.model.proofs.ListLaws.{length-snoc, mem-up_from, first-hit, first-or}
use Rattle.model.proofs.TreeLaws.{length-as_document, test-child-and, child-and-test}

-- ---- paths of labels

-- a node's path is its label and then its parent's path
path-cons : (W : Document) (i : ℕ) (ls : List ℕ) → 0 < i → LabelPath W (parent_of W i) ls → LabelPath W i (label_of W i ∷ ls)
path-cons W i [] p h = absurd h
path-cons W i (l ∷ ls) p h = (p, refl, h)

-- a node has one path
pub label-path-unique : (W : Document) (i : ℕ) (ls ms : List ℕ) → LabelPath W i ls → LabelPath W i ms → ls ≡ ms
label-path-unique W i [] ms a b = absurd a
label-path-unique W i (l ∷ []) [] a b = absurd b
label-path-unique W i (l ∷ l' ∷ ls) [] a b = absurd b
label-path-unique W i (l ∷ []) (m ∷ []) a b = ap (λ (x : ℕ). x ∷ []) (sym a.1 ∙ b.1)
label-path-unique W i (l ∷ []) (m ∷ m' ∷ ms) a b = let z : i ≡ 0 = a.0 in let p : 0 < i = b.0 in absurd (omega arith)
label-path-unique W i (l ∷ l' ∷ ls) (m ∷ []) a b = let z : i ≡ 0 = b.0 in let p : 0 < i = a.0 in absurd (omega arith)
label-path-unique W i (l ∷ l' ∷ ls) (m ∷ m' ∷ ms) a b =
    let rest : (l' ∷ ls) ≡ (m' ∷ ms) = label-path-unique W (parent_of W i) (l' ∷ ls) (m' ∷ ms) a.2 b.2 in
    let here : l ≡ m = sym a.1 ∙ b.1 in
    cc (here, rest)

-- a homomorphism keeps paths
pub hom-label-path : {W D : Document} {h : ℕ → ℕ} → IsTree W → Hom W D h → (ls : List ℕ) (i : ℕ) → i < length W → LabelPath W i ls → LabelPath D (h i) ls
hom-label-path t m [] i l a = a
hom-label-path {h = h} t m (x ∷ []) i l a = (ap h a.0 ∙ m.root, m.labels i l ∙ a.1)
hom-label-path {W} {D} {h} t m (x ∷ y ∷ ls) i l a =
    let up : parent_of W i < i = t.earlier i a.0 l in
    let c : Child D (h (parent_of W i)) (h i) = m.children (parent_of W i) i (record { not_root = a.0; inside = l; is_parent = refl }) in
    let rest : LabelPath D (h (parent_of W i)) (y ∷ ls) = hom-label-path t m (y ∷ ls) (parent_of W i) (omega arith) a.2 in
    (c.not_root, m.labels i l ∙ a.1, subst (λ (k : ℕ). LabelPath D k (y ∷ ls)) (sym c.is_parent) rest)

-- every node of a tree has a path
path-below : (W : Document) → IsTree W → (n i : ℕ) → i < n → i < length W → (ls : List ℕ) × LabelPath W i ls
path-below W t zero i b l = absurd (omega arith)
path-below W t (suc n) zero b l = (label_of W 0 ∷ [], (refl, refl))
path-below W t (suc n) (suc i) b l =
    let up : parent_of W (suc i) < suc i = t.earlier (suc i) (omega arith) l in
    let r : (ls : List ℕ) × LabelPath W (parent_of W (suc i)) ls = path-below W t n (parent_of W (suc i)) (omega arith) (omega arith) in
    (label_of W (suc i) ∷ r.0, path-cons W (suc i) r.0 (omega arith) r.1)

pub has-label-path : (W : Document) → IsTree W → (i : ℕ) → i < length W → (ls : List ℕ) × LabelPath W i ls
has-label-path W t i l = path-below W t (suc i) i (omega arith) l

-- two summary nodes with one path are one
pub summary-path-unique : {S : Summary} → SummaryFacts S → (ls : List ℕ) (s t : ℕ) → s < length S → t < length S → LabelPath (as_document S) s ls → LabelPath (as_document S) t ls → s ≡ t
summary-path-unique f [] s t p q a b = absurd a
summary-path-unique f (x ∷ []) s t p q a b = a.0 ∙ sym b.0
summary-path-unique {S} f (x ∷ y ∷ ls) s t p q a b =
    let size : length (as_document S) ≡ length S = length-as_document S in
    let ps : s < length (as_document S) = omega arith in
    let qt : t < length (as_document S) = omega arith in
    let us : summary_parent S s < s = f.tree.earlier s a.0 ps in
    let ut : summary_parent S t < t = f.tree.earlier t b.0 qt in
    let up : summary_parent S s ≡ summary_parent S t = summary-path-unique f (y ∷ ls) (summary_parent S s) (summary_parent S t) (omega arith) (omega arith) a.2 b.2 in
    f.siblings (summary_parent S s) s t
    (record { not_root = a.0; inside = ps; is_parent = refl })
    (record { not_root = b.0; inside = qt; is_parent = sym up })
    (a.1 ∙ sym b.1)

-- two summary nodes on one path are one
pub on-path-unique : {S : Summary} {W : Document} {i s t : ℕ} → SummaryFacts S → s < length S → t < length S → OnPath S W i s → OnPath S W i t → s ≡ t
on-path-unique {S} {W} {i} {s} {t} f p q a b =
    let e : a.labels ≡ b.labels = label-path-unique W i a.labels b.labels a.of_document b.of_document in
    summary-path-unique f b.labels s t p q (subst (λ (ls : List ℕ). LabelPath (as_document S) s ls) e a.of_summary) b.of_summary

-- a homomorphism to the summary gives each node its path
pub hom-on-path : {S : Summary} {W : Document} {h : ℕ → ℕ} → IsTree W → Hom W (as_document S) h → (i : ℕ) → i < length W → OnPath S W i (h i)
hom-on-path {S} {W} {h} t m i l =
    let r : (ls : List ℕ) × LabelPath W i ls = has-label-path W t i l in
    record { labels = r.0; of_document = r.1; of_summary = hom-label-path t m r.0 i l r.1 }

-- ---- the child with a label

-- s has the child t with label l
pub record ChildLabelled (S : Summary) (s l t : ℕ) : Type 0 where
  pub child : Child (as_document S) s t
  pub label : summary_label S t ≡ l

test-labelled : (S : Summary) (s l t : ℕ) → (child_test (as_document S) s t && eqb (summary_label S t) l) ≡ true → ChildLabelled S s l t
test-labelled S s l t e = let r = test-child-and (as_document S) s t (summary_label S t) l e in record { child = r.0; label = r.1 }

-- the search finds such a child, if there is one
pub labelled-found : {S : Summary} {s l t : ℕ} → SummaryFacts S → ChildLabelled S s l t → child_labelled S s l ≡ t
unfolding child_labelled
labelled-found {S} {s} {l} {t} f c =
    let size : length (as_document S) ≡ length S = length-as_document S in
    let low : t < length (as_document S) = c.child.inside in
    let hit = first-hit (λ x. child_test (as_document S) s x && eqb (summary_label S x) l) (length S) (up_from 0 (length S)) t (mem-up_from 0 (length S) t (omega arith) (omega arith)) (child-and-test (summary_label S t) l c.child c.label) in
    let r = test-labelled S s l (child_labelled S s l) hit.1 in
    f.siblings s (child_labelled S s l) t r.child c.child (r.label ∙ sym c.label)

-- and what it finds inside the summary is such a child
pub found-labelled : (S : Summary) (s l : ℕ) → child_labelled S s l < length S → ChildLabelled S s l (child_labelled S s l)
unfolding child_labelled
found-labelled S s l h = go (first-or (λ x. child_test (as_document S) s x && eqb (summary_label S x) l) (length S) (up_from 0 (length S)))
  where
    go : ((child_test (as_document S) s (child_labelled S s l) && eqb (summary_label S (child_labelled S s l)) l) ≡ true) ⊎ (child_labelled S s l ≡ length S) → ChildLabelled S s l (child_labelled S s l)
    go (inl e) = test-labelled S s l (child_labelled S s l) e
    go (inr e) = absurd (omega arith)

-- ---- the path map

pub length-paths_from : (S : Summary) (rs : Document) (ms : List ℕ) → length (paths_from S rs ms) ≡ length ms + length rs
unfolding paths_from
length-paths_from S [] ms = sym (add-zero (length ms))
length-paths_from S (r ∷ rs) ms =
    let rest = length-paths_from S rs (ms ++ next_path S ms r ∷ []) in
    let one = length-snoc ms (next_path S ms r) in
    omega arith

pub length-path_map : (S : Summary) (W : Document) → length (path_map S W) ≡ length W
unfolding path_map
length-path_map S W = let e = length-paths_from S W [] in omega arith

paths-before : (S : Summary) (rs : Document) (ms : List ℕ) (i : ℕ) → i < length ms → get_or (paths_from S rs ms) i 0 ≡ get_or ms i 0
unfolding paths_from
paths-before S [] ms i l = refl
paths-before S (r ∷ rs) ms i l =
    let one = length-snoc ms (next_path S ms r) in
    paths-before S rs (ms ++ next_path S ms r ∷ []) i (omega arith) ∙ get_or-append ms (next_path S ms r ∷ []) 0 i l

-- entry i of the list of summary nodes comes by the rule from those before it, ns
record Step (S : Summary) (path : List ℕ) (i : ℕ) (r : DocumentRecord) : Type 0 where
  ns : List ℕ
  size : length ns ≡ i
  same : (k : ℕ) → k < i → get_or ns k 0 ≡ get_or path k 0
  here : get_or path i 0 ≡ next_path S ns r

paths-step : (S : Summary) (rs : Document) (ms : List ℕ) (i : ℕ) → i < length rs → Step S (paths_from S rs ms) (length ms + i) (get_or rs i no_document_record)
unfolding paths_from
paths-step S [] ms i l = absurd (omega arith)
paths-step S (r ∷ rs) ms zero l =
    let one = length-snoc ms (next_path S ms r) in
    record {
      ns = ms;
      size = sym (add-zero (length ms));
      same = λ k h. sym (paths-before S (r ∷ rs) ms k (omega arith));
      here = ap (λ (k : ℕ). get_or (paths_from S rs (ms ++ next_path S ms r ∷ [])) k 0) (add-zero (length ms)) ∙ paths-before S rs (ms ++ next_path S ms r ∷ []) (length ms) (omega arith) ∙ get_or-append_seam ms (next_path S ms r) [] 0;
    }
paths-step S (r ∷ rs) ms (suc i) l =
    let one = length-snoc ms (next_path S ms r) in
    let e : length (ms ++ next_path S ms r ∷ []) + i ≡ length ms + suc i = omega arith in
    subst (λ (k : ℕ). Step S (paths_from S rs (ms ++ next_path S ms r ∷ [])) k (get_or rs i no_document_record)) e (paths-step S rs (ms ++ next_path S ms r ∷ []) i (omega arith))

path-step : (S : Summary) (W : Document) (i : ℕ) → i < length W → Step S (path_map S W) i (get_or W i no_document_record)
unfolding path_map
path-step S W i l = subst (λ (k : ℕ). Step S (paths_from S W []) k (get_or W i no_document_record)) (omega arith) (paths-step S W [] i l)

-- the root's summary node
pub path-root : (S : Summary) (W : Document) → 0 < length W → path_in S W 0 ≡ (elim (eqb (label_of W 0) (summary_label S 0)) as (λ _. ℕ) [ true ↦ 0 | false ↦ length S ])
unfolding next_path
path-root S W l = let p = path-step S W 0 l in go p.ns p.size p.here
  where
    go : (ns : List ℕ) → length ns ≡ 0 → path_in S W 0 ≡ next_path S ns (get_or W 0 no_document_record) → path_in S W 0 ≡ (elim (eqb (label_of W 0) (summary_label S 0)) as (λ _. ℕ) [ true ↦ 0 | false ↦ length S ])
    go [] s e = e
    go (n ∷ ns) s e = absurd (omega arith)

-- any other's: the child of its parent's with its label
pub path-next : (S : Summary) (W : Document) → IsTree W → (i : ℕ) → 0 < i → i < length W → path_in S W i ≡ child_labelled S (path_in S W (parent_of W i)) (label_of W i)
unfolding next_path
path-next S W t i p l = let r = path-step S W i l in go r.ns r.size r.here (r.same (parent_of W i) (t.earlier i p l))
  where
    go : (ns : List ℕ) → length ns ≡ i → path_in S W i ≡ next_path S ns (get_or W i no_document_record) → get_or ns (parent_of W i) 0 ≡ path_in S W (parent_of W i)
        → path_in S W i ≡ child_labelled S (path_in S W (parent_of W i)) (label_of W i)
    go [] s e u = absurd (omega arith)
    go (n ∷ ns) s e u = e ∙ ap (λ (k : ℕ). child_labelled S k (label_of W i)) u

-- the root is on the summary's root if their labels are equal, and on no path otherwise
root-found : (S : Summary) (W : Document) → 0 < length W → label_of W 0 ≡ summary_label S 0 → path_in S W 0 ≡ 0
root-found S W l e = path-root S W l ∙ ap (λ (b : Bool). elim b as (λ _. ℕ) [ true ↦ 0 | false ↦ length S ]) (eq-eqb (label_of W 0) (summary_label S 0) e)

found-root : (S : Summary) (W : Document) → 0 < length W → path_in S W 0 < length S → (label_of W 0 ≡ summary_label S 0) × (path_in S W 0 ≡ 0)
found-root S W l h = go (eqb (label_of W 0) (summary_label S 0)) refl (path-root S W l)
  where
    go : (b : Bool) → eqb (label_of W 0) (summary_label S 0) ≡ b → path_in S W 0 ≡ (elim b as (λ _. ℕ) [ true ↦ 0 | false ↦ length S ])
        → (label_of W 0 ≡ summary_label S 0) × (path_in S W 0 ≡ 0)
    go true q e = (eqb-true (label_of W 0) (summary_label S 0) q, e)
    go false q e = absurd (omega arith)

-- the path map finds the summary node that has a node's path
path-finds : {S : Summary} (W : Document) → SummaryFacts S → IsTree W → (ls : List ℕ) (i s : ℕ) → i < length W → s < length S → LabelPath W i ls → LabelPath (as_document S) s ls → path_in S W i ≡ s
path-finds W f t [] i s l k a b = absurd a
path-finds {S} W f t (x ∷ []) i s l k a b =
    let labels : label_of W 0 ≡ summary_label S 0 = ap (label_of W) (sym a.0) ∙ a.1 ∙ sym b.1 ∙ ap (summary_label S) b.0 in
    ap (path_in S W) a.0 ∙ root-found S W t.inhabited labels ∙ sym b.0
path-finds {S} W f t (x ∷ y ∷ ls) i s l k a b =
    let size : length (as_document S) ≡ length S = length-as_document S in
    let ks : s < length (as_document S) = omega arith in
    let ui : parent_of W i < i = t.earlier i a.0 l in
    let us : summary_parent S s < s = f.tree.earlier s b.0 ks in
    let up : path_in S W (parent_of W i) ≡ summary_parent S s = path-finds W f t (y ∷ ls) (parent_of W i) (summary_parent S s) (omega arith) (omega arith) a.2 b.2 in
    path-next S W t i a.0 l ∙ ap (λ (u : ℕ). child_labelled S u (label_of W i)) up
    ∙ labelled-found f (record { child = record { not_root = b.0; inside = ks; is_parent = refl }; label = b.1 ∙ sym a.1 })

-- a path map that stays inside the summary is a homomorphism to it
pub inside-hom : (S : Summary) (W : Document) → IsTree W → ((i : ℕ) → i < length W → path_in S W i < length S) → Hom W (as_document S) (path_in S W)
inside-hom S W t h =
    record {
      root = rooted.1;
      inside = λ i l. let size : length (as_document S) ≡ length S = length-as_document S in let k : path_in S W i < length S = h i l in omega arith;
      labels = labels;
      children = λ a b c. subst (λ (x : ℕ). Child (as_document S) (path_in S W x) (path_in S W b)) c.is_parent (found b c.not_root c.inside).child;
    }
  where
    rooted : (label_of W 0 ≡ summary_label S 0) × (path_in S W 0 ≡ 0)
    rooted = found-root S W t.inhabited (h 0 t.inhabited)

    found : (i : ℕ) → 0 < i → i < length W → ChildLabelled S (path_in S W (parent_of W i)) (label_of W i) (path_in S W i)
    found i p l =
        let e : path_in S W i ≡ child_labelled S (path_in S W (parent_of W i)) (label_of W i) = path-next S W t i p l in
        let k : path_in S W i < length S = h i l in
        subst (λ (x : ℕ). ChildLabelled S (path_in S W (parent_of W i)) (label_of W i) x) (sym e) (found-labelled S (path_in S W (parent_of W i)) (label_of W i) (omega arith))

    labels : (i : ℕ) → i < length W → summary_label S (path_in S W i) ≡ label_of W i
    labels zero l = ap (summary_label S) rooted.1 ∙ sym rooted.0
    labels (suc i) l = (found (suc i) (omega arith) l).label

-- the path map tells the path
pub path-on : {S : Summary} {W : Document} → SummaryFacts S → Fits S W → (i s : ℕ) → i < length W → s < length S → OnPath S W i s → path_in S W i ≡ s
path-on {W = W} f w i s l k o = path-finds W f w.tree o.labels i s l k o.of_document o.of_summary

-- the path map of a fitting document is a homomorphism to the summary
pub path-hom : {S : Summary} {W : Document} → SummaryFacts S → Fits S W → Hom W (as_document S) (path_in S W)
path-hom {S} {W} f w = inside-hom S W w.tree inside
  where
    inside : (i : ℕ) → i < length W → path_in S W i < length S
    inside i l =
        let r = w.paths i l in
        let e : path_in S W i ≡ r.0 = path-on f w i r.0 l r.1 r.2 in
        subst (λ (x : ℕ). x < length S) (sym e) r.1
