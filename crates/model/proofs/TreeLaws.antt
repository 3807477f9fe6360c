-- Laws of children, descendants and homomorphisms: the tests say what the relations say, a descendant has the greater number,
-- and an embedding followed by a homomorphism is an embedding. Assumes nothing.
use Prim.Native.Nat.{ℕ, zero, suc, ◌≤◌, ◌<◌}
use mathlib.Core.Path.{◌≡◌, refl, sym, ap, ◌∙◌, subst}
use mathlib.Core.Bool.{Bool, true, false, ◌&&◌, ◌||◌, false≢true}
use mathlib.Core.Logic.{◌⊎◌, inl, inr, ◌↔◌}
use mathlib.Core.List.{List, map, map-map}
use native.Mathlib.Omega.{arith}
use lib.Dec.{eqb, ltb}
use lib.ListN.{length, length-map, get_or-eq_default}
use borrow.Author.Tests.{leb-true, ltb-true, ltb-false, eqb-true, le-leb, lt-ltb, eq-eqb}
use Rattle.model.specs.Tree.{Rooted, DocumentRecord, no_document_record, Document, IsTree, parent_of, figure_of, Child, Below, once, down, Edge, Hom, Rises}
use Rattle.model.specs.Summary.{Summary, without_strong, as_document}
use Rattle.model.specs.Pattern.{Pattern, pattern_label, pattern_parent, pattern_figure, descends, label_fits, figure_fits, return_nodes, Embeds, Result}
use Rattle.model.specs.Embeddings.{child_test, climbs, below_test, edge_test}
use Rattle.model.proofs.ListLaws.{and_intro, and_left, and_right, or_cases, or_left, or_right}

-- labels fit: the selection's label is 0 or the label itself
pub label-fits : (l m : ℕ) → (label_fits l m ≡ true) ↔ ((l ≡ 0) ⊎ (l ≡ m))
unfolding label_fits
label-fits l m = (λ e. go (or_cases (eqb l 0) (eqb l m) e), back)
  where
    go : (eqb l 0 ≡ true) ⊎ (eqb l m ≡ true) → (l ≡ 0) ⊎ (l ≡ m)
    go (inl p) = inl (eqb-true l 0 p)
    go (inr p) = inr (eqb-true l m p)

    back : (l ≡ 0) ⊎ (l ≡ m) → (eqb l 0 || eqb l m) ≡ true
    back (inl p) = or_left (eqb l m) (eq-eqb l 0 p)
    back (inr p) = or_right (eqb l 0) (eq-eqb l m p)

-- the summary read as a document has as many nodes
pub length-as_document : (S : Summary) → length (as_document S) ≡ length S
length-as_document S = length-map S without_strong

-- ---- children

pub test-child : (W : Document) (a b : ℕ) → child_test W a b ≡ true → Child W a b
unfolding child_test
test-child W a b e =
    let l = and_left (ltb 0 b && ltb b (length W)) (eqb (parent_of W b) a) e in
    record {
      not_root = ltb-true 0 b (and_left (ltb 0 b) (ltb b (length W)) l);
      inside = ltb-true b (length W) (and_right (ltb 0 b) (ltb b (length W)) l);
      is_parent = eqb-true (parent_of W b) a (and_right (ltb 0 b && ltb b (length W)) (eqb (parent_of W b) a) e);
    }

pub child-test : {W : Document} {a b : ℕ} → Child W a b → child_test W a b ≡ true
unfolding child_test
child-test {W} {a} {b} c =
    and_intro (and_intro (lt-ltb 0 b c.not_root) (lt-ltb b (length W) c.inside)) (eq-eqb (parent_of W b) a c.is_parent)

-- a child that a second test accepts too
pub test-child-and : (W : Document) (a b x y : ℕ) → (child_test W a b && eqb x y) ≡ true → Child W a b × (x ≡ y)
test-child-and W a b x y e = (test-child W a b (and_left (child_test W a b) (eqb x y) e), eqb-true x y (and_right (child_test W a b) (eqb x y) e))

pub child-and-test : {W : Document} {a b : ℕ} (x y : ℕ) → Child W a b → x ≡ y → (child_test W a b && eqb x y) ≡ true
child-and-test x y c e = and_intro (child-test c) (eq-eqb x y e)

-- in any rooted table a parent has the smaller number
pub rooted-lt : {n : ℕ} {parent : ℕ → ℕ} {a b : ℕ} → Rooted n parent → 0 < b → b < n → parent b ≡ a → a < b
rooted-lt {b = b} t p h e = subst (λ (x : ℕ). x < b) e (t.earlier b p h)

-- and its nodes' parents are its nodes
pub rooted-inside : {n : ℕ} {parent : ℕ → ℕ} → Rooted n parent → (i : ℕ) → i < n → parent i < n
rooted-inside {n} t zero h = subst (λ (x : ℕ). x < n) (sym t.root) t.inhabited
rooted-inside t (suc i) h = let k = t.earlier (suc i) (omega arith) h in omega arith

pub child-lt : {W : Document} {a b : ℕ} → IsTree W → Child W a b → a < b
child-lt t c = rooted-lt t c.not_root c.inside c.is_parent

-- ---- descendants

pub below-inside : {W : Document} {a b : ℕ} → Below W a b → b < length W
below-inside (once c) = c.inside
below-inside (down d c) = c.inside

pub below-lt : {W : Document} {a b : ℕ} → IsTree W → Below W a b → a < b
below-lt t (once c) = child-lt t c
below-lt {a = a} t (down {b = m} {c = b} d c) =
    let h : a < m = below-lt t d in
    let k : m < b = child-lt t c in
    omega arith

pub below-trans : {W : Document} {a b c : ℕ} → Below W a b → Below W b c → Below W a c
below-trans d (once c) = down d c
below-trans d (down e c) = down (below-trans d e) c

-- a descendant of a is a child of a or has its parent below a
pub below-cases : {W : Document} {a b : ℕ} → Below W a b → Child W a b ⊎ (Below W a (parent_of W b) × (0 < b) × (b < length W))
below-cases (once c) = inl c
below-cases {W} {a} (down d c) = inr (subst (λ (x : ℕ). Below W a x) (sym c.is_parent) d, c.not_root, c.inside)

climbs-below : (n : ℕ) (W : Document) (a b : ℕ) → IsTree W → climbs n W a b ≡ true → Below W a b
unfolding climbs
climbs-below zero W a b t e = absurd (false≢true e)
climbs-below (suc n) W a b t e = go (child_test W a b) refl e (λ p. climbs-below n W a (parent_of W b) t p)
  where
    -- the parent of a number outside the table reads as 0, and nothing is above the root
    inside : ltb 0 b ≡ true → Below W a (parent_of W b) → b < length W → Below W a b
    inside p d h = down d (record { not_root = ltb-true 0 b p; inside = h; is_parent = refl })

    outside : length W ≤ b → Below W a (parent_of W b) → ⊥
    outside h d =
        let z : parent_of W b ≡ 0 = ap (λ (r : DocumentRecord). r.parent) (get_or-eq_default W no_document_record h) in
        let l : a < parent_of W b = below-lt t d in
        omega arith

    by_size : ltb 0 b ≡ true → Below W a (parent_of W b) → (s : Bool) → ltb b (length W) ≡ s → Below W a b
    by_size p d true q = inside p d (ltb-true b (length W) q)
    by_size p d false q = absurd (outside (ltb-false b (length W) q) d)

    go : (s : Bool) → child_test W a b ≡ s → (elim s as (λ _. Bool) [ true ↦ true | false ↦ ltb 0 b && climbs n W a (parent_of W b) ]) ≡ true
        → (climbs n W a (parent_of W b) ≡ true → Below W a (parent_of W b)) → Below W a b
    go true q e' up = once (test-child W a b q)
    go false q e' up =
        by_size (and_left (ltb 0 b) (climbs n W a (parent_of W b)) e') (up (and_right (ltb 0 b) (climbs n W a (parent_of W b)) e')) (ltb b (length W)) refl

below-climbs : (n : ℕ) (W : Document) (a b : ℕ) → IsTree W → Below W a b → b ≤ n → climbs n W a b ≡ true
unfolding climbs
below-climbs zero W a b t d h = let l : a < b = below-lt t d in absurd (omega arith)
below-climbs (suc n) W a b t d h = go (child_test W a b) refl (below-cases d) (λ p k. below-climbs n W a (parent_of W b) t p k)
  where
    go : (s : Bool) → child_test W a b ≡ s → Child W a b ⊎ (Below W a (parent_of W b) × (0 < b) × (b < length W))
        → (Below W a (parent_of W b) → parent_of W b ≤ n → climbs n W a (parent_of W b) ≡ true)
        → (elim s as (λ _. Bool) [ true ↦ true | false ↦ ltb 0 b && climbs n W a (parent_of W b) ]) ≡ true
    go true q c up = refl
    go false q (inl c) up = absurd (false≢true (sym q ∙ child-test c))
    go false q (inr r) up =
        let l : parent_of W b < b = t.earlier b r.1 r.2 in
        and_intro (lt-ltb 0 b r.1) (up r.0 (omega arith))

pub test_below : (W : Document) (a b : ℕ) → IsTree W → below_test W a b ≡ true → Below W a b
unfolding below_test
test_below W a b t e = climbs-below b W a b t e

pub below-test : {W : Document} {a b : ℕ} → IsTree W → Below W a b → below_test W a b ≡ true
unfolding below_test
below-test {W} {a} {b} t d = below-climbs b W a b t d (omega arith)

-- ---- edges

pub test-edge : (d : Bool) (W : Document) (a b : ℕ) → IsTree W → edge_test d W a b ≡ true → Edge d W a b
unfolding edge_test
test-edge true W a b t e = test_below W a b t e
test-edge false W a b t e = test-child W a b e

pub edge_test_lem : (d : Bool) (W : Document) (a b : ℕ) → IsTree W → Edge d W a b → edge_test d W a b ≡ true
unfolding edge_test
edge_test_lem true W a b t e = below-test t e
edge_test_lem false W a b t e = child-test e

pub edge-inside : (d : Bool) (W : Document) (a b : ℕ) → Edge d W a b → b < length W
edge-inside true W a b e = below-inside e
edge-inside false W a b e = e.inside

pub edge-below : (d : Bool) (W : Document) (a b : ℕ) → Edge d W a b → Below W a b
edge-below true W a b e = e
edge-below false W a b e = once e

-- ---- homomorphisms

pub hom-below : {W D : Document} {h : ℕ → ℕ} {a b : ℕ} → Hom W D h → Below W a b → Below D (h a) (h b)
hom-below m (once c) = once (m.children _ _ c)
hom-below m (down d c) = down (hom-below m d) (m.children _ _ c)

pub hom-edge : {W D : Document} {h : ℕ → ℕ} (d : Bool) (a b : ℕ) → Hom W D h → Edge d W a b → Edge d D (h a) (h b)
hom-edge true a b m e = hom-below m e
hom-edge false a b m e = m.children a b e

-- an embedding followed by a homomorphism is an embedding
pub hom-embeds : {P : Pattern} {W D : Document} {e h : ℕ → ℕ} → Embeds P W e → Hom W D h → Embeds P D (λ q. h (e q))
hom-embeds {P} {W} {D} {e} {h} m k =
    record {
      inside = λ q l. k.inside (e q) (m.inside q l);
      root = ap h m.root ∙ k.root;
      labels = λ q l. ap (label_fits (pattern_label P q)) (k.labels (e q) (m.inside q l)) ∙ m.labels q l;
      edges = λ q p l. hom-edge (descends P q) (e (pattern_parent P q)) (e q) k (m.edges q p l);
    }

-- what fits a figure fits a greater one
pub figure-raised : (least f g : ℕ) → figure_fits least f ≡ true → f ≤ g → figure_fits least g ≡ true
unfolding figure_fits
figure-raised least f g e l = let k : least ≤ f = leb-true least f e in le-leb least g (omega arith)

-- so a result goes to a result, where figures do not fall
pub hom-result : {P : Pattern} {W D : Document} {h : ℕ → ℕ} {r : List ℕ} → Result P W r → Hom W D h → Rises W D h → Result P D (map h r)
hom-result {P} {W} {D} {h} r k u =
    record {
      image = λ q. h (r.image q);
      embeds = hom-embeds r.embeds k;
      figures = λ q l. figure-raised (pattern_figure P q) (figure_of W (r.image q)) (figure_of D (h (r.image q))) (r.figures q l) (u (r.image q) (r.embeds.inside q l));
      returns = ap (map h) r.returns ∙ map-map h r.image (return_nodes P);
    }
