-- Question 13 by the test of each image: a list is among the placements exactly when it is an embedding (model's theorem), and an
-- embedding is tested node by node. Assumes nothing.
use Prim.Native.Nat.{ℕ, zero, suc, ◌/◌, ◌%◌, ◌≤◌, ◌<◌}
use mathlib.Core.Path.{◌≡◌, refl, sym, ap, ap₂, ◌∙◌, subst, subst⁻¹}
use mathlib.Core.Bool.{Bool, true, false, ◌&&◌}
use mathlib.Core.Logic.{◌⊎◌, inl, inr}
use mathlib.Core.List.{List, Memᴰ}
use native.Mathlib.Omega.{arith}
use lib.Dec.{eqb, ltb}
use lib.ListN.{length, get_or}
use borrow.Author.Rules.{rules}
use borrow.Author.Tests.{ltb-true, eqb-true, lt-ltb, eq-eqb}
use Rattle.model.specs.Lists.{up_from, any_of, all_of, same_list}
use Rattle.model.specs.Tree.{IsTree, Document, parent_of, Child, Below, once, down}
use Rattle.model.specs.Summary.{Summary, as_document, summary_parent, summary_label}
use Rattle.model.specs.Pattern.{Pattern, no_pattern_record, IsPatternTree, pattern_parent, pattern_label, descends, label_fits, Embeds}
use Rattle.model.specs.Embeddings.{below_test, climbs, edge_test, image_in, summary_embeddings}
use Rattle.model.specs.Bytes.{Case, list_of, is_whole_list}
use Rattle.model.specs.Facts.{CaseFacts}
use Rattle.model.specs.Questions.{pattern_given, is_summary_embedding, selected}
use Rattle.model.proofs.CaseFacts.{selected-facts}
use Rattle.model.proofs.ListLaws.{bool-ext, and_intro, and_left, and_right, any-intro, any-elim, all-below, below_all, same-eq, same_refl}
use Rattle.model.proofs.TreeLaws.{length-as_document, test_below, below-test, below-cases, test-edge, edge_test_lem}
use Rattle.model.proofs.Embeddings.{embeddings-sound, embeddings-complete-list}
use Rattle.format.proofs.ListLaws.{list_count}
use Rattle.refusals.specs.Images.{image_reached, image_kept, ImagesGiven}

module _ (S : Summary) (P : Pattern) (es : List ℕ) where
  abbrev tests : Bool
  tests = eqb (length es) (length P) && all_of (image_kept S P es) (up_from 0 (length P))

  module _ (t : IsPatternTree P) (u : IsTree (as_document S)) where
    size : length (as_document S) ≡ length S
    size = length-as_document S

    -- an embedding passes
    reached : Embeds P (as_document S) (image_in es) → (q : ℕ) → q < length P → image_reached S P es q ≡ true
    unfolding image_reached
    reached m zero h = eq-eqb (image_in es 0) 0 m.root
    reached m (suc q) h = edge_test_lem (descends P (suc q)) (as_document S) (image_in es (pattern_parent P (suc q))) (image_in es (suc q)) u (m.edges (suc q) (omega arith) h)

    embeds-kept : Embeds P (as_document S) (image_in es) → (q : ℕ) → q < length P → image_kept S P es q ≡ true
    unfolding image_kept
    embeds-kept m q h =
        let l : image_in es q < length (as_document S) = m.inside q h in
        and_intro (and_intro (lt-ltb (image_in es q) (length S) (omega (arith, size))) (m.labels q h)) (reached m q h)

    -- what passes is an embedding
    reach-root : image_reached S P es 0 ≡ true → image_in es 0 ≡ 0
    unfolding image_reached
    reach-root e = eqb-true (image_in es 0) 0 e

    kept-inside : (q : ℕ) → image_kept S P es q ≡ true → image_in es q < length (as_document S)
    unfolding image_kept
    kept-inside q e = subst (λ (n : ℕ). image_in es q < n) (sym size) (ltb-true (image_in es q) (length S) (and_left _ _ (and_left _ _ e)))

    kept_label : (q : ℕ) → image_kept S P es q ≡ true → label_fits (pattern_label P q) (summary_label S (image_in es q)) ≡ true
    unfolding image_kept
    kept_label q e = and_right (ltb (image_in es q) (length S)) _ (and_left _ _ e)

    kept-reached : (q : ℕ) → image_kept S P es q ≡ true → image_reached S P es q ≡ true
    unfolding image_kept
    kept-reached q e = and_right (ltb (image_in es q) (length S) && label_fits (pattern_label P q) (summary_label S (image_in es q))) _ e

    edge-reached : (q : ℕ) → 0 < q → image_reached S P es q ≡ true → edge_test (descends P q) (as_document S) (image_in es (pattern_parent P q)) (image_in es q) ≡ true
    unfolding image_reached
    edge-reached zero p e = absurd (omega arith)
    edge-reached (suc q) p e = e

    kept-embeds : ((q : ℕ) → q < length P → image_kept S P es q ≡ true) → Embeds P (as_document S) (image_in es)
    kept-embeds each =
        record {
          inside = λ q h. kept-inside q (each q h);
          root = reach-root (kept-reached 0 (each 0 t.inhabited));
          labels = λ q h. kept_label q (each q h);
          edges = λ q p h. test-edge (descends P q) (as_document S) (image_in es (pattern_parent P q)) (image_in es q) u (edge-reached q p (kept-reached q (each q h)));
        }

    -- the list is among the placements exactly when it has an image for each node and each image passes
    pub listed-by-tests : any_of (same_list es) (summary_embeddings S P) ≡ (eqb (length es) (length P) && all_of (image_kept S P es) (up_from 0 (length P)))
    listed-by-tests = bool-ext (any_of (same_list es) (summary_embeddings S P)) tests forth back
      where
        forth : any_of (same_list es) (summary_embeddings S P) ≡ true → tests ≡ true
        forth e =
            let r = any-elim (same_list es) (summary_embeddings S P) e in
            let m : Memᴰ es (summary_embeddings S P) = subst (λ (x : List ℕ). Memᴰ x (summary_embeddings S P)) (sym (same-eq es r.0 r.2)) r.1 in
            let k = embeddings-sound t u m in
            and_intro (eq-eqb (length es) (length P) k.0) (below_all (image_kept S P es) (length P) (embeds-kept k.1))

        back : tests ≡ true → any_of (same_list es) (summary_embeddings S P) ≡ true
        back e =
            let n : length es ≡ length P = eqb-true (length es) (length P) (and_left _ _ e) in
            let each = all-below (image_kept S P es) (length P) (and_right (eqb (length es) (length P)) _ e) in
            any-intro (same_list es) es (summary_embeddings S P) (embeddings-complete-list t u n (kept-embeds each)) (same_refl es)

-- ---- climbing

-- nothing is above the root
pub below_root : (W : Document) (a v : ℕ) → v ≡ 0 → below_test W a v ≡ false
unfolding below_test climbs
below_root W a zero z = refl
below_root W a (suc v) z = absurd (omega arith)

module _ (W : Document) (t : IsTree W) (a v : ℕ) (p : 0 < v) (h : v < length W) where
  -- a child of a is below a
  pub below-here : parent_of W v ≡ a → below_test W a v ≡ true
  below-here e = below-test t (once (record { not_root = p; inside = h; is_parent = e }))

  -- another node is below a exactly when its parent is
  pub below-parent : (parent_of W v ≡ a → ⊥) → below_test W a v ≡ below_test W a (parent_of W v)
  below-parent n = bool-ext (below_test W a v) (below_test W a (parent_of W v)) forth back
    where
      up : Child W a v ⊎ (Below W a (parent_of W v) × (0 < v) × (v < length W)) → below_test W a (parent_of W v) ≡ true
      up (inl c) = absurd (n c.is_parent)
      up (inr r) = below-test t r.0

      forth : below_test W a v ≡ true → below_test W a (parent_of W v) ≡ true
      forth e = up (below-cases (test_below W a v t e))

      back : below_test W a (parent_of W v) ≡ true → below_test W a v ≡ true
      back e = below-test t (down (test_below W a (parent_of W v) t e) (record { not_root = p; inside = h; is_parent = refl }))

-- a node of the summary is one of the summary read as a document
pub summary-inside : (S : Summary) (v : ℕ) → v < length S → v < length (as_document S)
summary-inside S v h = subst⁻¹ (λ (n : ℕ). v < n) (length-as_document S) h

-- the climb from v has come to x, which is below a exactly when v is
pub record Climbed (S : Summary) (a v x : ℕ) : Type 0 where
  pub inside : x < length S
  pub same : below_test (as_document S) a v ≡ below_test (as_document S) a x

pub climb-start : (S : Summary) (a v : ℕ) → v < length S → Climbed S a v v
climb-start S a v h = record { inside = h; same = refl }

pub climb-end : (S : Summary) (a v x : ℕ) → Climbed S a v x → x ≤ 0 → false ≡ below_test (as_document S) a v
climb-end S a v x c z = sym (c.same ∙ below_root (as_document S) a x (omega arith))

module _ (S : Summary) (a v x p : ℕ) (t : IsTree (as_document S)) (c : Climbed S a v x) (pos : 0 < x) (e : p ≡ summary_parent S x) where
  within : x < length (as_document S)
  within = summary-inside S x c.inside

  pub climb-falls : p < x
  climb-falls = subst⁻¹ (λ (n : ℕ). n < x) e (t.earlier x pos within)

  pub climb-found : p ≡ a → true ≡ below_test (as_document S) a v
  climb-found q = sym (c.same ∙ below-here (as_document S) t a x pos within (sym e ∙ q))

  pub climb-on : (p ≡ a → ⊥) → Climbed S a v p
  climb-on n =
      let up = below-parent (as_document S) t a x pos within (λ q. n (e ∙ q)) in
      let falls : p < x = climb-falls in
      let low : x < length S = c.inside in
      record { inside = omega arith; same = c.same ∙ up ∙ ap (below_test (as_document S) a) (sym e) }

pub ruleset climbing = (rules, climb-start, climb-end, climb-falls, climb-found, climb-on)

-- ---- images

module _ (S : Summary) (P : Pattern) (es : List ℕ) (q v : ℕ) where
  pub reached-root : v ≡ image_in es q → q ≡ 0 → eqb v 0 ≡ image_reached S P es q
  unfolding image_reached
  reached-root e z = rw (z, image_reached) (ap (λ (x : ℕ). eqb x 0) (rw z at e))

  pub reached-other : (r : Bool) (edge a p : ℕ) → (q ≡ 0 → ⊥) → p ≡ pattern_parent P q → edge ≡ (get_or P q no_pattern_record).edge → a ≡ image_in es p → v ≡ image_in es q
      → r ≡ edge_test (eqb edge 1) (as_document S) a v → r ≡ image_reached S P es q
  unfolding image_reached
  reached-other r edge a p n e f g h k = k ∙ rw (h, g, f, e) (go q n)
    where
      go : (j : ℕ) → (j ≡ 0 → ⊥) → edge_test (descends P j) (as_document S) (image_in es (pattern_parent P j)) (image_in es j) ≡ image_reached S P es j
      go zero m = absurd (m refl)
      go (suc j) m = refl

-- the label at an image that was read
pub label_at : (S : Summary) (m v w : ℕ) → m ≡ summary_label S v → v ≡ w → m ≡ summary_label S w
label_at S m v w e f = e ∙ ap (summary_label S) f

module _ (S : Summary) (P : Pattern) (es : List ℕ) (i : ImagesGiven S P es) (q : ℕ) (h : q < length P) where
  pub image_inside : q < length es
  image_inside = let count : length es ≡ length P = i.count in omega arith

  -- a node's parent has an image too
  pub parent_inside : (q ≡ 0 → ⊥) → (p : ℕ) → p ≡ pattern_parent P q → p < length P
  parent_inside n p e = let low : pattern_parent P q < q = i.pattern.tree.earlier q (omega arith) h in omega arith

-- ---- the question

module _ (c : Case) (s : ℕ) (l : List ℕ) (f : CaseFacts c) (g : pattern_given c s ≡ true) where
  pub images_given : length l / 2 ≡ length (selected c s) → ImagesGiven c.summary (selected c s) (list_of l)
  images_given half =
      record {
        summary = record { tree = f.summary.tree; few = f.summary_size };
        pattern = record { tree = (selected-facts c s f g).pattern.tree; few = (selected-facts c s f g).size };
        count = list_count l ∙ half;
      }

  -- 13, by the fields
  pub embedding_asked : (r : Bool) → r ≡ (eqb (length l % 2) 0 && (eqb (length l / 2) (length (selected c s)) && all_of (image_kept c.summary (selected c s) (list_of l)) (up_from 0 (length (selected c s)))))
      → r ≡ is_summary_embedding c s l
  unfolding is_summary_embedding is_whole_list
  embedding_asked r e =
      let listed = listed-by-tests c.summary (selected c s) (list_of l) (selected-facts c s f g).pattern.tree f.summary.tree in
      let counts = ap (λ (m : ℕ). eqb m (length (selected c s)) && all_of (image_kept c.summary (selected c s) (list_of l)) (up_from 0 (length (selected c s)))) (list_count l) in
      e ∙ sym (ap (λ (t : Bool). eqb (length l % 2) 0 && t) (listed ∙ counts))

  -- by the values that were read
  pub kept_by_images : (S : Summary) (P : Pattern) (r : Bool) → S ≡ c.summary → P ≡ selected c s → length l % 2 ≡ 0 → length l / 2 ≡ length (selected c s)
      → r ≡ all_of (image_kept S P (list_of l)) (up_from 0 (length P)) → r ≡ is_summary_embedding c s l
  kept_by_images S P r p q even half e =
      embedding_asked r
      (rw (eq-eqb (length l % 2) 0 even, eq-eqb (length l / 2) (length (selected c s)) half)
      (e ∙ ap₂ (λ (S : Summary) (P : Pattern). all_of (image_kept S P (list_of l)) (up_from 0 (length P))) p q))
