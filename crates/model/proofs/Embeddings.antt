-- The computed list holds exactly the embeddings, each once, in document 01's order of placements: how a pattern node may stand
-- depends on its image and its parent's, and parents come earlier, so images can be chosen one by one. Assumes nothing.
use Prim.Native.Nat.{ℕ, suc, ◌-◌, ◌≤◌, ◌<◌}
use mathlib.Core.Path.{◌≡◌, refl, sym, ap, ◌∙◌, subst}
use mathlib.Core.Bool.{Bool, true, false}
use mathlib.Core.Logic.{◌⊎◌, inl, inr, ◌↔◌}
use mathlib.Core.List.Memᴰ
use mathlib.Core.List.{List, [], ◌∷◌, ◌++◌, map, Memᴰ, append-nil, append_assoc}
use native.Mathlib.Omega.{arith}
use native.Mathlib.Nat.{not-suc-le-zero, eq-zero-or-pos, zero-add}
use lib.Dec.{eqb, ltb}
use lib.ListN.{length, get_or, drop, length-drop, get_or-append}
use lib.Seq.{get_or-append_seam}
use borrow.Author.Tests.{eqb-true, eq-eqb, ltb-true, ltb-false}
use Rattle.model.specs.Lists.{up_from, keep, Ascending}
use Rattle.model.specs.Tree.{Document, IsTree, label_of, Edge}
use Rattle.model.specs.Pattern.{PatternRecord, Pattern, no_pattern_record, pattern_parent, pattern_label, descends, IsPatternTree, label_fits, Embeds}
use Rattle.model.specs.Embeddings.{edge_test, reaches, candidate, extend, embeddings, Precedes, image_in}
use Rattle.model.proofs.ListLaws.{and_intro, and_left, and_right, length-snoc, drop-begins, length-map-up_from, get_or-map-up_from, mem-up_from, up_from-mem, keep-intro, keep-elim, flat-intro, flat-elim}
use Rattle.model.proofs.TreeLaws.{test-edge, edge_test_lem}
use Rattle.model.proofs.Ascending.{ascending-unique, ascending-keep, ascending-up_from, ascending-flat}

-- ---- embeddings, node by node

-- pattern node q stands well at its image
record Stands (P : Pattern) (W : Document) (e : ℕ → ℕ) (q : ℕ) : Type 0 where
  inside : e q < length W
  root : q ≡ 0 → e q ≡ 0
  label : label_fits (pattern_label P q) (label_of W (e q)) ≡ true
  edge : 0 < q → Edge (descends P q) W (e (pattern_parent P q)) (e q)

stands-embeds : {P : Pattern} {W : Document} {e : ℕ → ℕ} → IsPatternTree P → ((q : ℕ) → q < length P → Stands P W e q) → Embeds P W e
stands-embeds t s =
    record {
      inside = λ q h. (s q h).inside;
      root = (s 0 t.inhabited).root refl;
      labels = λ q h. (s q h).label;
      edges = λ q p h. (s q h).edge p;
    }

embeds-stands : {P : Pattern} {W : Document} {e : ℕ → ℕ} → Embeds P W e → (q : ℕ) → q < length P → Stands P W e q
embeds-stands {e = e} m q h =
    record {
      inside = m.inside q h;
      root = λ z. ap e z ∙ m.root;
      label = m.labels q h;
      edge = λ p. m.edges q p h;
    }

-- how a node stands depends on its own image and its parent's, which comes earlier
stands-ext : {P : Pattern} {W : Document} {e : ℕ → ℕ} (f : ℕ → ℕ) (q : ℕ) → IsPatternTree P → q < length P → ((i : ℕ) → i ≤ q → e i ≡ f i) → Stands P W e q → Stands P W f q
stands-ext {P} {W} {e} f q t h agree s =
    record {
      inside = subst (λ (x : ℕ). x < length W) own s.inside;
      root = λ z. sym own ∙ s.root z;
      label = subst (λ (x : ℕ). label_fits (pattern_label P q) (label_of W x) ≡ true) own s.label;
      edge = λ p.
          let l : pattern_parent P q < q = t.earlier q p h in
          subst (λ (x : ℕ). Edge (descends P q) W (f (pattern_parent P q)) x) own
          (subst (λ (x : ℕ). Edge (descends P q) W x (e q)) (agree (pattern_parent P q) (omega arith)) (s.edge p));
    }
  where
    own : e q ≡ f q
    own = agree q (omega arith)

-- an embedding is decided by the images of the pattern's nodes
pub embeds-ext : {P : Pattern} {W : Document} {e : ℕ → ℕ} (f : ℕ → ℕ) → IsPatternTree P → ((q : ℕ) → q < length P → e q ≡ f q) → Embeds P W e → Embeds P W f
embeds-ext f t agree m = stands-embeds t (λ q h. stands-ext f q t h (λ i l. agree i (omega arith)) (embeds-stands m q h))

-- ---- the tests

reaches-first : (W : Document) (es : List ℕ) (r : PatternRecord) (v : ℕ) → length es ≡ 0 → reaches W es r v ≡ eqb v 0
unfolding reaches
reaches-first W [] r v z = refl
reaches-first W (e ∷ es) r v z = absurd (omega arith)

reaches-later : (W : Document) (es : List ℕ) (r : PatternRecord) (v : ℕ) → 0 < length es → reaches W es r v ≡ edge_test (eqb r.edge 1) W (image_in es r.parent) v
unfolding reaches
reaches-later W [] r v p = absurd (not-suc-le-zero p)
reaches-later W (e ∷ es) r v p = refl

module _ (P : Pattern) (W : Document) (t : IsPatternTree P) (u : IsTree W) where
  -- after the images es of the nodes before it, the test of the next node's image says that it stands well
  module _ (es : List ℕ) (e : ℕ → ℕ) (next : length es < length P) (agree : (i : ℕ) → i < length es → e i ≡ image_in es i) where
    abbrev next_record : PatternRecord
    next_record = get_or P (length es) no_pattern_record

    candidate-stands : e (length es) < length W → candidate W es next_record (e (length es)) ≡ true → Stands P W e (length es)
    unfolding candidate
    candidate-stands h c =
        record {
          inside = h;
          root = λ z. eqb-true (e (length es)) 0 (sym (reaches-first W es next_record (e (length es)) z) ∙ reached);
          label = and_left (label_fits next_record.label (label_of W (e (length es)))) (reaches W es next_record (e (length es))) c;
          edge = λ p.
              subst (λ (x : ℕ). Edge (descends P (length es)) W x (e (length es))) (sym (agree next_record.parent (t.earlier (length es) p next)))
              (test-edge (descends P (length es)) W (image_in es next_record.parent) (e (length es)) u (sym (reaches-later W es next_record (e (length es)) p) ∙ reached));
        }
      where
        reached : reaches W es next_record (e (length es)) ≡ true
        reached = and_right (label_fits next_record.label (label_of W (e (length es)))) (reaches W es next_record (e (length es))) c

    stands-candidate : Stands P W e (length es) → candidate W es next_record (e (length es)) ≡ true
    unfolding candidate
    stands-candidate s = and_intro s.label (go (eq-zero-or-pos (length es)))
      where
        go : (length es ≡ 0) ⊎ (0 < length es) → reaches W es next_record (e (length es)) ≡ true
        go (inl z) = reaches-first W es next_record (e (length es)) z ∙ eq-eqb (e (length es)) 0 (s.root z)
        go (inr p) =
            reaches-later W es next_record (e (length es)) p
            ∙ edge_test_lem (descends P (length es)) W (image_in es next_record.parent) (e (length es)) u
            (subst (λ (x : ℕ). Edge (descends P (length es)) W x (e (length es))) (agree next_record.parent (t.earlier (length es) p next)) (s.edge p))

  -- ---- the list

  -- one image more
  snoc-stands : (es : List ℕ) (v : ℕ) → length es < length P → ((q : ℕ) → q < length es → Stands P W (image_in es) q)
      → v < length W → candidate W es (get_or P (length es) no_pattern_record) v ≡ true → (q : ℕ) → q < length (es ++ v ∷ []) → Stands P W (image_in (es ++ v ∷ [])) q
  snoc-stands es v next before h c q l = go (ltb q (length es)) refl
    where
      last : image_in (es ++ v ∷ []) (length es) ≡ v
      last = get_or-append_seam es v [] 0

      here : Stands P W (image_in (es ++ v ∷ [])) (length es)
      here =
          candidate-stands es (image_in (es ++ v ∷ [])) next (λ i k. get_or-append es (v ∷ []) 0 i k)
          (subst (λ (x : ℕ). x < length W) (sym last) h) (subst (λ (x : ℕ). candidate W es (get_or P (length es) no_pattern_record) x ≡ true) (sym last) c)

      go : (b : Bool) → ltb q (length es) ≡ b → Stands P W (image_in (es ++ v ∷ [])) q
      go true e =
          let k : q < length es = ltb-true q (length es) e in
          stands-ext (image_in (es ++ v ∷ [])) q t (omega arith) (λ i j. sym (get_or-append es (v ∷ []) 0 i (omega arith))) (before q k)
      go false e =
          let k : length es ≤ q = ltb-false q (length es) e in
          let j : length (es ++ v ∷ []) ≡ suc (length es) = length-snoc es v in
          subst (λ (x : ℕ). Stands P W (image_in (es ++ v ∷ [])) x) (omega arith) here

  -- from images that stand well, every extension stands well throughout
  extend-sound : (rs : List PatternRecord) (es fs : List ℕ) → drop (length es) P ≡ rs → length es ≤ length P → ((q : ℕ) → q < length es → Stands P W (image_in es) q)
      → Memᴰ fs (extend W rs es) → (length fs ≡ length P) × ((q : ℕ) → q < length P → Stands P W (image_in fs) q)
  unfolding extend
  extend-sound [] es fs rest l before m =
      let k : length P - length es ≡ 0 = sym (length-drop (length es) P) ∙ ap length rest in
      let all : (length es ≡ length P) × ((q : ℕ) → q < length P → Stands P W (image_in es) q) = (omega arith, λ q h. before q (omega arith)) in
      subst (λ (x : List ℕ). (length x ≡ length P) × ((q : ℕ) → q < length P → Stands P W (image_in x) q)) (sym (Memᴰ.eq_of_singleton m)) all
  extend-sound (r ∷ rs) es fs rest l before m =
      let x = flat-elim (λ v. extend W rs (es ++ v ∷ [])) (keep (candidate W es r) (up_from 0 (length W))) fs m in
      let k = keep-elim (candidate W es r) x.0 (up_from 0 (length W)) x.1 in
      let i = up_from-mem 0 (length W) x.0 k.0 in
      let d = drop-begins P (length es) r rs no_pattern_record rest in
      let n : length (es ++ x.0 ∷ []) ≡ suc (length es) = length-snoc es x.0 in
      extend-sound rs (es ++ x.0 ∷ []) fs (ap (λ (j : ℕ). drop j P) n ∙ d.2) (subst (λ (j : ℕ). j ≤ length P) (sym n) d.0)
      (snoc-stands es x.0 d.0 before (omega arith) (ap (λ (y : PatternRecord). candidate W es y x.0) d.1 ∙ k.1))
      x.2

  -- and whatever stands well throughout is an extension of its first images
  extend-complete : (rs : List PatternRecord) (es vs : List ℕ) → drop (length es) P ≡ rs → length vs ≡ length rs → ((q : ℕ) → q < length P → Stands P W (image_in (es ++ vs)) q)
      → Memᴰ (es ++ vs) (extend W rs es)
  unfolding extend
  extend-complete [] es [] rest n all = Memᴰ.head (append-nil es)
  extend-complete [] es (v ∷ vs) rest n all = absurd (omega arith)
  extend-complete (r ∷ rs) es [] rest n all = absurd (omega arith)
  extend-complete (r ∷ rs) es (v ∷ vs) rest n all =
      flat-intro (λ x. extend W rs (es ++ x ∷ [])) v (keep (candidate W es r) (up_from 0 (length W))) (es ++ v ∷ vs)
      (keep-intro (candidate W es r) v (up_from 0 (length W)) (mem-up_from 0 (length W) v (omega arith) (omega (arith, inside))) fits)
      (subst (λ (x : List ℕ). Memᴰ x (extend W rs (es ++ v ∷ []))) shift
      (extend-complete rs (es ++ v ∷ []) vs (ap (λ (j : ℕ). drop j P) (length-snoc es v) ∙ d.2) (omega arith) (subst (λ (x : List ℕ). (q : ℕ) → q < length P → Stands P W (image_in x) q) (sym shift) all)))
    where
      shift : (es ++ v ∷ []) ++ vs ≡ es ++ v ∷ vs
      shift = append_assoc es (v ∷ []) vs

      d : (length es < length P) × (get_or P (length es) no_pattern_record ≡ r) × (drop (suc (length es)) P ≡ rs)
      d = drop-begins P (length es) r rs no_pattern_record rest

      here : image_in (es ++ v ∷ vs) (length es) ≡ v
      here = get_or-append_seam es v vs 0

      inside : v < length W
      inside = subst (λ (x : ℕ). x < length W) here (all (length es) d.0).inside

      fits : candidate W es r v ≡ true
      fits =
          let c = stands-candidate es (image_in (es ++ v ∷ vs)) d.0 (λ i k. get_or-append es (v ∷ vs) 0 i k) (all (length es) d.0) in
          subst (λ (y : PatternRecord). candidate W es y v ≡ true) d.1 (subst (λ (x : ℕ). candidate W es (get_or P (length es) no_pattern_record) x ≡ true) here c)

-- every listed embedding is one
pub embeddings-sound : {P : Pattern} {W : Document} {es : List ℕ} → IsPatternTree P → IsTree W → Memᴰ es (embeddings P W) → (length es ≡ length P) × Embeds P W (image_in es)
unfolding embeddings
embeddings-sound {P} {W} {es} t u m =
    let s = extend-sound P W t u P [] es refl (omega arith) (λ q h. absurd (not-suc-le-zero h)) m in
    (s.0, stands-embeds t s.1)

-- every embedding that is written as a list is listed
pub embeddings-complete-list : {P : Pattern} {W : Document} {es : List ℕ} → IsPatternTree P → IsTree W → length es ≡ length P → Embeds P W (image_in es) → Memᴰ es (embeddings P W)
unfolding embeddings
embeddings-complete-list {P} {W} {es} t u n m = extend-complete P W t u P [] es refl n (embeds-stands m)

-- the listed embeddings are exactly the embeddings
pub embeddings-exact : {P : Pattern} {W : Document} {es : List ℕ} → IsPatternTree P → IsTree W → Memᴰ es (embeddings P W) ↔ ((length es ≡ length P) × Embeds P W (image_in es))
embeddings-exact t u = (embeddings-sound t u, λ h. embeddings-complete-list t u h.0 h.1)

-- the list of the images that a function gives
abbrev pub images_of : Pattern → (ℕ → ℕ) → List ℕ
images_of P e = map e (up_from 0 (length P))

pub length-images_of : (P : Pattern) (e : ℕ → ℕ) → length (images_of P e) ≡ length P
length-images_of P e = length-map-up_from e 0 (length P)

pub image-images_of : (P : Pattern) (e : ℕ → ℕ) (q : ℕ) → q < length P → image_in (images_of P e) q ≡ e q
image-images_of P e q h = get_or-map-up_from e 0 (length P) q 0 h ∙ ap e (zero-add q)

-- and every embedding is listed, by its images
pub embeddings-complete : {P : Pattern} {W : Document} {e : ℕ → ℕ} → IsPatternTree P → IsTree W → Embeds P W e → Memᴰ (images_of P e) (embeddings P W)
embeddings-complete {P} {W} {e} t u m =
    embeddings-complete-list t u (length-images_of P e) (embeds-ext (image_in (images_of P e)) t (λ q h. sym (image-images_of P e q h)) m)

-- ---- the order

pub precedes-asym : (xs ys : List ℕ) → Precedes xs ys → Precedes ys xs → ⊥
precedes-asym [] ys p q = p
precedes-asym (x ∷ xs) [] p q = p
precedes-asym (x ∷ xs) (y ∷ ys) (inl h) (inl k) = absurd (omega arith)
precedes-asym (x ∷ xs) (y ∷ ys) (inl h) (inr k) = absurd (omega (arith, k.0))
precedes-asym (x ∷ xs) (y ∷ ys) (inr h) (inl k) = absurd (omega (arith, h.0))
precedes-asym (x ∷ xs) (y ∷ ys) (inr h) (inr k) = precedes-asym xs ys h.1 k.1

-- two lists that first differ after es
precedes-after : (es : List ℕ) (v w : ℕ) (vs ws : List ℕ) → v < w → Precedes (es ++ v ∷ vs) (es ++ w ∷ ws)
precedes-after [] v w vs ws h = inl h
precedes-after (e ∷ es) v w vs ws h = inr (refl, precedes-after es v w vs ws h)

-- every extension begins with what it extends
extend-prefix : (W : Document) (rs : List PatternRecord) (es fs : List ℕ) → Memᴰ fs (extend W rs es) → (vs : List ℕ) × (fs ≡ es ++ vs)
unfolding extend
extend-prefix W [] es fs m = ([], Memᴰ.eq_of_singleton m ∙ sym (append-nil es))
extend-prefix W (r ∷ rs) es fs m =
    let x = flat-elim (λ v. extend W rs (es ++ v ∷ [])) (keep (candidate W es r) (up_from 0 (length W))) fs m in
    let p = extend-prefix W rs (es ++ x.0 ∷ []) fs x.2 in
    (x.0 ∷ p.0, p.1 ∙ append_assoc es (x.0 ∷ []) p.0)

extend-ascending : (W : Document) (rs : List PatternRecord) (es : List ℕ) → Ascending Precedes (extend W rs es)
unfolding extend
extend-ascending W [] es = (λ y m. absurd (Memᴰ.not-nil m), tt)
extend-ascending W (r ∷ rs) es =
    ascending-flat ◌<◌ Precedes (λ v. extend W rs (es ++ v ∷ [])) (keep (candidate W es r) (up_from 0 (length W)))
    (ascending-keep ◌<◌ (candidate W es r) (up_from 0 (length W)) (ascending-up_from 0 (length W)))
    (λ v. extend-ascending W rs (es ++ v ∷ []))
    (λ v w fs gs h m n. go v w fs gs h (extend-prefix W rs (es ++ v ∷ []) fs m) (extend-prefix W rs (es ++ w ∷ []) gs n))
  where
    go : (v w : ℕ) (fs gs : List ℕ) → v < w → (a : List ℕ) × (fs ≡ (es ++ v ∷ []) ++ a) → (b : List ℕ) × (gs ≡ (es ++ w ∷ []) ++ b) → Precedes fs gs
    go v w fs gs h p q =
        subst (λ (x : List ℕ). Precedes x gs) (sym (p.1 ∙ append_assoc es (v ∷ []) p.0))
        (subst (λ (x : List ℕ). Precedes (es ++ v ∷ p.0) x) (sym (q.1 ∙ append_assoc es (w ∷ []) q.0)) (precedes-after es v w p.0 q.0 h))

-- the embeddings are listed in the order of placements
pub embeddings-ascending : (P : Pattern) (W : Document) → Ascending Precedes (embeddings P W)
unfolding embeddings
embeddings-ascending P W = extend-ascending W P []

-- so this is the only list that holds exactly the embeddings in that order
pub embeddings-unique : {P : Pattern} {W : Document} (fs : List (List ℕ)) → IsPatternTree P → IsTree W → Ascending Precedes fs
    → ((es : List ℕ) → Memᴰ es fs ↔ ((length es ≡ length P) × Embeds P W (image_in es))) → fs ≡ embeddings P W
embeddings-unique {P} {W} fs t u a h =
    ascending-unique Precedes precedes-asym fs (embeddings P W) a (embeddings-ascending P W)
    (λ es. (λ m. (embeddings-exact t u).1 ((h es).0 m), λ m. (h es).1 ((embeddings-exact t u).0 m)))
