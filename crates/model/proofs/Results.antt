-- What is read off the list of embeddings says what document 01's words say: results, nodes at a position in any result, paths
-- and their masks. True because the list holds exactly the embeddings. Assumes nothing.
use Prim.Native.Nat.{ℕ, ◌^◌, ◌≤◌, ◌<◌}
use mathlib.Core.Path.{◌≡◌, refl, sym, ap, ◌∙◌, subst}
use mathlib.Core.Bool.{Bool, true, false}
use mathlib.Core.Logic.{◌↔◌}
use mathlib.Core.List.{List, [], map, Memᴰ}
use native.Mathlib.Omega.{arith}
use lib.Dec.{eqb, ltb}
use lib.ListN.{length}
use native.Mathlib.Nat.{le_trans}
use lib.Pow.{pow_pos, pow_mono}
use lib.Count.{ones}
use borrow.Author.Tests.{eqb-true, eq-eqb, lt-ltb, le-ltb, ltb-true, ltb-false}
use Rattle.model.specs.Lists.{up_from, any_of, same_list, mask_below, count_below, Ascending, has}
use Rattle.model.specs.Tree.{Document, IsTree, figure_of}
use Rattle.model.specs.Summary.{Summary, as_document}
use Rattle.model.specs.Pattern.{Pattern, IsPatternTree, pattern_figure, figure_fits, arity, node_at, return_nodes, Embeds, FiguresFit, SummaryEmbedding, Result, PathOf, AtPosition}
use Rattle.model.specs.Embeddings.{embeddings, summary_embeddings, image_in, figures_fit, figured_embeddings, is_result, is_at, nodes_at, is_path, path_mask, path_count}
use Rattle.model.specs.Facts.{SummaryFacts, PatternFacts}
use Rattle.model.proofs.ListLaws.{not-both, map-agree, mem-up_from, any-intro, any-elim, all-below, below_all, keep-intro, keep-elim, same-eq, eq-same}
use Rattle.model.proofs.TreeLaws.{length-as_document}
use Rattle.model.proofs.Ascending.{ascending-keep, ascending-up_from}
use Rattle.model.proofs.Embeddings.{embeddings-sound, images_of, image-images_of, embeddings-complete}
use Rattle.model.proofs.ReturnNodes.{return-inside}
use Rattle.model.proofs.Masks.{has-past, mask_lt, mask_below_lem, mask-none, ones-mask}

-- ---- figures

-- the test says whether every least figure fits
figures-exact : (P : Pattern) (W : Document) (es : List ℕ) → (figures_fit P W es ≡ true) ↔ FiguresFit P W (image_in es)
unfolding figures_fit
figures-exact P W es = (all-below (λ q. figure_fits (pattern_figure P q) (figure_of W (image_in es q))) (length P), below_all (λ q. figure_fits (pattern_figure P q) (figure_of W (image_in es q))) (length P))

-- an embedding whose figures fit
abbrev Figured : Pattern → Document → (ℕ → ℕ) → Type 0
Figured P W e = Embeds P W e × FiguresFit P W e

-- the list holds exactly those
figured-sound : {P : Pattern} {W : Document} (es : List ℕ) → IsPatternTree P → IsTree W → Memᴰ es (figured_embeddings P W) → Figured P W (image_in es)
unfolding figured_embeddings
figured-sound {P} {W} es t u m = let k = keep-elim (figures_fit P W) es (embeddings P W) m in ((embeddings-sound t u k.0).1, (figures-exact P W es).0 k.1)

figured-complete : {P : Pattern} {W : Document} (e : ℕ → ℕ) → IsPatternTree P → IsTree W → Figured P W e → Memᴰ (images_of P e) (figured_embeddings P W)
unfolding figured_embeddings
figured-complete {P} {W} e t u m =
    keep-intro (figures_fit P W) (images_of P e) (embeddings P W) (embeddings-complete t u m.0)
    ((figures-exact P W (images_of P e)).1 (λ q h. subst (λ (v : ℕ). figure_fits (pattern_figure P q) (figure_of W v) ≡ true) (sym (image-images_of P e q h)) (m.1 q h)))

-- ---- results

-- the test says whether the list is a result, as one list
pub result-exact : {P : Pattern} {W : Document} (r : List ℕ) → PatternFacts P → IsTree W → (is_result P W r ≡ true) ↔ Result P W r
unfolding is_result
result-exact {P} {W} r f u = (sound, complete)
  where
    sound : any_of (λ es. same_list r (map (image_in es) (return_nodes P))) (figured_embeddings P W) ≡ true → Result P W r
    sound e =
        let x = any-elim (λ es. same_list r (map (image_in es) (return_nodes P))) (figured_embeddings P W) e in
        let m = figured-sound x.0 f.tree u x.1 in
        record { image = image_in x.0; embeds = m.0; figures = m.1; returns = same-eq r (map (image_in x.0) (return_nodes P)) x.2 }

    -- an embedding and the list of its images give the same result
    agree : (e : ℕ → ℕ) → map e (return_nodes P) ≡ map (image_in (images_of P e)) (return_nodes P)
    agree e = map-agree e (image_in (images_of P e)) (return_nodes P) (λ q n. sym (image-images_of P e q (return-inside f q n)))

    complete : Result P W r → any_of (λ es. same_list r (map (image_in es) (return_nodes P))) (figured_embeddings P W) ≡ true
    complete m =
        any-intro (λ es. same_list r (map (image_in es) (return_nodes P))) (images_of P m.image) (figured_embeddings P W) (figured-complete m.image f.tree u (m.embeds, m.figures))
        (eq-same r (map (image_in (images_of P m.image)) (return_nodes P)) (m.returns ∙ agree m.image))

-- ---- what one node takes

-- some listed map takes q to v where some map of its kind does, if the list holds exactly those
pub takes-exact : (P : Pattern) (Good : (ℕ → ℕ) → Type 0) (listed : List (List ℕ)) (q v : ℕ) → q < length P → ((es : List ℕ) → Memᴰ es listed → Good (image_in es))
    → ((e : ℕ → ℕ) → Good e → Memᴰ (images_of P e) listed) → (any_of (λ es. eqb (image_in es q) v) listed ≡ true) ↔ ((e : ℕ → ℕ) × Good e × (e q ≡ v))
takes-exact P Good listed q v h only all = (sound, complete)
  where
    sound : any_of (λ es. eqb (image_in es q) v) listed ≡ true → (e : ℕ → ℕ) × Good e × (e q ≡ v)
    sound e =
        let x = any-elim (λ es. eqb (image_in es q) v) listed e in
        (image_in x.0, only x.0 x.1, eqb-true (image_in x.0 q) v x.2)

    complete : (e : ℕ → ℕ) × Good e × (e q ≡ v) → any_of (λ es. eqb (image_in es q) v) listed ≡ true
    complete m =
        any-intro (λ es. eqb (image_in es q) v) (images_of P m.0) listed (all m.0 m.1)
        (eq-eqb (image_in (images_of P m.0) q) v (image-images_of P m.0 q h ∙ m.2))

-- ---- nodes at a position

-- the test says whether v is at position p in some result
module _ {P : Pattern} {W : Document} (p v : ℕ) (f : PatternFacts P) (u : IsTree W) (low : 1 ≤ p) (top : p ≤ arity P) where
  pub at-position-exact : (is_at P W p v ≡ true) ↔ AtPosition P W p v
  unfolding is_at
  at-position-exact =
      let h = takes-exact P (Figured P W) (figured_embeddings P W) (node_at P p) v (f.holds p low top) (λ es m. figured-sound es f.tree u m) (λ e m. figured-complete e f.tree u m) in
      (λ e. (let x = h.0 e in record { image = x.0; embeds = x.1.0; figures = x.1.1; takes = x.2 }), λ m. h.1 (m.image, (m.embeds, m.figures), m.takes))

  -- the list of nodes at a position holds exactly those at that position
  pub nodes-at-exact : Memᴰ v (nodes_at P W p) ↔ AtPosition P W p v
  unfolding nodes_at
  nodes-at-exact = (λ m. at-position-exact.0 (keep-elim (is_at P W p) v (up_from 0 (length W)) m).1, back)
    where
      back : AtPosition P W p v → Memᴰ v (nodes_at P W p)
      back m =
          let i : v < length W = subst (λ (x : ℕ). x < length W) m.takes (m.embeds.inside (node_at P p) (f.holds p low top)) in
          keep-intro (is_at P W p) v (up_from 0 (length W)) (mem-up_from 0 (length W) v (omega arith) (omega arith)) (at-position-exact.1 m)

-- the nodes at a position are written ascending, and are nodes of the document
pub nodes-at-ascending : (P : Pattern) (W : Document) (p : ℕ) → Ascending ◌<◌ (nodes_at P W p)
unfolding nodes_at
nodes-at-ascending P W p = ascending-keep ◌<◌ (is_at P W p) (up_from 0 (length W)) (ascending-up_from 0 (length W))

-- ---- paths

-- the test says whether s is one of the paths of selection node q
pub path-exact : {S : Summary} {P : Pattern} (q s : ℕ) → IsPatternTree P → SummaryFacts S → q < length P → (is_path S P q s ≡ true) ↔ PathOf S P q s
unfolding is_path
path-exact {S} {P} q s t f h =
    let k = takes-exact P (SummaryEmbedding S P) (summary_embeddings S P) q s h (λ es m. (embeddings-sound t f.tree m).1) (λ e m. embeddings-complete t f.tree m) in
    (λ e. (let x = k.0 e in record { image = x.0; places = x.1; takes = x.2 }), λ m. k.1 (m.image, m.places, m.takes))

pub path_inside : {S : Summary} {P : Pattern} {q s : ℕ} → PathOf S P q s → q < length P → s < length S
path_inside {S} {P} {q} {s} m h = subst (λ (x : ℕ). s < x) (length-as_document S) (subst (λ (x : ℕ). x < length (as_document S)) m.takes (m.places.inside q h))

no-path : (S : Summary) (P : Pattern) (q s : ℕ) → summary_embeddings S P ≡ [] → is_path S P q s ≡ false
unfolding is_path any_of
no-path S P q s e = ap (any_of (λ es. eqb (image_in es q) s)) e

-- ---- masks of paths

pub path-mask-of : (S : Summary) (P : Pattern) (q : ℕ) → q < length P → path_mask S P q ≡ mask_below (is_path S P q) (length S)
unfolding path_mask
path-mask-of S P q h = rw (lt-ltb q (length P) h, path_mask)

-- entries past the last node are 0
pub path-mask-beyond : (S : Summary) (P : Pattern) (q : ℕ) → length P ≤ q → path_mask S P q ≡ 0
unfolding path_mask
path-mask-beyond S P q h = rw (le-ltb q (length P) h, path_mask)

-- a mask has no bit past the last outline node
pub path-mask-lt : (S : Summary) (P : Pattern) (q : ℕ) → path_mask S P q < 2 ^ length S
unfolding path_mask
path-mask-lt S P q = go (ltb q (length P))
  where
    go : (b : Bool) → (elim b as (λ _. ℕ) [ true ↦ mask_below (is_path S P q) (length S) | false ↦ 0 ]) < 2 ^ length S
    go true = mask_lt (is_path S P q) (length S)
    go false = pow_pos (length S)

pub path-mask-past : (S : Summary) (P : Pattern) (q s : ℕ) → length S ≤ s → has (path_mask S P q) s ≡ false
path-mask-past S P q s h = has-past (path_mask S P q) s (le_trans (path-mask-lt S P q) (pow_mono h))

-- bit s of the mask of a selection node says whether s is one of its paths
pub path-mask-exact : {S : Summary} {P : Pattern} (q s : ℕ) → IsPatternTree P → SummaryFacts S → q < length P → (has (path_mask S P q) s ≡ true) ↔ PathOf S P q s
path-mask-exact {S} {P} q s t f h = (λ e. go (ltb s (length S)) refl e, λ m. bit (path_inside m h) ∙ (path-exact q s t f h).1 m)
  where
    bit : s < length S → has (path_mask S P q) s ≡ is_path S P q s
    bit l = ap (λ (x : ℕ). has x s) (path-mask-of S P q h) ∙ mask_below_lem (is_path S P q) (length S) s l

    go : (b : Bool) → ltb s (length S) ≡ b → has (path_mask S P q) s ≡ true → PathOf S P q s
    go true l e = (path-exact q s t f h).0 (sym (bit (ltb-true s (length S) l)) ∙ e)
    go false l e = absurd (not-both (has (path_mask S P q) s) e (path-mask-past S P q s (ltb-false s (length S) l)))

-- the count of paths is the count of ones of the mask
pub path-count-ones : (S : Summary) (P : Pattern) (q : ℕ) → path_count S P q ≡ ones (path_mask S P q)
unfolding path_mask path_count ones
path-count-ones S P q = go (ltb q (length P))
  where
    go : (b : Bool) → (elim b as (λ _. ℕ) [ true ↦ count_below (is_path S P q) (length S) | false ↦ 0 ]) ≡ ones (elim b as (λ _. ℕ) [ true ↦ mask_below (is_path S P q) (length S) | false ↦ 0 ])
    go true = sym (ones-mask (is_path S P q) (length S))
    go false = refl

-- where nothing can be placed, no node has a path
pub path-mask-none : (S : Summary) (P : Pattern) (q : ℕ) → summary_embeddings S P ≡ [] → path_mask S P q ≡ 0
path-mask-none S P q e = go (ltb q (length P)) refl
  where
    go : (b : Bool) → ltb q (length P) ≡ b → path_mask S P q ≡ 0
    go true l = path-mask-of S P q (ltb-true q (length P) l) ∙ mask-none (is_path S P q) (length S) (λ s h. no-path S P q s e)
    go false l = path-mask-beyond S P q (ltb-false q (length P) l)
