-- What a renumbering keeps of selections and of outlines: a selection's results in every volume, which volumes fit an outline, the rules of both,
-- and how many placements there are, because an embedding goes along with its nodes, both ways. Assumes nothing.
use Prim.Native.Nat.{ℕ, ◌≤◌, ◌<◌}
use mathlib.Core.Path.{◌≡◌, sym, ap, ◌∙◌, subst}
use mathlib.Core.Logic.{◌↔◌}
use mathlib.Core.List.{List, [], Memᴰ}
use native.Mathlib.Omega.{arith}
use lib.Dec.{eqb, ltb}
use lib.ListN.{length, get_or}
use lib.Seq.{ext_get_or}
use Rattle.model.specs.Lists.{count_of}
use Rattle.model.specs.Tree.{Document, IsTree, Hom}
use Rattle.model.specs.Summary.{Summary, as_document, summary_label, StrongEdge, OnPath, Fits}
use Rattle.model.specs.Pattern.{Pattern, PatternRecord, IsPatternTree, arity, Embeds, Result, Carries}
use Rattle.model.specs.Embeddings.{image_in, summary_embeddings, Precedes}
use Rattle.model.specs.Renumbering.{SummaryRenumbering, PatternRenumbering}
use Rattle.model.specs.Facts.{SummaryFacts, PatternFacts}
use Rattle.model.proofs.TreeLaws.{length-as_document, hom-embeds}
use Rattle.model.proofs.Paths.{hom-label-path}
use Rattle.model.proofs.Carrying.{carried-embeds, carried-result, carried-facts}
use Rattle.model.proofs.Embeddings.{embeddings-exact, embeddings-complete, embeddings-ascending, precedes-asym, images_of, image-images_of}
use Rattle.model.proofs.Distinct.{ascending-distinct, no_longer}
use Rattle.model.proofs.Renumbering.{renumbering-back, renumbered-apart, renumbered-not-root, renumbered-count, parent_of, label_of, summary-rooted, renumbered-label, renumbered-strong, pattern-label, pattern-edge, pattern-position, pattern-figure}

-- ---- selections

module _ {P Q : Pattern} (r : PatternRenumbering P Q) where
  -- as many nodes hold a position, and as many a given one
  pub renumbered-arity : arity P ≡ arity Q
  renumbered-arity = renumbered-count r (λ (x : PatternRecord). ltb 0 x.position) (λ x y e. ap (λ (l : List ℕ). ltb 0 (get_or l 2 0)) e)

  pub renumbered-holders : (p : ℕ) → count_of (λ (x : PatternRecord). eqb x.position p) P ≡ count_of (λ (x : PatternRecord). eqb x.position p) Q
  renumbered-holders p = renumbered-count r (λ (x : PatternRecord). eqb x.position p) (λ x y e. ap (λ (l : List ℕ). eqb (get_or l 2 0) p) e)

  -- the first is carried into the second
  pub renumbered-carries : Carries P Q r.to
  renumbered-carries =
      record {
        inside = r.inside;
        root = r.root;
        not_root = renumbered-not-root r;
        parents = λ i z h. r.parents i h;
        labels = pattern-label r;
        edges = λ i h. ap (λ (e : ℕ). eqb e 1) (pattern-edge r i h);
        positions = pattern-position r;
        figures = pattern-figure r;
        apart = renumbered-apart r;
        positioned = λ j h z. (r.from j, r.inside_back j h, r.forth j h);
        arities = renumbered-arity;
      }

-- and the second, the way back, into the first
pub renumbered-carries-back : {P Q : Pattern} (r : PatternRenumbering P Q) → IsPatternTree P → Carries Q P r.from
unfolding renumbering-back
renumbered-carries-back r tree = renumbered-carries (renumbering-back r tree)

module _ {P Q : Pattern} (r : PatternRenumbering P Q) where
  -- so the second keeps the rules that the first keeps
  pub renumbered-pattern-facts : PatternFacts P → IsPatternTree Q → PatternFacts Q
  renumbered-pattern-facts f tree = carried-facts (renumbered-carries-back r f.tree) f tree

  -- and has the same results in every volume
  pub renumbered-result : PatternFacts P → IsPatternTree Q → {W : Document} {rs : List ℕ} → Result P W rs ↔ Result Q W rs
  renumbered-result f tree =
      (λ k. carried-result (renumbered-carries-back r f.tree) f k, λ k. carried-result (renumbered-carries r) (renumbered-pattern-facts f tree) k)

-- ---- outlines

module _ {S T : Summary} (r : SummaryRenumbering S T) where
  -- labels, and parents
  pub renumbered-hom : Hom (as_document S) (as_document T) r.to
  renumbered-hom =
      record {
        root = r.root;
        inside = inside;
        labels = λ i h. label_of T (r.to i) ∙ renumbered-label r i (here h) ∙ sym (label_of S i);
        children = λ a b c.
            record {
              not_root = renumbered-not-root r b c.not_root (here c.inside);
              inside = inside b c.inside;
              is_parent = parent_of T (r.to b) ∙ r.parents b (here c.inside) ∙ ap r.to (sym (parent_of S b) ∙ c.is_parent);
            };
      }
    where
      here : {i : ℕ} → i < length (as_document S) → i < length S
      here {i} h = subst (λ (k : ℕ). i < k) (length-as_document S) h

      inside : (i : ℕ) → i < length (as_document S) → r.to i < length (as_document T)
      inside i h = subst (λ (k : ℕ). r.to i < k) (sym (length-as_document T)) (r.inside i (here h))

  -- the paths of labels
  pub renumbered-path : IsTree (as_document S) → (W : Document) (i s : ℕ) → s < length S → OnPath S W i s → OnPath T W i (r.to s)
  renumbered-path tree W i s h o =
      record {
        labels = o.labels;
        of_document = o.of_document;
        of_summary = hom-label-path tree renumbered-hom o.labels s (subst (λ (k : ℕ). s < k) (sym (length-as_document S)) h) o.of_summary;
      }

  -- the strong edges
  pub renumbered-strong-edge : (s t : ℕ) → StrongEdge S s t → StrongEdge T (r.to s) (r.to t)
  renumbered-strong-edge s t e =
      record {
        child = renumbered-hom.children s t e.child;
        strong = renumbered-strong r t (subst (λ (k : ℕ). t < k) (length-as_document S) e.child.inside) ∙ e.strong;
      }

-- so the same volumes fit
fits_on : {S T : Summary} (r : SummaryRenumbering S T) → IsTree (as_document S) → IsTree (as_document T) → {W : Document} → Fits S W → Fits T W
unfolding renumbering-back
fits_on {S} {T} r tree again {W} f =
    record {
      tree = f.tree;
      root = f.root ∙ sym (ap (summary_label T) (sym r.root) ∙ (renumbered-hom r).labels 0 tree.inhabited);
      paths = λ i h. (let k = f.paths i h in (r.to k.0, r.inside k.0 k.1, renumbered-path r tree W i k.0 k.1 k.2));
      strong = λ i s t h l o e. (
          let b : SummaryRenumbering T S = renumbering-back r (summary-rooted S tree) in
          let inside : t < length T = subst (λ (k : ℕ). t < k) (length-as_document T) e.child.inside in
          let k = f.strong i (r.from s) (r.from t) h (b.inside s l) (renumbered-path b again W i s l o) (renumbered-strong-edge b s t e) in
          (k.0, k.1, subst (λ (x : ℕ). OnPath T W k.0 x) (r.forth t inside) (renumbered-path r tree W k.0 (r.from t) (r.inside_back t inside) k.2))
          );
    }

module _ {S T : Summary} (r : SummaryRenumbering S T) (tree : IsTree (as_document S)) (again : IsTree (as_document T)) where
  pub renumbered-fits : {W : Document} → Fits S W ↔ Fits T W
  renumbered-fits = (λ f. fits_on r tree again f, λ f. fits_on (renumbering-back r (summary-rooted S tree)) again tree f)

-- and siblings differ in the second as they do in the first
pub renumbered-summary-facts : {S T : Summary} (r : SummaryRenumbering S T) → SummaryFacts S → IsTree (as_document T) → SummaryFacts T
unfolding renumbering-back
renumbered-summary-facts {S} {T} r f again =
    record {
      tree = again;
      siblings = λ s t u ct cu e. (
          let b : SummaryRenumbering T S = renumbering-back r (summary-rooted S f.tree) in
          let hom : Hom (as_document T) (as_document S) r.from = renumbered-hom b in
          renumbered-apart b t u (subst (λ (k : ℕ). t < k) (length-as_document T) ct.inside) (subst (λ (k : ℕ). u < k) (length-as_document T) cu.inside)
          (f.siblings (r.from s) (r.from t) (r.from u) (hom.children s t ct) (hom.children s u cu) (hom.labels t ct.inside ∙ e ∙ sym (hom.labels u cu.inside)))
          );
    }

-- ---- placements

-- a placement goes along with the nodes of the outline, and with those of the selection the way back
module _ {S T : Summary} {P Q : Pattern} (r : SummaryRenumbering S T) (q : PatternRenumbering P Q)
    (tree_s : IsTree (as_document S)) (tree_t : IsTree (as_document T)) (tree_p : IsPatternTree P) (tree_q : IsPatternTree Q) where
  abbrev moved : List ℕ → List ℕ
  moved es = images_of Q (λ j. r.to (image_in es (q.from j)))

  moved_listed : (es : List ℕ) → Memᴰ es (summary_embeddings S P) → Memᴰ (moved es) (summary_embeddings T Q)
  moved_listed es m =
      embeddings-complete tree_q tree_t (hom-embeds (carried-embeds (renumbered-carries-back q tree_p) ((embeddings-exact tree_p tree_s).0 m).1) (renumbered-hom r))

  moved_apart : (es fs : List ℕ) → Memᴰ es (summary_embeddings S P) → Memᴰ fs (summary_embeddings S P) → moved es ≡ moved fs → es ≡ fs
  moved_apart es fs m n e =
      let a = (embeddings-exact tree_p tree_s).0 m in
      let b = (embeddings-exact tree_p tree_s).0 n in
      ext_get_or 0 es fs (a.0 ∙ sym b.0) (λ i h. at i (subst (λ (k : ℕ). i < k) a.0 h) a.1 b.1)
    where
      at : (i : ℕ) → i < length P → Embeds P (as_document S) (image_in es) → Embeds P (as_document S) (image_in fs) → image_in es i ≡ image_in fs i
      at i h a b =
          renumbered-apart r (image_in es i) (image_in fs i) (subst (λ (k : ℕ). image_in es i < k) (length-as_document S) (a.inside i h)) (subst (λ (k : ℕ). image_in fs i < k) (length-as_document S) (b.inside i h))
          (ap (λ (k : ℕ). r.to (image_in es k)) (sym (q.back i h)) ∙ sym (image-images_of Q (λ j. r.to (image_in es (q.from j))) (q.to i) (q.inside i h))
          ∙ ap (λ (l : List ℕ). image_in l (q.to i)) e
          ∙ image-images_of Q (λ j. r.to (image_in fs (q.from j))) (q.to i) (q.inside i h) ∙ ap (λ (k : ℕ). r.to (image_in fs k)) (q.back i h))

  placements-no-more : length (summary_embeddings S P) ≤ length (summary_embeddings T Q)
  placements-no-more =
      no_longer [] [] (summary_embeddings S P) (summary_embeddings T Q) moved moved_listed
      (ascending-distinct Precedes (λ es p. precedes-asym es es p p) [] (summary_embeddings S P) (embeddings-ascending P (as_document S))) moved_apart

-- there are as many
pub renumbered-placements : {S T : Summary} {P Q : Pattern} → SummaryRenumbering S T → PatternRenumbering P Q
    → IsTree (as_document S) → IsTree (as_document T) → IsPatternTree P → IsPatternTree Q → length (summary_embeddings S P) ≡ length (summary_embeddings T Q)
renumbered-placements {S} {T} {P} {Q} r q tree_s tree_t tree_p tree_q =
    let one : length (summary_embeddings S P) ≤ length (summary_embeddings T Q) = placements-no-more r q tree_s tree_t tree_p tree_q in
    let two : length (summary_embeddings T Q) ≤ length (summary_embeddings S P) =
    placements-no-more (renumbering-back r (summary-rooted S tree_s)) (renumbering-back q tree_p) tree_t tree_s tree_q tree_p in
    omega arith
