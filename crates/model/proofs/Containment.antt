-- Containment is decided by canonical documents: every result of the first pattern in a fitting document passes exactly when the
-- own nodes of each placement's canonical document pass. A canonical document is a fitting one, and a result anywhere is
-- carried there from a canonical one, whose own nodes have the least figures that still hold the pattern. This for any way of passing
-- that homomorphisms along which figures do not fall keep. Assumes nothing.
use Prim.Native.Nat.{ℕ, ◌<◌}
use mathlib.Core.Path.{◌≡◌, sym, ◌∙◌, subst}
use mathlib.Core.Logic.{◌↔◌}
use mathlib.Core.List.{List, map}
use lib.ListN.{length}
use Rattle.model.specs.Tree.{Document, IsTree, Hom, Rises}
use Rattle.model.specs.Summary.{Summary, Fits}
use Rattle.model.specs.Pattern.{Pattern, return_nodes, Result, ResultOfSome, SummaryEmbedding, Contained, ContainedIn}
use Rattle.model.specs.Embeddings.{image_in}
use Rattle.model.specs.Fitting.{path_in}
use Rattle.model.specs.Canonical.{canonical_spots, canonical, own_nodes, own_figure, own_result, spot_records}
use Rattle.model.specs.Facts.{SummaryFacts, PatternFacts}
use Rattle.model.proofs.TreeLaws.{hom-result}
use Rattle.model.proofs.Laid.{Laid}
use Rattle.model.proofs.Embeddings.{length-images_of, image-images_of}
use Rattle.model.proofs.Canonical.{canonical-laid}
use Rattle.model.proofs.Figures.{figures-rise}
use Rattle.model.proofs.CanonicalFits.{laid-fits, laid-result}
use Rattle.model.proofs.CanonicalHom.{paths_of, paths-placed, laid-hom, own-result-carried}

-- what passes in a tree passes where a homomorphism carries it and figures do not fall
pub record KeptByHoms (Passes : Document → List ℕ → Type 0) : Type 0 where
  pub keeps : (W D : Document) (h : ℕ → ℕ) (r : List ℕ) → IsTree W → Hom W D h → Rises W D h → Passes W r → Passes D (map h r)

pub some-result-kept : (Qs : List Pattern) → KeptByHoms (ResultOfSome Qs)
some-result-kept Qs = record { keeps = λ W D h r t m u p. record { pattern = p.pattern; among = p.among; result = hom-result p.result m u } }

-- every placement's own nodes pass in its canonical document
abbrev pub CanonicalsPass : Summary → Pattern → (Document → List ℕ → Type 0) → Type 0
CanonicalsPass S P Passes = (es : List ℕ) → length es ≡ length P → SummaryEmbedding S P (image_in es) → Passes (canonical S P es) (own_result S P es)

module _ {S : Summary} {P : Pattern} (f : SummaryFacts S) (g : PatternFacts P) where
  laid : (es : List ℕ) → SummaryEmbedding S P (image_in es) → Laid S P es (canonical_spots S P es) (own_nodes S P es)
  laid es m = canonical-laid S P es f.tree g.tree m

  pub canonical-fits : (es : List ℕ) → length es ≡ length P → SummaryEmbedding S P (image_in es) → Fits S (canonical S P es)
  unfolding canonical
  canonical-fits es l m = laid-fits _ f (laid es m)

  pub canonical-result : (es : List ℕ) → length es ≡ length P → SummaryEmbedding S P (image_in es) → Result P (canonical S P es) (own_result S P es)
  unfolding canonical own_result
  canonical-result es l m = laid-result f.tree g.tree m (laid es m)

  -- a result in a fitting document is carried there from the canonical document of its embedding's paths
  pub result-carried : (W : Document) (r : List ℕ) → Fits S W → (k : Result P W r)
      → (h : ℕ → ℕ) × Hom (canonical S P (paths_of S P W k.image)) W h × Rises (canonical S P (paths_of S P W k.image)) W h × (map h (own_result S P (paths_of S P W k.image)) ≡ r)
  unfolding canonical own_result
  result-carried W r w k = go (laid-hom f g.tree w k.embeds (image-images_of P (λ q. path_in S W (k.image q))) (laid es (paths-placed f g.tree w k.embeds)) (own_figure P (own_nodes S P es)))
    where
      es : List ℕ
      es = paths_of S P W k.image

      trial : Document
      trial = spot_records S (own_figure P (own_nodes S P es)) (canonical_spots S P es)

      go : (h : ℕ → ℕ) × Hom trial W h × ((q : ℕ) → q < length P → h (image_in (own_nodes S P es) q) ≡ k.image q)
          → (h : ℕ → ℕ) × Hom trial W h × Rises trial W h × (map h (map (image_in (own_nodes S P es)) (return_nodes P)) ≡ r)
      go (h, m, a) = (h, m, figures-rise S P (own_nodes S P es) (canonical_spots S P es) W k.image h a k.figures, sym (k.returns ∙ own-result-carried k.image h (own_nodes S P es) g a))

  -- contained exactly when every trial passes
  pub contained-canonicals : (Passes : Document → List ℕ → Type 0) → KeptByHoms Passes → ContainedIn S P Passes ↔ CanonicalsPass S P Passes
  contained-canonicals Passes kept = (there, back)
    where
      there : ContainedIn S P Passes → CanonicalsPass S P Passes
      there c es l m = c (canonical S P es) (canonical-fits es l m) (own_result S P es) (canonical-result es l m)

      back : CanonicalsPass S P Passes → ContainedIn S P Passes
      back c W w r k =
          let es : List ℕ = paths_of S P W k.image in
          let l : length es ≡ length P = length-images_of P (λ q. path_in S W (k.image q)) in
          let m : SummaryEmbedding S P (image_in es) = paths-placed f g.tree w k.embeds in
          let b = result-carried W r w k in
          subst (Passes W) b.3 (kept.keeps (canonical S P es) W b.0 (own_result S P es) (canonical-fits es l m).tree b.1 b.2 (c es l m))

  -- in a set
  pub contained-in-some : (Qs : List Pattern) → Contained S P Qs ↔ CanonicalsPass S P (ResultOfSome Qs)
  contained-in-some Qs = contained-canonicals (ResultOfSome Qs) (some-result-kept Qs)
