-- A canonical document fits the summary, and the first pattern's own nodes are an embedding there: its nodes lie over the
-- summary, every strong edge has its child, and each chain goes down from own node to own node. Assumes nothing.
use Prim.Native.Nat.{ℕ, ◌<◌}
use mathlib.Core.Path.{◌≡◌, refl, sym, ap, ◌∙◌, subst}
use mathlib.Core.Bool.{Bool, true, false}
use mathlib.Core.Logic.{◌⊎◌, inl, inr}
use mathlib.Core.List.{List, [], ◌∷◌, map}
use native.Mathlib.Omega.{arith}
use lib.ListN.{length}
use Rattle.model.specs.Tree.{IsTree, Child, Below, Edge, Hom, AtOrBelow}
use Rattle.model.specs.Summary.{Summary, as_document, summary_label, StrongEdge, OnPath, Fits}
use Rattle.model.specs.Pattern.{Pattern, IsPatternTree, pattern_parent, pattern_label, label_fits, descends, return_nodes, Embeds, Result, SummaryEmbedding}
use Rattle.model.specs.Embeddings.{image_in}
use Rattle.model.specs.Canonical.{Spot, spot_at, chain, spot_records, own_figure}
use Rattle.model.specs.Facts.{SummaryFacts}
use Rattle.model.proofs.TreeLaws.{length-as_document}
use Rattle.model.proofs.Laid.{Laid, SpotChild, ChainChild, InChain, TopOfChain, spot_owner, spot_filled}
use Rattle.model.proofs.Paths.{on-path-unique, hom-on-path}
use Rattle.model.proofs.Chains.{child-below, chain-self, chain-step}
use Rattle.model.proofs.SpotLaws.{in_table, in-document, spot-label, spot-child, laid-tree, laid-summary}
use Rattle.model.proofs.Figures.{own-figures-fit}

module _ {S : Summary} {P : Pattern} {es : List ℕ} {spots : List Spot} {own : List ℕ} where
  -- ---- the document fits

  laid-path : (g : ℕ → ℕ) → SummaryFacts S → Laid S P es spots own → (i : ℕ) → i < length (spot_records S g spots) → (spot_at spots i < length S) × OnPath S (spot_records S g spots) i (spot_at spots i)
  laid-path g f d i h =
      (subst (λ (n : ℕ). spot_at spots i < n) (length-as_document S) (m.inside i h), hom-on-path (laid-tree g d) m i h)
    where
      m : Hom (spot_records S g spots) (as_document S) (spot_at spots)
      m = laid-summary g f.tree d

  -- the other end of a strong edge is taken by a child
  laid-strong : (g : ℕ → ℕ) → SummaryFacts S → Laid S P es spots own → (i t : ℕ) → i < length (spot_records S g spots) → StrongEdge S (spot_at spots i) t
      → (j : ℕ) × Child (spot_records S g spots) i j × OnPath S (spot_records S g spots) j t
  laid-strong g f d i t h k = go (d.complete i t (in_table S g spots i h) k)
    where
      go : (j : ℕ) × SpotChild spots i j × (spot_at spots j ≡ t) → (j : ℕ) × Child (spot_records S g spots) i j × OnPath S (spot_records S g spots) j t
      go (j, c, p) =
          let k : Child (spot_records S g spots) i j = spot-child S g spots i j c in
          (j, k, subst (OnPath S (spot_records S g spots) j) p (laid-path g f d j k.inside).1)

  pub laid-fits : (g : ℕ → ℕ) → SummaryFacts S → Laid S P es spots own → Fits S (spot_records S g spots)
  laid-fits g f d =
      record {
        tree = laid-tree g d;
        root = spot-label S g spots 0 d.some ∙ ap (summary_label S) d.root_at;
        paths = λ i h. let r = laid-path g f d i h in (spot_at spots i, r.0, r.1);
        strong = λ i s t h l o k.
            let r = laid-path g f d i h in
            let p : s ≡ spot_at spots i = on-path-unique f l r.0 o r.1 in
            laid-strong g f d i t h (subst (λ (x : ℕ). StrongEdge S x t) p k);
      }

  -- ---- the own nodes are an embedding

  -- a node of q's chain is the next one after its parent on the way down to q's image
  pub chain-down : IsPatternTree P → Laid S P es spots own → (a i q : ℕ) → SpotChild spots a i → spot_owner spots i ≡ q → spot_filled spots i ≡ false
      → chain S (spot_at spots a) (image_in es q) ≡ spot_at spots i ∷ chain S (spot_at spots i) (image_in es q)
  chain-down t d a i q k o u = go (d.chain_up i k.not_root k.inside u)
    where
      top : TopOfChain S P es own spots i → spot_at spots a ≡ image_in es (pattern_parent P (spot_owner spots i))
      top c =
          let l : spot_owner spots i < length P = d.owners i k.inside in
          let e : pattern_parent P (spot_owner spots i) < spot_owner spots i = t.earlier (spot_owner spots i) c.owner l in
          ap (spot_at spots) (sym k.is_parent ∙ c.hangs) ∙ d.own_at (pattern_parent P (spot_owner spots i)) (omega arith)

      go : InChain S es spots i ⊎ TopOfChain S P es own spots i → chain S (spot_at spots a) (image_in es q) ≡ spot_at spots i ∷ chain S (spot_at spots i) (image_in es q)
      go (inl c) = cc (k.is_parent, o, c.chained)
      go (inr c) = cc (top c, o, c.chained)

  -- a chain goes down to its owner's own node
  own_below : (g : ℕ → ℕ) → IsPatternTree P → Laid S P es spots own → (cs : List ℕ) (i q : ℕ) → i < length spots → spot_owner spots i ≡ q → spot_filled spots i ≡ false
      → chain S (spot_at spots i) (image_in es q) ≡ cs → AtOrBelow (spot_records S g spots) i (image_in own q)
  own_below g t d [] i q h o u e =
      let end : spot_at spots i ≡ image_in es (spot_owner spots i) = d.chain_end i h u (ap (λ (x : ℕ). chain S (spot_at spots i) (image_in es x)) o ∙ e) in
      inl (d.own_only i h u end ∙ ap (image_in own) o)
  own_below g t d (x ∷ xs) i q h o u e =
      go (d.chain_next i h u x xs (ap (λ (y : ℕ). chain S (spot_at spots i) (image_in es y)) o ∙ e)) (λ j l p v k. own_below g t d xs j q l p v k)
    where
      go : ChainChild spots i (spot_owner spots i) x
          → ((j : ℕ) → j < length spots → spot_owner spots j ≡ q → spot_filled spots j ≡ false → chain S (spot_at spots j) (image_in es q) ≡ xs → AtOrBelow (spot_records S g spots) j (image_in own q))
          → AtOrBelow (spot_records S g spots) i (image_in own q)
      go c rest =
          let p : spot_owner spots c.node ≡ q = c.owner ∙ o in
          let k : chain S (spot_at spots c.node) (image_in es q) ≡ xs = cc (e, chain-down t d i c.node q c.child p c.unfilled) in
          inr (child-below (spot-child S g spots i c.node c.child) (rest c.node c.child.inside p c.unfilled k))

  own-descends : (g : ℕ → ℕ) → IsPatternTree P → Laid S P es spots own → (q : ℕ) → 0 < q → q < length P → Below (spot_records S g spots) (image_in own (pattern_parent P q)) (image_in own q)
  own-descends g t d q p h =
      let r = d.chain_nonempty q p h in
      let c : ChainChild spots (image_in own (pattern_parent P q)) q r.0 = d.chain_first q p h r.0 r.1 r.2 in
      child-below (spot-child S g spots _ c.node c.child) (own_below g t d (chain S (spot_at spots c.node) (image_in es q)) c.node q c.child.inside c.owner c.unfilled refl)

  -- a chain between a node and its child in the summary is one node
  own-child : (g : ℕ → ℕ) → IsTree (as_document S) → Laid S P es spots own → (q : ℕ) → 0 < q → q < length P → Child (as_document S) (image_in es (pattern_parent P q)) (image_in es q)
      → Child (spot_records S g spots) (image_in own (pattern_parent P q)) (image_in own q)
  own-child g t d q p h e = go (d.chain_first q p h (image_in es q) [] one)
    where
      one : chain S (image_in es (pattern_parent P q)) (image_in es q) ≡ image_in es q ∷ []
      one = chain-step S (image_in es (pattern_parent P q)) (image_in es q) (image_in es q) t e (inl refl) ∙ ap (λ (l : List ℕ). image_in es q ∷ l) (chain-self S (image_in es q))

      go : ChainChild spots (image_in own (pattern_parent P q)) q (image_in es q) → Child (spot_records S g spots) (image_in own (pattern_parent P q)) (image_in own q)
      go c =
          let o : c.node ≡ image_in own (spot_owner spots c.node) = d.own_only c.node c.child.inside c.unfilled (c.on ∙ ap (image_in es) (sym c.owner)) in
          spot-child S g spots _ _ (subst (SpotChild spots (image_in own (pattern_parent P q))) (o ∙ ap (image_in own) c.owner) c.child)

  own-edge : (g : ℕ → ℕ) → IsTree (as_document S) → IsPatternTree P → Laid S P es spots own → (q : ℕ) → 0 < q → q < length P → (b : Bool)
      → Edge b (as_document S) (image_in es (pattern_parent P q)) (image_in es q) → Edge b (spot_records S g spots) (image_in own (pattern_parent P q)) (image_in own q)
  own-edge g f t d q p h true e = own-descends g t d q p h
  own-edge g f t d q p h false e = own-child g f d q p h e

  pub laid-own : (g : ℕ → ℕ) → IsTree (as_document S) → IsPatternTree P → SummaryEmbedding S P (image_in es) → Laid S P es spots own → Embeds P (spot_records S g spots) (image_in own)
  laid-own g f t m d =
      record {
        inside = λ q h. in-document S g spots (image_in own q) (d.own_inside q h);
        root = d.own_root;
        labels = λ q h. ap (label_fits (pattern_label P q)) (spot-label S g spots (image_in own q) (d.own_inside q h) ∙ ap (summary_label S) (d.own_at q h)) ∙ m.labels q h;
        edges = λ q p h. own-edge g f t d q p h (descends P q) (m.edges q p h);
      }

-- so the own nodes at positions 1 to k are a result, since they have their least figures
pub laid-result : {S : Summary} {P : Pattern} {es : List ℕ} {spots : List Spot} {own : List ℕ} → IsTree (as_document S) → IsPatternTree P → SummaryEmbedding S P (image_in es)
    → Laid S P es spots own → Result P (spot_records S (own_figure P own) spots) (map (image_in own) (return_nodes P))
laid-result {P = P} {own = own} f t m d = record { image = image_in own; embeds = laid-own (own_figure P own) f t m d; figures = own-figures-fit d; returns = refl }
