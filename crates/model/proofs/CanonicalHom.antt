-- An embedding of the pattern into a fitting document is carried there from a canonical document: the images' paths are a
-- placement, and the canonical document of this placement maps homomorphically to the document, own nodes to images. Nodes of
-- a chain go to the nodes on the way down to the image, filled-up nodes to the children that fitting gives. Assumes nothing.
use Prim.Native.Nat.{ℕ, ◌<◌}
use mathlib.Core.Path.{◌≡◌, refl, sym, ap, ◌∙◌, subst}
use mathlib.Core.Bool.{Bool, true, false, true≢false}
use mathlib.Core.Logic.{◌⊎◌, inl, inr}
use mathlib.Core.List.{List, ◌∷◌, map, map-map, nil≢cons}
use native.Mathlib.Omega.{arith}
use lib.ListN.{length}
use Rattle.model.specs.Tree.{Document, IsTree, Child, Below, Hom, AtOrBelow}
use Rattle.model.specs.Summary.{Summary, as_document, summary_label, OnPath, Fits}
use Rattle.model.specs.Pattern.{Pattern, IsPatternTree, pattern_parent, descends, return_nodes, Embeds, SummaryEmbedding}
use Rattle.model.specs.Embeddings.{image_in}
use Rattle.model.specs.Fitting.{path_in}
use Rattle.model.specs.Canonical.{Spot, spot_parent, spot_at, chain, spot_records}
use Rattle.model.specs.Facts.{SummaryFacts, PatternFacts}
use Rattle.model.proofs.ListLaws.{map-agree}
use Rattle.model.proofs.TreeLaws.{length-as_document, below-lt, edge-below, hom-below, hom-embeds}
use Rattle.model.proofs.Laid.{Laid, SpotChild, InChain, TopOfChain, spot_owner, spot_filled}
use Rattle.model.proofs.Paths.{hom-on-path, path-hom, path-on}
use Rattle.model.proofs.Embeddings.{embeds-ext, images_of, image-images_of}
use Rattle.model.proofs.ReturnNodes.{return-inside}
use Rattle.model.proofs.Chains.{hom-at-or-below, first_step, chain-self, chain-step}
use Rattle.model.proofs.SpotLaws.{in_table, spot-label, child-spot, laid-inside}
use Rattle.model.proofs.CanonicalFits.{chain-down}
use Rattle.model.proofs.TreeChoice.{Chosen, choose}

-- ---- the placement

-- the paths of the images, as a list
abbrev pub paths_of : Summary → Pattern → Document → (ℕ → ℕ) → List ℕ
paths_of S P W e = images_of P (λ q. path_in S W (e q))

pub paths-placed : {S : Summary} {P : Pattern} {W : Document} {e : ℕ → ℕ} → SummaryFacts S → IsPatternTree P → Fits S W → Embeds P W e → SummaryEmbedding S P (image_in (paths_of S P W e))
paths-placed {S} {P} {W} {e} f t w m = embeds-ext (image_in (paths_of S P W e)) t (λ q h. sym (image-images_of P (λ x. path_in S W (e x)) q h)) (hom-embeds m (path-hom f w))

-- ---- the map

-- a node and what is at or below it, on one path, are the same
same-path : {W D : Document} {h : ℕ → ℕ} {a b : ℕ} → IsTree D → Hom W D h → AtOrBelow W a b → h a ≡ h b → a ≡ b
same-path t m (inl p) e = p
same-path {h = h} {a = a} {b = b} t m (inr d) e = let l : h a < h b = below-lt t (hom-below m d) in absurd (omega arith)

-- what the image x of node i keeps: it is on the node's path, and where the node stands in a chain, the chain's end is to
-- come from x on
record Over (S : Summary) (W : Document) (e : ℕ → ℕ) (spots : List Spot) (i x : ℕ) : Type 0 where
  inside : x < length W
  on : path_in S W x ≡ spot_at spots i
  to_come : spot_filled spots i ≡ false → AtOrBelow W x (e (spot_owner spots i))

module _ {S : Summary} {P : Pattern} {W : Document} {e : ℕ → ℕ} {es : List ℕ} {spots : List Spot} {own : List ℕ}
    (f : SummaryFacts S) (t : IsPatternTree P) (w : Fits S W) (m : Embeds P W e) (a : (q : ℕ) → q < length P → image_in es q ≡ path_in S W (e q))
    (d : Laid S P es spots own) where
  paths : Hom W (as_document S) (path_in S W)
  paths = path-hom f w

  -- a filled-up node goes to a child on its path
  over-filled : (i x : ℕ) → 0 < i → i < length spots → spot_filled spots i ≡ true → Over S W e spots (spot_parent spots i) x
      → (y : ℕ) × Over S W e spots i y × Child W x y
  over-filled i x p h u o = go (w.strong x (spot_at spots (spot_parent spots i)) (spot_at spots i) o.inside below on_path (d.filled_up i p h u))
    where
      in-summary : (j : ℕ) → j < length spots → spot_at spots j < length S
      in-summary j l = subst (λ (n : ℕ). spot_at spots j < n) (length-as_document S) (laid-inside f.tree d j l)

      below : spot_at spots (spot_parent spots i) < length S
      below = let l : spot_parent spots i < i = d.earlier i p h in in-summary (spot_parent spots i) (omega arith)

      on_path : OnPath S W x (spot_at spots (spot_parent spots i))
      on_path = subst (OnPath S W x) o.on (hom-on-path w.tree paths x o.inside)

      go : (j : ℕ) × Child W x j × OnPath S W j (spot_at spots i) → (y : ℕ) × Over S W e spots i y × Child W x y
      go (j, c, k) = (
        j,
        record {
          inside = c.inside;
          on = path-on f w j (spot_at spots i) c.inside (in-summary i h) k;
          to_come = λ v. absurd (true≢false (sym u ∙ v));
        },
        c,
      )

  -- the own node of pattern node q goes to q's image, if it goes to its own path and q's image is to come
  over-own : (q x : ℕ) → q < length P → Over S W e spots (image_in own q) x → x ≡ e q
  over-own q x h o =
      same-path f.tree paths (subst (λ (k : ℕ). AtOrBelow W x (e k)) (d.own_owner q h) (o.to_come (d.own_unfilled q h))) (o.on ∙ d.own_at q h ∙ a q h)

  -- from the image of a chain node's parent, the image of the node's owner is to come
  over-parent : (i x : ℕ) → 0 < i → i < length spots → spot_filled spots i ≡ false → Over S W e spots (spot_parent spots i) x
      → AtOrBelow W x (e (spot_owner spots i))
  over-parent i x p h u o = go (d.chain_up i p h u)
    where
      q : ℕ
      q = spot_owner spots i

      go : InChain S es spots i ⊎ TopOfChain S P es own spots i → AtOrBelow W x (e q)
      go (inl c) = subst (λ (k : ℕ). AtOrBelow W x (e k)) c.owner (o.to_come c.unfilled)
      go (inr c) =
          let l : q < length P = d.owners i h in
          let k : pattern_parent P q < q = t.earlier q c.owner l in
          let s : x ≡ e (pattern_parent P q) = over-own (pattern_parent P q) x (omega arith) (subst (λ (j : ℕ). Over S W e spots j x) c.hangs o) in
          inr (subst (λ (z : ℕ). Below W z (e q)) (sym s) (edge-below (descends P q) W (e (pattern_parent P q)) (e q) (m.edges q c.owner l)))

  -- a chain's node goes to the child on the way down
  over-chain : (i x : ℕ) → 0 < i → i < length spots → spot_filled spots i ≡ false → Over S W e spots (spot_parent spots i) x
      → (y : ℕ) × Over S W e spots i y × Child W x y
  over-chain i x p h u o = go (over-parent i x p h u o)
    where
      q : ℕ
      q = spot_owner spots i

      -- the chain from x's path down to the path of q's image begins with the node's path
      begins : chain S (path_in S W x) (path_in S W (e q)) ≡ spot_at spots i ∷ chain S (spot_at spots i) (path_in S W (e q))
      begins = cc (o.on, a q (d.owners i h), chain-down t d (spot_parent spots i) i q (record { not_root = p; inside = h; is_parent = refl }) refl u)

      -- so the end is not reached
      not_end : x ≡ e q → ⊥
      not_end s = nil≢cons (sym (chain-self S (path_in S W (e q))) ∙ ap (λ (z : ℕ). chain S (path_in S W z) (path_in S W (e q))) (sym s) ∙ begins)

      -- and the next node down is on the node's path
      next-on : (y : ℕ) → Child W x y → AtOrBelow W y (e q) → path_in S W y ≡ spot_at spots i
      next-on y c k =
          cc (begins, chain-step S (path_in S W x) (path_in S W y) (path_in S W (e q)) f.tree (paths.children x y c) (hom-at-or-below paths k))

      step : (y : ℕ) × Child W x y × AtOrBelow W y (e q) → (y : ℕ) × Over S W e spots i y × Child W x y
      step (y, c, k) = (y, record { inside = c.inside; on = next-on y c k; to_come = λ v. k }, c)

      go : AtOrBelow W x (e q) → (y : ℕ) × Over S W e spots i y × Child W x y
      go (inl s) = absurd (not_end s)
      go (inr b) = step (first_step b)

  over-next : (i x : ℕ) → 0 < i → i < length spots → Over S W e spots (spot_parent spots i) x → (y : ℕ) × Over S W e spots i y × Child W x y
  over-next i x p h o = go (spot_filled spots i) refl
    where
      go : (b : Bool) → spot_filled spots i ≡ b → (y : ℕ) × Over S W e spots i y × Child W x y
      go true u = over-filled i x p h u o
      go false u = over-chain i x p h u o

  over_root : Over S W e spots 0 0
  over_root =
      record {
        inside = w.tree.inhabited;
        on = paths.root ∙ sym d.root_at;
        to_come = λ u. inl (sym (ap e d.root_owner ∙ m.root));
      }

  over-all : Chosen (spot_parent spots) (Over S W e spots) (λ i. Child W) (length spots)
  over-all = choose (length spots) (record { inhabited = d.some; root = d.root_parent; earlier = d.earlier }) over_root over-next

  -- the map that carries the own nodes to the images
  pub laid-hom : (g : ℕ → ℕ) → (h : ℕ → ℕ) × Hom (spot_records S g spots) W h × ((q : ℕ) → q < length P → h (image_in own q) ≡ e q)
  laid-hom g = go over-all
    where
      go : Chosen (spot_parent spots) (Over S W e spots) (λ i. Child W) (length spots) → (h : ℕ → ℕ) × Hom (spot_records S g spots) W h × ((q : ℕ) → q < length P → h (image_in own q) ≡ e q)
      go c = (
        c.image,
        record {
          root = c.root;
          inside = λ i h. (c.good i (in_table S g spots i h)).inside;
          labels = λ i h.
              let o : Over S W e spots i (c.image i) = c.good i (in_table S g spots i h) in
              sym (paths.labels (c.image i) o.inside) ∙ ap (summary_label S) o.on ∙ sym (spot-label S g spots i (in_table S g spots i h));
          children = λ x y k. child x y (child-spot S g spots x y k);
        },
        λ q h. over-own q (c.image (image_in own q)) h (c.good (image_in own q) (d.own_inside q h)),
      )
        where
          child : (x y : ℕ) → SpotChild spots x y → Child W (c.image x) (c.image y)
          child x y k = subst (λ (z : ℕ). Child W (c.image z) (c.image y)) k.is_parent (c.link y k.not_root k.inside)

-- ---- the result

-- the nodes at positions 1 to k are the pattern's
pub own-result-carried : {P : Pattern} (e h : ℕ → ℕ) (own : List ℕ) → PatternFacts P → ((q : ℕ) → q < length P → h (image_in own q) ≡ e q)
    → map e (return_nodes P) ≡ map h (map (image_in own) (return_nodes P))
own-result-carried {P} e h own f a =
    map-agree e (λ q. h (image_in own q)) (return_nodes P) (λ q m. sym (a q (return-inside f q m))) ∙ sym (map-map h (image_in own) (return_nodes P))
