-- A canonical document is laid out as it should be: every fact of `Laid` holds of it, and it has at most 1 + |P| × (|S| - 1)
-- nodes. Assumes nothing.
use Prim.Native.Nat.{ℕ, ◌+◌, ◌-◌, ◌*◌, ◌≤◌, ◌<◌}
use mathlib.Core.Path.{◌≡◌, refl, ap}
use mathlib.Core.Logic.{◌⊎◌, inl, inr}
use mathlib.Core.List.{List, ◌∷◌}
use native.Mathlib.Omega.{arith}
use native.Mathlib.Nat.{mul-le-mul}
use lib.ListN.{length, get_or}
use Rattle.model.specs.Limits.{max_summary, max_pattern, max_canonical}
use Rattle.model.specs.Tree.{IsTree}
use Rattle.model.specs.Summary.{Summary, as_document}
use Rattle.model.specs.Pattern.{Pattern, IsPatternTree, pattern_parent, descends, SummaryEmbedding}
use Rattle.model.specs.Embeddings.{image_in}
use Rattle.model.specs.Canonical.{Spot, root_spot, spot_parent, chain, chains, node_bound, canonical_spots, canonical, own_nodes}
use Rattle.model.proofs.TreeLaws.{edge-below}
use Rattle.model.proofs.Chains.{step, below-way, chain-way}
use Rattle.model.proofs.Laid.{InChain, TopOfChain, Laid}
use Rattle.model.proofs.SpotLaws.{length-spots}
use Rattle.model.proofs.Built.{ChainedTo, FirstOf, NodeFacts, Built}
use Rattle.model.proofs.ChainPhase.{chains-built}
use Rattle.model.proofs.FillPhase.{Served, Complete, fill-built, fill-complete, few-nodes}

-- as many nodes as the table has
pub length-canonical : (S : Summary) (P : Pattern) (es : List ℕ) → length (canonical S P es) ≡ length (canonical_spots S P es)
unfolding canonical
length-canonical S P es = length-spots S _ (canonical_spots S P es)

module _ (S : Summary) (P : Pattern) (es : List ℕ) (tree : IsTree (as_document S)) (ordered : IsPatternTree P) (placed : SummaryEmbedding S P (image_in es)) where
  pub canonical-built : Built S P es (length P) (canonical_spots S P es) (own_nodes S P es)
  unfolding canonical_spots own_nodes
  canonical-built = (fill-built tree _ (chains S P es).spots 0 (chains-built S P es tree ordered placed)).built

  pub canonical-spots-few : length (canonical_spots S P es) ≤ node_bound S P
  canonical-spots-few = few-nodes tree (canonical_spots S P es) canonical-built

  canonical-complete : (i : ℕ) → i < length (canonical_spots S P es) → Complete S (canonical_spots S P es) i
  unfolding canonical_spots
  canonical-complete =
      fill-complete tree _ (chains S P es).spots 0 (chains-built S P es tree ordered placed) (λ i h. absurd (omega arith))
      (let h : length (canonical_spots S P es) ≤ node_bound S P = canonical-spots-few in omega arith)

  chain-nonempty : (q : ℕ) → 0 < q → q < length P → (x : ℕ) × (xs : List ℕ) × (chain S (image_in es (pattern_parent P q)) (image_in es q) ≡ x ∷ xs)
  chain-nonempty q p h =
      let w = below-way (edge-below (descends P q) (as_document S) (image_in es (pattern_parent P q)) (image_in es q) (placed.edges q p h)) in
      (w.0, w.1, chain-way S tree (step w.2 w.3))

  pub canonical-laid : Laid S P es (canonical_spots S P es) (own_nodes S P es)
  canonical-laid =
      record {
        some = b.some;
        root_parent = ap (λ (s : Spot). s.parent) b.root;
        root_at = ap (λ (s : Spot). s.at) b.root;
        root_owner = ap (λ (s : Spot). s.owner) b.root;
        earlier = b.earlier;
        edges = λ i p h. (node i p h).edge;
        owners = λ i h. (b.spot i (get_or spots i root_spot) h refl).owner;
        own_root = b.own_root;
        own_inside = b.own_inside;
        own_at = b.own_at;
        own_owner = b.own_owner;
        own_unfilled = b.own_unfilled;
        own_only = λ i h. (b.spot i (get_or spots i root_spot) h refl).own_only;
        filled_up = λ i p h. (node i p h).filled_up;
        chain_up = λ i p h f. up i ((node i p h).chain_up f);
        chain_nonempty = chain-nonempty;
        chain_first = λ q p h x xs. b.first q x xs p h;
        chain_next = λ i h f x xs. b.next i (get_or spots i root_spot) x xs h refl f;
        chain_end = λ i h. (b.spot i (get_or spots i root_spot) h refl).chain_end;
        complete = λ i t h s. (let r : Served spots i t = canonical-complete i h t s in (r.node, r.child, r.on));
      }
    where
      spots : List Spot
      spots = canonical_spots S P es

      b : Built S P es (length P) spots (own_nodes S P es)
      b = canonical-built

      node : (i : ℕ) → 0 < i → i < length spots → NodeFacts S P es (own_nodes S P es) (get_or spots i root_spot) (get_or spots (spot_parent spots i) root_spot)
      node i p h = b.node i (get_or spots i root_spot) (get_or spots (spot_parent spots i) root_spot) p h refl refl

      up : (i : ℕ) → ChainedTo S es (get_or spots i root_spot) (get_or spots (spot_parent spots i) root_spot) ⊎ FirstOf S P es (own_nodes S P es) (get_or spots i root_spot)
          → InChain S es spots i ⊎ TopOfChain S P es (own_nodes S P es) spots i
      up i (inl c) = inl (record { owner = c.owner; unfilled = c.unfilled; chained = c.chained })
      up i (inr c) = inr (record { owner = c.owner; hangs = c.hangs; chained = c.chained })

  -- at most 1,009 nodes result
  pub canonical-small : length S ≤ max_summary → length P ≤ max_pattern → length (canonical S P es) ≤ max_canonical
  canonical-small s p =
      let e : length (canonical S P es) ≡ length (canonical_spots S P es) = length-canonical S P es in
      let h : length (canonical_spots S P es) ≤ 1 + length P * (length S - 1) = canonical-spots-few in
      let l : length S - 1 ≤ 63 = omega arith in
      let k : length P * (length S - 1) ≤ 16 * 63 = mul-le-mul p l in
      omega arith
