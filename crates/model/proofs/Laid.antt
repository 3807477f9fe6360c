-- What holds of a canonical document's nodes once it is laid out, as one record: the theorems about canonical documents use
-- these facts and not how the table was grown. Assumes nothing.
use Prim.Native.Nat.{ℕ, ◌<◌}
use mathlib.Core.Path.{◌≡◌}
use mathlib.Core.Bool.{Bool, true, false}
use mathlib.Core.Logic.{◌⊎◌}
use mathlib.Core.List.{List, [], ◌∷◌}
use lib.ListN.{length, get_or}
use Rattle.model.specs.Tree.{Child}
use Rattle.model.specs.Summary.{Summary, as_document, StrongEdge}
use Rattle.model.specs.Pattern.{Pattern, pattern_parent}
use Rattle.model.specs.Embeddings.{image_in}
use Rattle.model.specs.Canonical.{Spot, root_spot, spot_parent, spot_at, chain}

-- the pattern node in whose chain a node stands, or whose chain it fills up
abbrev pub spot_owner : List Spot → ℕ → ℕ
spot_owner spots i = (get_or spots i root_spot).owner

abbrev pub spot_filled : List Spot → ℕ → Bool
spot_filled spots i = (get_or spots i root_spot).filled

-- j is a child of i in the table
pub record SpotChild (spots : List Spot) (i j : ℕ) : Type 0 where
  pub not_root : 0 < j
  pub inside : j < length spots
  pub is_parent : spot_parent spots j ≡ i

-- a child of i in the chain of pattern node q, on summary node x
pub record ChainChild (spots : List Spot) (i q x : ℕ) : Type 0 where
  pub node : ℕ
  pub child : SpotChild spots i node
  pub owner : spot_owner spots node ≡ q
  pub unfilled : spot_filled spots node ≡ false
  pub on : spot_at spots node ≡ x

-- a node of a chain, which is no root, hangs from the one above it in the chain
pub record InChain (S : Summary) (es : List ℕ) (spots : List Spot) (i : ℕ) : Type 0 where
  pub owner : spot_owner spots (spot_parent spots i) ≡ spot_owner spots i
  pub unfilled : spot_filled spots (spot_parent spots i) ≡ false
  pub chained : chain S (spot_at spots (spot_parent spots i)) (image_in es (spot_owner spots i)) ≡ spot_at spots i ∷ chain S (spot_at spots i) (image_in es (spot_owner spots i))

-- or it is its chain's first, and hangs from the own node of its owner's parent
pub record TopOfChain (S : Summary) (P : Pattern) (es own : List ℕ) (spots : List Spot) (i : ℕ) : Type 0 where
  pub owner : 0 < spot_owner spots i
  pub hangs : spot_parent spots i ≡ image_in own (pattern_parent P (spot_owner spots i))
  pub chained : chain S (image_in es (pattern_parent P (spot_owner spots i))) (image_in es (spot_owner spots i)) ≡ spot_at spots i ∷ chain S (spot_at spots i) (image_in es (spot_owner spots i))

pub record Laid (S : Summary) (P : Pattern) (es : List ℕ) (spots : List Spot) (own : List ℕ) : Type 0 where
  -- a tree over the summary: node 0 is the root, parents come earlier, and each edge lies on an edge of the summary
  pub some : 0 < length spots
  pub root_parent : spot_parent spots 0 ≡ 0
  pub root_at : spot_at spots 0 ≡ 0
  pub root_owner : spot_owner spots 0 ≡ 0
  pub earlier : (i : ℕ) → 0 < i → i < length spots → spot_parent spots i < i
  pub edges : (i : ℕ) → 0 < i → i < length spots → Child (as_document S) (spot_at spots (spot_parent spots i)) (spot_at spots i)
  pub owners : (i : ℕ) → i < length spots → spot_owner spots i < length P
  -- the own node of pattern node q is the one node of q's chain on q's image
  pub own_root : image_in own 0 ≡ 0
  pub own_inside : (q : ℕ) → q < length P → image_in own q < length spots
  pub own_at : (q : ℕ) → q < length P → spot_at spots (image_in own q) ≡ image_in es q
  pub own_owner : (q : ℕ) → q < length P → spot_owner spots (image_in own q) ≡ q
  pub own_unfilled : (q : ℕ) → q < length P → spot_filled spots (image_in own q) ≡ false
  pub own_only : (i : ℕ) → i < length spots → spot_filled spots i ≡ false → spot_at spots i ≡ image_in es (spot_owner spots i) → i ≡ image_in own (spot_owner spots i)
  -- every other node is filled up along a strong edge, or stands in a chain
  pub filled_up : (i : ℕ) → 0 < i → i < length spots → spot_filled spots i ≡ true → StrongEdge S (spot_at spots (spot_parent spots i)) (spot_at spots i)
  pub chain_up : (i : ℕ) → 0 < i → i < length spots → spot_filled spots i ≡ false → InChain S es spots i ⊎ TopOfChain S P es own spots i
  -- chains are not empty and go down to their ends
  pub chain_nonempty : (q : ℕ) → 0 < q → q < length P → (x : ℕ) × (xs : List ℕ) × (chain S (image_in es (pattern_parent P q)) (image_in es q) ≡ x ∷ xs)
  pub chain_first : (q : ℕ) → 0 < q → q < length P → (x : ℕ) (xs : List ℕ) → chain S (image_in es (pattern_parent P q)) (image_in es q) ≡ x ∷ xs → ChainChild spots (image_in own (pattern_parent P q)) q x
  pub chain_next : (i : ℕ) → i < length spots → spot_filled spots i ≡ false → (x : ℕ) (xs : List ℕ) → chain S (spot_at spots i) (image_in es (spot_owner spots i)) ≡ x ∷ xs → ChainChild spots i (spot_owner spots i) x
  pub chain_end : (i : ℕ) → i < length spots → spot_filled spots i ≡ false → chain S (spot_at spots i) (image_in es (spot_owner spots i)) ≡ [] → spot_at spots i ≡ image_in es (spot_owner spots i)
  -- every strong edge from a node's path has a child of the node on its other end
  pub complete : (i t : ℕ) → i < length spots → StrongEdge S (spot_at spots i) t → (j : ℕ) × SpotChild spots i j × (spot_at spots j ≡ t)
