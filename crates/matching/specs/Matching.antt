-- Where the nodes of a pattern (document 01: selection) stand in a tree, node by node. The tree is a document (document 01:
-- volume) or a summary read as one. A pin says at which tree nodes a pattern node may stand. Sets of pattern nodes are functions
-- to Bool. proofs/Parts.antt and proofs/Stands.antt show what the sets hold.
use Rattle.std.specs.Prelude.{ℕ, zero, suc, ◌-◌, Bool, true, false, ◌&&◌, ◌||◌, not, List, eqb, ltb, length, get_or}
use Rattle.model.specs.Lists.{up_from, keep, any_of, all_of}
use Rattle.model.specs.Tree.{Document, parent_of, label_of, figure_of}
use Rattle.model.specs.Pattern.{Pattern, pattern_parent, pattern_label, descends, position, pattern_figure, label_fits, figure_fits}
use Rattle.model.specs.Embeddings.{child_test}
use Rattle.model.specs.Quick.{hangs_from}

-- q hangs from its parent by a descendant edge; the root hangs from nothing
unfoldable pub hangs_deep : Pattern → ℕ → Bool
hangs_deep Q q = ltb 0 q && descends Q q

-- all of p's children are in the set
unfoldable pub children_in : Pattern → (ℕ → Bool) → ℕ → Bool
children_in Q acc p = all_of (λ c. not (hangs_from Q p c) || acc c) (up_from 0 (length Q))

-- the children of a tree node
unfoldable pub tree_children : Document → ℕ → List ℕ
tree_children W v = keep (child_test W v) (up_from 0 (length W))

module _ (Q : Pattern) (W : Document) (pin : ℕ → ℕ → Bool) where
  -- p may stand at v: its label fits, its pin holds, and all of its children are in acc, which v's children offer
  unfoldable pub fits_at : ℕ → (ℕ → Bool) → ℕ → Bool
  fits_at v acc p = label_fits (pattern_label Q p) (label_of W v) && pin p v && children_in Q acc p

  -- what w, offered acc itself, offers to its parent: what may stand at w, and what hangs by a descendant edge and is offered
  -- from further down
  unfoldable pub offers_at : ℕ → (ℕ → Bool) → ℕ → Bool
  offers_at w acc p = fits_at w acc p || (hangs_deep Q p && acc p)

  -- what v's children offer, at most n levels deep
  unfoldable pub offered_in : ℕ → ℕ → ℕ → Bool
  offered_in zero v p = false
  offered_in (suc n) v p = any_of (λ w. offers_at w (offered_in n w) p) (tree_children W v)

  -- what v's children offer
  unfoldable pub offered : ℕ → ℕ → Bool
  offered v = offered_in (length W) v

  -- the part of the pattern from p down embeds at v
  unfoldable pub part_at : ℕ → ℕ → Bool
  part_at v = fits_at v (offered v)

  -- what u, where the pattern nodes of `may` may stand by the nodes above, leaves to its children: what hangs from a node that
  -- stands at u, and what hangs by a descendant edge and might stand at u
  unfoldable pub leaves : ℕ → (ℕ → Bool) → ℕ → Bool
  leaves u may q = (ltb 0 q && may (pattern_parent Q q) && part_at u (pattern_parent Q q)) || (hangs_deep Q q && may q)

  -- q may stand at v by the nodes above, at most n levels up
  unfoldable pub left_in : ℕ → ℕ → ℕ → Bool
  left_in zero v q = eqb q 0
  left_in (suc n) v q = elim (eqb v 0) [ true ↦ eqb q 0 | false ↦ leaves (parent_of W v) (left_in n (parent_of W v)) q ]

  -- q may stand at v by the nodes above
  unfoldable pub left_to : ℕ → ℕ → Bool
  left_to v = left_in v v

  -- q stands at v in a whole embedding
  unfoldable pub stands_at : ℕ → ℕ → Bool
  stands_at v q = left_to v q && part_at v q

-- ---- pins

-- a return node (document 01: a node with a position) stands at its own number in the list r
unfoldable pub result_pin : Pattern → List ℕ → ℕ → ℕ → Bool
result_pin Q r p v = eqb (position Q p) 0 || eqb v (get_or r (position Q p - 1) 0)

-- a node stands where its least figure fits
unfoldable pub figure_pin : Pattern → Document → ℕ → ℕ → Bool
figure_pin Q W p v = figure_fits (pattern_figure Q p) (figure_of W v)
