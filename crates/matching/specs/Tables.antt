-- The matching tables: a mask of pattern nodes for each node of a tree.
use Rattle.std.specs.Prelude.{ℕ, ◌+◌, ◌≡◌, Bool, true, false, List, map, eqb, length, get_or, set}
use Rattle.std.specs.Int.Bits.{bit_and, bit_or}
use Rattle.model.specs.Lists.{up_from, mask_below}
use Rattle.model.specs.Tree.{Document, parent_of, label_of, figure_of}
use Rattle.model.specs.Pattern.{Pattern}
use Rattle.model.specs.Bytes.{written_at_front}
use Rattle.matching.specs.Matching.{part_at, stands_at}
use Rattle.matching.specs.declared.wanted.Wanted.{Wanted}
use Rattle.matching.specs.Wanted.{Wants, pin_of, fits_by, hangs_by}

module _ (Q : Pattern) (W : Document) (pin : ℕ → ℕ → Bool) where
  -- where the part of the pattern from a node down embeds
  unfoldable pub part_table : List ℕ
  part_table = map (λ v. mask_below (part_at Q W pin v) (length Q)) (up_from 0 (length W))

  -- where a node stands in a whole embedding
  unfoldable pub stand_table : List ℕ
  stand_table = map (λ v. mask_below (stands_at Q W pin v) (length Q)) (up_from 0 (length W))

-- ---- what is lent

-- a table of zeros
abbrev pub AllZero : List ℕ → Type 0
AllZero t = (v : ℕ) → get_or t v 0 ≡ 0

-- the table of the pattern that w wants, over the tree, stands at the front, the rest untouched
abbrev pub HoldsParts : Document → Wanted → List ℕ → List ℕ → Type 0
HoldsParts W w before after = (Q : Pattern) → Wants Q w → after ≡ written_at_front (part_table Q W (pin_of w W)) before

abbrev pub HoldsStands : Document → Wanted → List ℕ → List ℕ → Type 0
HoldsStands W w before after = (Q : Pattern) → Wants Q w → after ≡ written_at_front (stand_table Q W (pin_of w W)) before

-- ---- one turn of the passes over the tree, with t the table as it was and u the parent of v

-- what node v offers goes to its parent; the root has none
unfoldable pub offer_up : ℕ → ℕ → ℕ → List ℕ → List ℕ
offer_up u v offer t = elim (eqb v 0) [ true ↦ t | false ↦ set t u (bit_or (get_or t u 0) offer) ]

-- from the last node to the first: node v, where `fit` may stand, takes the place of what it was offered
unfoldable pub settle_at : Document → Wanted → ℕ → List ℕ → List ℕ
settle_at W w v t =
    let fit : ℕ = mask_below (fits_by w (label_of W v) (figure_of W v) (v + 1) (get_or t v 0)) w.count in
    offer_up (parent_of W v) v (bit_or fit (bit_and w.deep (get_or t v 0))) (set t v fit)

-- from the root down: what is left to node v by the nodes above
unfoldable pub left_at : ℕ → ℕ → List ℕ → ℕ
left_at u v left = elim (eqb v 0) [ true ↦ 1 | false ↦ get_or left u 0 ]

-- what a node to which `may` is left, and where `here` stands, leaves to its children
abbrev pub leave_at : Wanted → ℕ → ℕ → ℕ
leave_at w may here = bit_or (mask_below (hangs_by w here) w.count) (bit_and w.deep may)
