-- Settling: what a part of the first pattern offers is worked out once, when its last node is placed, and kept in a row of sets, one for
-- each node: what the complete parts that hang from it offer. `last c` is the last node of c's part.
use Rattle.std.specs.Prelude.{ℕ, ◌-◌, ◌≤◌, ◌<◌, ◌≡◌, true, false, List, eqb, ltb, length, replicate}
use Rattle.model.specs.Pattern.{Pattern, pattern_parent}
use Rattle.judging.specs.Judging.{gather, Sets, pass_by}
use Rattle.judging.specs.declared.member.Member.{Member}
use Rattle.judging.specs.declared.masks.Masks.{Masks}
use Rattle.judging.specs.Blocks.{last_in, sets_in}

-- of n nodes: a part ends with its root or later, with one of the nodes, and with the part that it stands in or before
pub record Lasts (n : ℕ) (parent last : ℕ → ℕ) : Type 0 where
  pub own : (c : ℕ) → c < n → c ≤ last c
  pub inside : (c : ℕ) → c < n → last c < n
  pub up : (c : ℕ) → 0 < c → c < n → last c ≤ last (parent c)

-- what node c passes on to its parent, where e hangs from it and the nodes before q are placed: nothing unless its part is complete
unfoldable pub settled_by : Sets → Pattern → (ℕ → ℕ) → ℕ → List ℕ → ℕ → ℕ → ℕ
settled_by T P last q es c e = elim (ltb (last c) q) [ true ↦ pass_by T P es c e | false ↦ 0 ]

-- the row: what the complete parts that hang from each node offer
unfoldable pub settled_row : Sets → Pattern → (ℕ → ℕ) → ℕ → List ℕ → List ℕ
settled_row T P last q es = gather (pattern_parent P) (settled_by T P last q es) (length P - 1) (replicate 16 0)

-- what is folded in when node q is placed: what the parts that end with it offer
unfoldable pub folded_by : Sets → Pattern → (ℕ → ℕ) → ℕ → List ℕ → ℕ → ℕ → ℕ
folded_by T P last q es c e = elim (eqb (last c) q) [ true ↦ pass_by T P es c e | false ↦ 0 ]

unfoldable pub folded_row : Sets → Pattern → (ℕ → ℕ) → ℕ → List ℕ → List ℕ → List ℕ
folded_row T P last q es row = gather (pattern_parent P) (folded_by T P last q es) (length P - 1) row

-- the blocks t and m have the last nodes of parts, and the row is settled
pub record Settled (t : Member) (m : Masks) (P : Pattern) (q : ℕ) (es row : List ℕ) : Type 0 where
  pub lasts : Lasts (length P) (pattern_parent P) (last_in m)
  pub same : row ≡ settled_row (sets_in t) P (last_in m) q es
