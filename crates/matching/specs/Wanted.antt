-- What the passes over a tree want of a pattern, marks and least figures among it, and what is computed from that. Sets of pattern
-- nodes are masks.
use Rattle.std.specs.Prelude.{ℕ, ◌+◌, ◌-◌, ◌≤◌, ◌<◌, ◌≡◌, Bool, true, false, ◌&&◌, ◌||◌, List, eqb, ltb, length, get_or}
use Rattle.std.specs.Int.Bits.{bit_and}
use Rattle.model.specs.Lists.{mask_below, has}
use Rattle.model.specs.Tree.{Document, figure_of}
use Rattle.model.specs.Pattern.{Pattern, IsPatternTree, pattern_parent, pattern_label, position, pattern_figure, label_fits, figure_fits}
use Rattle.model.specs.Quick.{hangs_from}
use Rattle.model.specs.Bytes.{list_of}
use Rattle.matching.specs.declared.wanted.Wanted.{Wanted}
use Rattle.matching.specs.Matching.{hangs_deep}

-- what is wanted is the pattern's; marks and least figures are any
pub record Wants (Q : Pattern) (w : Wanted) : Type 0 where
  pub tree : IsPatternTree Q
  pub few : length Q ≤ 16
  pub deep : w.deep ≡ mask_below (hangs_deep Q) (length Q)
  pub count : w.count ≡ length Q
  pub labels : (p : ℕ) → p < length Q → get_or w.labels p 0 ≡ pattern_label Q p
  pub kids : (p : ℕ) → p < length Q → get_or w.kids p 0 ≡ mask_below (hangs_from Q p) (length Q)
  pub parents : (p : ℕ) → p < length Q → get_or w.parents p 0 ≡ pattern_parent Q p

-- ---- marks and least figures

-- the mark of a node, 0 for any, lets it stand where `mark` is asked
unfoldable pub mark_fits : ℕ → ℕ → Bool
mark_fits own mark = eqb own 0 || eqb own mark

-- the mark and the least figure of p let it stand where this figure and this mark are asked
unfoldable pub pin_by : Wanted → ℕ → ℕ → ℕ → Bool
pin_by w figure mark p = mark_fits (get_or w.marks p 0) mark && figure_fits (get_or w.least p 0) figure

-- the pins in a tree
unfoldable pub pin_of : Wanted → Document → ℕ → ℕ → Bool
pin_of w W p v = pin_by w (figure_of W v) (v + 1) p

-- no node is marked
abbrev pub Unmarked : Wanted → Type 0
Unmarked w = (p : ℕ) → p < 16 → get_or w.marks p 0 ≡ 0

-- the mark that pins a node with this position to its own number in the list
unfoldable pub mark_at : ℕ → List ℕ → ℕ
mark_at p list = elim (eqb p 0) [ true ↦ 0 | false ↦ get_or list (p - 1) 0 + 1 ]

-- the return nodes are pinned to the list
abbrev pub Marked : Pattern → List ℕ → Wanted → Type 0
Marked Q list w = (p : ℕ) → p < length Q → get_or w.marks p 0 ≡ mark_at (position Q p) list

-- what is wanted is the pattern's, with the return nodes pinned
abbrev pub WantsPinned : Pattern → List ℕ → Wanted → Type 0
WantsPinned Q list w = Wants Q w × Marked Q list w

-- no figure is asked
abbrev pub Unasked : Wanted → Type 0
Unasked w = (p : ℕ) → p < 16 → get_or w.least p 0 ≡ 0

-- the pattern's least figures are
abbrev pub Asked : Pattern → Wanted → Type 0
Asked Q w = (p : ℕ) → p < length Q → get_or w.least p 0 ≡ pattern_figure Q p

-- what is wanted is the pattern's, with its least figures asked and the marks that it had
pub record WantsFigured (Q : Pattern) (before after : Wanted) : Type 0 where
  pub wants : Wants Q after
  pub asked : Asked Q after
  pub marks : (p : ℕ) → p < 16 → get_or after.marks p 0 ≡ get_or before.marks p 0

-- one more than each of the list's numbers is a mark
abbrev pub SmallNumbers : List ℕ → Type 0
SmallNumbers l = (i : ℕ) → i < length (list_of l) → get_or (list_of l) i 0 < 65535

-- ---- the sets that are computed from it

-- p may stand where this label, this figure and this mark are asked: they fit, and all of its children are in acc
unfoldable pub fits_by : Wanted → ℕ → ℕ → ℕ → ℕ → ℕ → Bool
fits_by w label figure mark acc p = label_fits (get_or w.labels p 0) label && pin_by w figure mark p && eqb (bit_and (get_or w.kids p 0) acc) (get_or w.kids p 0)

-- q hangs from a node of the set
unfoldable pub hangs_by : Wanted → ℕ → ℕ → Bool
hangs_by w set q = ltb 0 q && has set (get_or w.parents q 0)
