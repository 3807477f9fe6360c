-- What a table of alternatives keeps: each cell stands for sets that are in use.
use Rattle.std.specs.Prelude.{ℕ, ◌+◌, ◌≤◌, List, get_or}
use Rattle.alternatives.specs.declared.table.Cell.{Cell}

-- a cell of which nothing is known
abbrev pub no_cell : Cell
no_cell = record { start = 0; many = 0 }

-- the sets that a cell stands for are among those in use, and there is room for these
pub record Filled (cells : List Cell) (used : ℕ) : Type 0 where
  pub top : used ≤ 2048
  pub within : (i : ℕ) → (get_or cells i no_cell).start + (get_or cells i no_cell).many ≤ used
