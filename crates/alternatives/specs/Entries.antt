-- What a table of alternatives has of one cell.
use Rattle.std.specs.Prelude.{ℕ, ◌<◌, ◌≡◌, Bool, List, length, get_or, take, drop}
use Rattle.cover.specs.Cover.{Covers}
use Rattle.judging.specs.Blocks.{cell}
use Rattle.alternatives.specs.declared.table.Table.{Table}
use Rattle.alternatives.specs.Filled.{no_cell}

-- where the sets of node c and x begin, and how many there are
abbrev pub start_in : Table → ℕ → ℕ → ℕ
start_in t c x = (get_or t.cells (cell c x) no_cell).start

abbrev pub many_in : Table → ℕ → ℕ → ℕ
many_in t c x = (get_or t.cells (cell c x) no_cell).many

-- the sets themselves, none where nothing is known
unfoldable pub entry_in : Table → ℕ → ℕ → List (List ℕ)
entry_in t c x = take (many_in t c x) (drop (start_in t c x) t.sets)

-- a cell's sets, where something is known, cover f
pub record Entry (n : ℕ) (t : Table) (c x : ℕ) (f : ℕ → ℕ → Bool) : Type 0 where
  pub covers : 0 < length (entry_in t c x) → Covers n (entry_in t c x) f

-- these sets are what the cell of node c and x has, and the other cells have what they had
pub record Stored (c x : ℕ) (sets : List (List ℕ)) (before after : Table) : Type 0 where
  pub here : entry_in after c x ≡ sets
  pub others : (d y : ℕ) → (cell d y ≡ cell c x → ⊥) → entry_in after d y ≡ entry_in before d y

-- nothing is known of any cell
pub record IsBare (t : Table) : Type 0 where
  pub bare : (c x : ℕ) → length (entry_in t c x) ≡ 0
