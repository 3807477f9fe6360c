-- The records of a section as node lines.
use Rattle.std.specs.Prelude.{ℕ, ◌+◌, ◌*◌}
use mathlib.Core.List.{List, ◌∷◌, flat_map}
use Rattle.model.specs.Lists.{up_from}
use Rattle.model.specs.Bytes.{field, fields_at}
use Rattle.model.specs.Text.{ascii, line}

-- record i of the section at the front, whose records have that width: its number, then its fields
unfoldable pub record_line : ℕ → List ℕ → ℕ → List ℕ
record_line width b i = line (ascii "node") (i ∷ fields_at b (1 + width * i) width)

unfoldable pub record_lines : ℕ → List ℕ → List ℕ
record_lines width b = flat_map (record_line width b) (up_from 0 (field b 0))
