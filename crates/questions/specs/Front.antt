-- Where the sections after the first pattern begin, found before any of them is known to be whole.
use Rattle.std.specs.Prelude.{ℕ, ◌/◌, ◌%◌, Bool, true, false, ◌&&◌, List, Option, Some, None, leb, ltb, eqb, length}
use Rattle.model.specs.Limits.{max_case_bytes}
use Rattle.model.specs.Bytes.{section_end, first_at}

-- the field after a first pattern whose records have that width, the summary before it
abbrev pub after_first : ℕ → List ℕ → ℕ
after_first width b = section_end width b (first_at b)

-- there are at most 65,536 bytes, no half field, and that field is whole
abbrev pub front_whole : ℕ → List ℕ → Bool
front_whole width b = leb (length b) max_case_bytes && eqb (length b % 2) 0 && ltb (after_first width b) (length b / 2)

-- that field, where this is so
unfoldable pub front_end : ℕ → List ℕ → Option ℕ
front_end width b = elim (front_whole width b) [ true ↦ Some (after_first width b) | false ↦ None ]
