-- The fields of a pattern in the other form.
use Rattle.std.specs.Prelude.{ℕ, List, take}
use Rattle.model.specs.Bytes.{section, pattern_fields, section_fields}
use Rattle.model.specs.OldForm.{OldRecord, old_record_at, new_record}

-- a record's in `width` fields: figure 0, or without it
abbrev pub fields_in : ℕ → OldRecord → List ℕ
fields_in width r = take width (pattern_fields (new_record r))

-- of the pattern whose count is field `at`, in records of `from` fields: in records of `to` fields
abbrev pub rewritten : ℕ → ℕ → List ℕ → ℕ → List ℕ
rewritten from to b at = section_fields (fields_in to) (section old_record_at from b at)
