-- `format::write::put_field` meets its contract: the two stores are those of the field's bytes. Assumes nothing.
use native.Mathlib.Numerals.{add-one}
use Rattle.model.specs.Bytes.{field_bytes}
use Rattle.format.proofs.write.put_field.Goals as goal

pub returns : goal.returns
unfolding field_bytes
returns c = rw (c.to_le_bytes.ensures, add-one)
