-- `format::records::record_field` meets its contract: a record of a whole section ends inside. Assumes nothing.
use native.Mathlib.Omega.{arith}
use Rattle.format.proofs.SectionLaws.{record-ends}
use Rattle.format.proofs.records.record_field.Goals as goal

pub overflow_add-at : goal.overflow_add-at
overflow_add-at c = let e = record-ends _ _ _ _ _ c.requires.whole_section c.requires.i_bound.0 c.requires.i_bound.1 in omega arith

pub overflow_mul-width : goal.overflow_mul-width
overflow_mul-width c = let e = record-ends _ _ _ _ _ c.requires.whole_section c.requires.i_bound.0 c.requires.i_bound.1 in omega arith

pub overflow_add-at-2 : goal.overflow_add-at-2
overflow_add-at-2 c = let e = record-ends _ _ _ _ _ c.requires.whole_section c.requires.i_bound.0 c.requires.i_bound.1 in omega arith

pub overflow_add-at-3 : goal.overflow_add-at-3
overflow_add-at-3 c = let e = record-ends _ _ _ _ _ c.requires.whole_section c.requires.i_bound.0 c.requires.i_bound.1 in omega arith

pub field-requires : goal.field-requires
field-requires c = (record-ends _ _ _ _ _ c.requires.whole_section c.requires.i_bound.0 c.requires.i_bound.1).1

pub returns : goal.returns
returns c = c.field.ensures
