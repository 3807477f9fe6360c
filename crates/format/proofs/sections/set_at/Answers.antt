-- `format::sections::set_at` meets its contract: a whole case has both counts. Assumes nothing.
use native.Mathlib.Omega.{arith}
use mathlib.Core.Path.{ap, ◌∙◌}
use Rattle.model.specs.Limits.{pattern_width}
use Rattle.model.specs.Bytes.{section_end}
use Rattle.model.proofs.Bytes.{whole-case}
use Rattle.format.proofs.sections.set_at.Goals as goal

pub first_at-requires : goal.first_at-requires
first_at-requires c = let w = (whole-case _).0 c.requires in omega arith

pub pattern_end-requires : goal.pattern_end-requires
pattern_end-requires c = let w = (whole-case _).0 c.requires in omega arith

pub returns : goal.returns
returns c = c.pattern_end.ensures ∙ ap (section_end pattern_width _) c.first_at.ensures
