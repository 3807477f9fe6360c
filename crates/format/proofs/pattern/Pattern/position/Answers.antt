-- `format::pattern::Pattern::position` meets its contract: the field read is the record's fourth. Assumes nothing.
use mathlib.Core.Path.{refl, ◌∙◌}
use native.Mathlib.Omega.{arith}
use Rattle.model.specs.Limits.{pattern_width}
use Rattle.model.specs.Pattern.{PatternRecord, no_pattern_record}
use Rattle.model.specs.Bytes.{pattern_record_at}
use Rattle.format.proofs.SectionLaws.{viewed-below, viewed-field}
use Rattle.format.proofs.pattern.Pattern.position.Goals as goal

pub record_field-requires : goal.record_field-requires
record_field-requires c =
    record { whole_section = c.self.invariant; i_bound = (viewed-below pattern_record_at pattern_width _ _ c.self.view_is _ c.requires, omega arith, omega arith) }

pub returns : goal.returns
returns c = (c.record_field.ensures.0 ∙ viewed-field pattern_record_at pattern_width _ _ c.self.view_is no_pattern_record (λ (r : PatternRecord). r.position) _ 3 (λ a. refl) c.requires, c.record_field.ensures.1)
