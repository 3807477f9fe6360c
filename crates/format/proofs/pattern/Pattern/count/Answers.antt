-- `format::pattern::Pattern::count` meets its contract: the field read is the count. Assumes nothing.
use mathlib.Core.Path.{◌∙◌}
use Rattle.model.specs.Limits.{pattern_width}
use Rattle.model.specs.Bytes.{pattern_record_at}
use Rattle.format.proofs.SectionLaws.{viewed-count}
use Rattle.format.proofs.pattern.Pattern.count.Goals as goal

pub returns : goal.returns
returns c = (c.field.ensures.0 ∙ viewed-count pattern_record_at pattern_width _ _ c.self.view_is, c.field.ensures.1)
