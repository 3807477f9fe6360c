-- `format::summary::Summary::count` meets its contract: the field read is the count. Assumes nothing.
use mathlib.Core.Path.{◌∙◌}
use Rattle.model.specs.Limits.{summary_width}
use Rattle.model.specs.Bytes.{summary_record_at}
use Rattle.format.proofs.SectionLaws.{viewed-count, summary-section}
use Rattle.format.proofs.summary.Summary.count.Goals as goal

pub returns : goal.returns
returns c = (c.field.ensures.0 ∙ viewed-count summary_record_at summary_width _ _ (summary-section _ c.self.view_is), c.field.ensures.1)
