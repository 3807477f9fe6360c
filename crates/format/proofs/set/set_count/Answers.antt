-- `format::set::set_count` meets its contract: the field read is the count. Assumes nothing.
use mathlib.Core.Path.{sym, ◌∙◌}
use Rattle.format.proofs.SectionLaws.{set-count}
use Rattle.format.proofs.set.set_count.Goals as goal

pub returns : goal.returns
returns c = (c.field.ensures.0 ∙ sym (set-count _ _), c.field.ensures.1)
