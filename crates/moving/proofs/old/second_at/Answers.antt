-- `moving::old::second_at` meets its contract: a whole old case has both counts. Assumes nothing.
use mathlib.Core.Path.{ap, ◌∙◌}
use Rattle.model.specs.Bytes.{section_end}
use Rattle.model.specs.OldForm.{old_width}
use Rattle.moving.proofs.OldLaws.{old_sections}
use Rattle.moving.proofs.old.second_at.Goals as goal

pub returns : goal.returns
returns c = c.section_end.ensures ∙ ap (section_end old_width _) c.first_at.ensures

pub first_at-requires : goal.first_at-requires
first_at-requires c = search old_sections

pub section_end-requires : goal.section_end-requires
section_end-requires c = search old_sections
