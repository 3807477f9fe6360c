-- `refusals::embedding::image_at` meets its contract: the field read is the list's entry. Assumes nothing.
use mathlib.Core.Path.{sym, ◌∙◌}
use Rattle.format.proofs.ListLaws.{list-field}
use Rattle.refusals.proofs.embedding.image_at.Goals as goal

pub field-requires : goal.field-requires
field-requires c = (list-field _ _ c.requires).1

pub returns : goal.returns
returns c = c.field.ensures.0 ∙ sym (list-field _ _ c.requires).0
