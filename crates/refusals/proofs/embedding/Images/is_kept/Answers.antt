-- `refusals::embedding::Images::is_kept` meets its contract: the three tests are the definition's, and a label is read once the image is known to
-- be inside. Assumes nothing.
use Rattle.std.proofs.Common.{arith}
use Rattle.std.proofs.lemmas.Grind.{common_steps}
use Rattle.refusals.specs.Images.{image_kept}
use Rattle.refusals.proofs.embedding.Images.is_kept.Goals as goal

pub returns-then-label_fits : goal.returns-then-label_fits
unfolding image_kept
returns-then-label_fits c = grind (arith, common_steps)

pub returns-else-label_fits : goal.returns-else-label_fits
unfolding image_kept
returns-else-label_fits c = grind (arith, common_steps)
