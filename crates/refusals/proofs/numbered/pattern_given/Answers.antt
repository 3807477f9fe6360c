-- `refusals::numbered::pattern_given` meets its contract: the range is the definition's. Assumes nothing.
use Rattle.std.proofs.Common.{arith}
use Rattle.std.proofs.lemmas.Grind.{common_steps}
use Rattle.model.specs.Questions.{pattern_given}
use Rattle.refusals.proofs.numbered.pattern_given.Goals as goal

pub returns : goal.returns
unfolding pattern_given
returns c = grind (arith, common_steps)
