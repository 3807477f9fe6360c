-- `refusals::numbered::position_given` meets its contract: the number gives a pattern, whose k bounds the position. Assumes nothing.
use Rattle.std.proofs.Common.{arith}
use Rattle.std.proofs.lemmas.Grind.{common_steps}
use Rattle.model.specs.Questions.{position_given}
use Rattle.refusals.proofs.numbered.position_given.Goals as goal

pub returns-then-pattern_given : goal.returns-then-pattern_given
unfolding position_given
returns-then-pattern_given c = grind (arith, common_steps)

pub returns-else-pattern_given : goal.returns-else-pattern_given
unfolding position_given
returns-else-pattern_given c = grind (arith, common_steps)
