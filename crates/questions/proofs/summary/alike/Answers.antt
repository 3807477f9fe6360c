-- `questions::summary::alike` meets its contract: the three comparisons are the definition's. Assumes nothing.
use Rattle.std.proofs.Common.{arith}
use Rattle.std.proofs.lemmas.Grind.{common_steps}
use Rattle.model.specs.Questions.{alike}
use Rattle.questions.proofs.summary.alike.Goals as goal

pub returns-then-parent : goal.returns-then-parent
unfolding alike
returns-then-parent c = grind (arith, common_steps)

pub returns-else-parent : goal.returns-else-parent
unfolding alike
returns-else-parent c = grind (arith, common_steps)
