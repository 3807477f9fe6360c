-- `questions::case::set_in_range` meets its contract: the count that is tested is the set's. Assumes nothing.
use Rattle.std.proofs.Common.{arith}
use Rattle.std.proofs.lemmas.Grind.{common_steps}
use Rattle.model.specs.Questions.{set_in_range}
use Rattle.questions.proofs.case.set_in_range.Goals as goal

pub returns : goal.returns
unfolding set_in_range
returns c = grind (arith, common_steps)
