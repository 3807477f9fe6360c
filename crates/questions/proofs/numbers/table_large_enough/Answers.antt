-- `questions::numbers::table_large_enough` meets its contract: the comparison is the definition's. Assumes nothing.
use mathlib.Core.Path.{refl}
use Rattle.model.specs.Questions.{table_large_enough}
use Rattle.questions.proofs.numbers.table_large_enough.Goals as goal

pub returns : goal.returns
unfolding table_large_enough
returns c = refl
