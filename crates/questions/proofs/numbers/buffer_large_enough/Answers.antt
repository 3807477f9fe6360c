-- `questions::numbers::buffer_large_enough` meets its contract: the comparison is the definition's. Assumes nothing.
use mathlib.Core.Path.{refl}
use Rattle.model.specs.Questions.{buffer_large_enough}
use Rattle.questions.proofs.numbers.buffer_large_enough.Goals as goal

pub returns : goal.returns
unfolding buffer_large_enough
returns c = refl
