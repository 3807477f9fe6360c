-- `questions::numbers::Account::caller_in_range` meets its contract: the comparison is the definition's. Assumes nothing.
use mathlib.Core.Path.{refl}
use Rattle.model.specs.Questions.{caller_in_range}
use Rattle.questions.proofs.numbers.Account.caller_in_range.Goals as goal

pub returns : goal.returns
unfolding caller_in_range
returns c = refl
