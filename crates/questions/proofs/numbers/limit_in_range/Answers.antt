-- `questions::numbers::limit_in_range` meets its contract: the range is the definition's. Assumes nothing.
use borrow.Author.Rules.{rules}
use Rattle.model.specs.Questions.{limit_in_range}
use Rattle.questions.proofs.numbers.limit_in_range.Goals as goal

pub returns : goal.returns
unfolding limit_in_range
returns c = search rules
