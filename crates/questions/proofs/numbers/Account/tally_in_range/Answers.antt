-- `questions::numbers::Account::tally_in_range` meets its contract: where what may be tried is at most the largest tally, the sum is at most that
-- exactly when the tally is at most the difference; where it is more, so is the sum. Assumes nothing.
use borrow.Author.Tests.{lt-leb}
use Rattle.model.specs.Questions.{tally_in_range}
use Rattle.questions.proofs.TestLaws.{sum-at-most, sum_more}
use Rattle.questions.proofs.numbers.Account.tally_in_range.Goals as goal

pub returns-then-most-le-MAX_TALLY : goal.returns-then-most-le-MAX_TALLY
unfolding tally_in_range
returns-then-most-le-MAX_TALLY c = sum-at-most _ _ _ c.if-most-le-MAX_TALLY.true

pub returns-else-most-le-MAX_TALLY : goal.returns-else-most-le-MAX_TALLY
unfolding tally_in_range
returns-else-most-le-MAX_TALLY c = simp (lt-leb _ _ c.if-most-le-MAX_TALLY.false, sum_more c.args.self.tally _ _ c.if-most-le-MAX_TALLY.false)
