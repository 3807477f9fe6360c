-- What is told of the call's answer is what the program writes. Assumes nothing.
use borrow.Author.Rules.{rules}
use Rattle.filing.proofs.FiledLaws.{downgrade-filed}
use Rattle.filing.proofs.downgrade_told.Goals as goal

pub returns : goal.returns
returns c = downgrade-filed _ (search rules) c.downgrade_call.result c.downgrade_call.ensures c.tell.ensures
