-- What is told of the call's answer is what the program writes. Assumes nothing.
use borrow.Author.Rules.{rules}
use Rattle.filing.proofs.FiledLaws.{normalise-filed}
use Rattle.filing.proofs.normalise_told.Goals as goal

pub returns : goal.returns
returns c = normalise-filed _ (search rules) c.normalise_call.result c.normalise_call.ensures c.tell.ensures
