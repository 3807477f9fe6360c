-- What is told of the call's answer is what the program writes. Assumes nothing.
use borrow.Author.Rules.{rules}
use Rattle.filing.proofs.FiledLaws.{upgrade-filed}
use Rattle.filing.proofs.upgrade_told.Goals as goal

pub returns : goal.returns
returns c = upgrade-filed _ (search rules) c.upgrade_call.result c.upgrade_call.ensures c.tell.ensures
