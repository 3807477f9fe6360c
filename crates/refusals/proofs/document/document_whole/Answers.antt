-- `refusals::document::document_whole` meets its contract: the length is compared with the definition's end. Assumes nothing.
use Rattle.std.proofs.Common.{arith}
use Rattle.std.proofs.lemmas.Grind.{common_steps}
use Rattle.model.specs.Bytes.{is_whole_document}
use Rattle.refusals.proofs.DocumentLaws.{no-count}
use Rattle.refusals.proofs.document.document_whole.Goals as goal

pub returns-then-w-gt1 : goal.returns-then-w-gt1
unfolding is_whole_document
returns-then-w-gt1 c = rw (← c.field.ensures.0)

pub returns-else-w-gt1 : goal.returns-else-w-gt1
returns-else-w-gt1 c = let e = no-count c.args.w.now c.if-w-gt1.false in grind (arith, common_steps)
