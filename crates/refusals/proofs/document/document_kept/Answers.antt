-- `refusals::document::document_kept` meets its contract: the bytes, and the records. Assumes nothing.
use Rattle.std.proofs.Common.{rules, arith}
use Rattle.std.proofs.lemmas.Grind.{common_steps}
use Rattle.format.proofs.GivenLaws.{whole-document}
use Rattle.refusals.proofs.DocumentLaws.{by_parts}
use Rattle.refusals.proofs.document.document_kept.Goals as goal

pub new-requires : goal.new-requires
new-requires c = whole-document _ (search rules)

pub returns-then-document_whole : goal.returns-then-document_whole
returns-then-document_whole c = rw (← by_parts c.args.w.now) (grind (arith, common_steps))

pub returns-else-document_whole : goal.returns-else-document_whole
returns-else-document_whole c = rw (← by_parts c.args.w.now) (grind (arith, common_steps))
