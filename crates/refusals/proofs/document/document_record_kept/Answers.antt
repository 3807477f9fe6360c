-- `refusals::document::document_record_kept` meets its contract: the two rules are the definition's. Assumes nothing.
use Rattle.std.proofs.Common.{arith}
use Rattle.std.proofs.lemmas.Grind.{common_steps}
use Rattle.model.specs.Questions.{document_record_kept}
use Rattle.refusals.proofs.document.document_record_kept.Goals as goal

pub returns-then-parent_rule : goal.returns-then-parent_rule
unfolding document_record_kept
returns-then-parent_rule c = grind (arith, common_steps)

pub returns-else-parent_rule : goal.returns-else-parent_rule
unfolding document_record_kept
returns-else-parent_rule c = grind (arith, common_steps)
