-- `questions::summary::summary_record_kept` meets its contract: the three rules are the definition's. Assumes nothing.
use Rattle.std.proofs.Common.{arith}
use Rattle.std.proofs.lemmas.Grind.{common_steps}
use Rattle.questions.proofs.SummaryLaws.{by_rules}
use Rattle.questions.proofs.summary.summary_record_kept.Goals as goal

pub returns-then-label-ne0 : goal.returns-then-label-ne0
returns-then-label-ne0 c = rw (← by_rules c.args.s.now c.args.i.0) (grind (arith, common_steps))

pub returns-else-label-ne0 : goal.returns-else-label-ne0
returns-else-label-ne0 c = rw (← by_rules c.args.s.now c.args.i.0) (grind (arith, common_steps))
