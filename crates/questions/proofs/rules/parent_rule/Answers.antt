-- `questions::rules::parent_rule` meets its contract: the definition has the same two cases. Assumes nothing.
use mathlib.Core.Path.{sym}
use Rattle.questions.proofs.TestLaws.{parent-of-root, parent-of-other}
use Rattle.questions.proofs.rules.parent_rule.Goals as goal

pub returns-then-i-eq0 : goal.returns-then-i-eq0
returns-then-i-eq0 c = sym (parent-of-root _ _ c.if-i-eq0.true)

pub returns-else-i-eq0 : goal.returns-else-i-eq0
returns-else-i-eq0 c = sym (parent-of-other _ _ c.if-i-eq0.false)
