-- `striking::shorten::may_go` meets its contract: the definition joins the same tests. Assumes nothing.
use Rattle.std.proofs.Common.{arith}
use Rattle.std.proofs.lemmas.Grind.{common_steps}
use Rattle.model.specs.Striking.{may_go}
use Rattle.striking.proofs.shorten.may_go.Goals as goal

pub returns-then-position-eq0 : goal.returns-then-position-eq0
unfolding may_go
returns-then-position-eq0 c = grind (arith, common_steps)

pub returns-else-position-eq0 : goal.returns-else-position-eq0
unfolding may_go
returns-else-position-eq0 c = grind (arith, common_steps)
