-- `judging::member::Member::full` meets its contract: the two entries are the definition's. Assumes nothing.
use Rattle.judging.specs.Judging.{full_by}
use Rattle.judging.proofs.member.Member.full.Goals as goal

pub returns : goal.returns
unfolding full_by
returns c = rw (c.high.ensures, c.low.ensures)
