-- `judging::member::Member::met` meets its contract: the three masks are the definition's. Assumes nothing.
use Rattle.judging.specs.Judging.{meets_by}
use Rattle.judging.proofs.member.Member.met.Goals as goal

pub returns : goal.returns
unfolding meets_by
returns c = rw (c.full.ensures, c.allowed.ensures, c.fitting.ensures)
