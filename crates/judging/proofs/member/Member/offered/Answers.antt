-- `judging::member::Member::offered` meets its contract: the two parts are the definition's. Assumes nothing.
use Rattle.judging.specs.Judging.{offers_by}
use Rattle.judging.proofs.member.Member.offered.Goals as goal

pub returns : goal.returns
unfolding offers_by
returns c = rw (c.deep.ensures, c.met.ensures)
