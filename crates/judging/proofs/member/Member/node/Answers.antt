-- `judging::member::Member::node` meets its contract: what is offered with the filled-up children's part. Assumes nothing.
use Rattle.judging.specs.Judging.{node_by}
use Rattle.judging.proofs.member.Member.node.Goals as goal

pub returns : goal.returns
unfolding node_by
returns c = rw (c.offered.ensures, c.closed.ensures)
