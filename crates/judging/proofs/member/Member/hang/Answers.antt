-- `judging::member::Member::hang` meets its contract: the loop climbs from the chain's last node up, as the definition does. The measure
-- is the node's number, since a parent's is smaller. Assumes nothing.
use Rattle.judging.proofs.HangLoop.{hang-step, hang-end}
use Rattle.judging.proofs.member.Member.hang.Goals as goal

pub loop-x-preserved : goal.loop-x-preserved
loop-x-preserved c =
    hang-step c.requires.0 c.loop-x.invariant c.loop-x-test.true c.node-h-in-loop-x.ensures c.up-x-in-loop-x.ensures

pub returns : goal.returns
returns c =
    hang-end c.requires.0 c.args.n c.args.g c.loop-x.invariant c.loop-x-test.false c.requires.1 c.node-h.ensures c.up-x.ensures
