-- `canonical::chains::climb` meets its contract. The loop's invariant: the nodes of the chain below x are in the mask. The measure is
-- x, since a parent has a smaller number. Assumes nothing.
use native.Mathlib.Omega.{arith}
use Rattle.canonical.proofs.ChainLaws.{climbing-start, climbing-inside, climbing-next, climbing-end}
use Rattle.canonical.proofs.chains.climb.Goals as goal

pub loop-x-init : goal.loop-x-init
loop-x-init c = climbing-start c.requires.1

pub insert-nodes-requires : goal.insert-nodes-requires
insert-nodes-requires c = omega (arith, climbing-inside c.loop-x.invariant c.loop-x-test.true, c.requires.0.few)

pub loop-x-preserved : goal.loop-x-preserved
loop-x-preserved c =
    let given = c.requires.0 in
    climbing-next c.loop-x.invariant c.loop-x-test.true given.tree c.parent-x.ensures given.few c.insert-nodes.ensures

pub returns : goal.returns
returns c = climbing-end c.loop-x.invariant c.loop-x-test.false
