use Rattle.canonical.proofs.ChainLaws.{Climbing}
use Rattle.canonical.proofs.chains.climb.Given as goal

abbrev pub invariant-loop-x : goal.invariant-loop-x
invariant-loop-x l = Climbing l.summary l.a.0 l.initial.x.0 l.x.0 l.nodes

abbrev pub decreases-loop-x : goal.decreases-loop-x
decreases-loop-x l = l.x.0
