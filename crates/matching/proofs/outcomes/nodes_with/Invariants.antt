use Rattle.matching.specs.Outcomes.{in_mask}
use Rattle.matching.proofs.ReadLoops.{Listing}
use Rattle.matching.proofs.outcomes.nodes_with.Given as goal

abbrev pub invariant-loop-v : goal.invariant-loop-v
invariant-loop-v l = Listing (in_mask l.table l.q.0) l.n l.initial.out l.out l.count l.v
