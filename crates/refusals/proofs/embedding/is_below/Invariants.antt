use Rattle.refusals.proofs.EmbeddingLaws.{Climbed}
use Rattle.refusals.proofs.embedding.is_below.Given as goal

abbrev pub invariant-loop-x : goal.invariant-loop-x
invariant-loop-x l = Climbed l.s l.a.0 l.initial.x.0 l.x.0

abbrev pub decreases-loop-x : goal.decreases-loop-x
decreases-loop-x l = l.x.0
