use Rattle.questions.proofs.PositionLaws.{SeenBefore}
use Rattle.questions.proofs.positions.Held.by.Given as goal

abbrev pub invariant-loop-q : goal.invariant-loop-q
invariant-loop-q l = SeenBefore l.pattern l.q l.seen
