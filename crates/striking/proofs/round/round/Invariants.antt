use Rattle.striking.proofs.RoundLaws.{Going}
use Rattle.striking.proofs.round.round.Given as goal

abbrev pub invariant-loop-q : goal.invariant-loop-q
invariant-loop-q l = Going l.rows l.limit l.present l.q l.tried
