use Rattle.strong.proofs.StrongLaws.{Gathering}
use Rattle.strong.proofs.strong_table.Given as goal

abbrev pub invariant-loop-t : goal.invariant-loop-t
invariant-loop-t l = Gathering l.summary l.strong l.t
