use Rattle.striking.proofs.StrikeLaws.{Striking}
use Rattle.striking.proofs.strike.strike.Given as goal

abbrev pub invariant-loop : goal.invariant-loop
invariant-loop l = Striking l.rows l.limit l.initial.present l.present l.names l.struck l.tried l.counter
