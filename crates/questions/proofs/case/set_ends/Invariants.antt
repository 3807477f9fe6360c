use Rattle.questions.proofs.MemberLaws.{Walked}
use Rattle.questions.proofs.case.set_ends.Given as goal

abbrev pub invariant-loop : goal.invariant-loop
invariant-loop l = Walked l.b l.on l.n l.at l.counter
