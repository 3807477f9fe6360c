use Rattle.judging.specs.Blocks.{sets_in}
use Rattle.judging.proofs.HangLoop.{HangInv}
use Rattle.judging.proofs.member.Member.hang.Given as goal

abbrev pub invariant-loop-x : goal.invariant-loop-x
invariant-loop-x l = HangInv (sets_in l.self) l.a.0 l.initial.h l.initial.x.0 l.h l.x.0

abbrev pub decreases-loop-x : goal.decreases-loop-x
decreases-loop-x l = l.x.0
