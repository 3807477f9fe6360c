use Rattle.model.specs.Striking.{without}
use Rattle.format.specs.Given.{pattern_at}
use Rattle.striking.proofs.WriteWithout.{Writing}
use Rattle.striking.proofs.shorten.shortened.Given as goal

abbrev pub invariant-loop-i : goal.invariant-loop-i
invariant-loop-i l = Writing (without (pattern_at l.p 0) l.q) 0 l.initial.next l.next l.i
