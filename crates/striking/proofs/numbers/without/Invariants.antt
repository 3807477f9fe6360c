use lib.ListN.{get_or, replicate}
use Rattle.model.specs.Striking.{raised}
use Rattle.format.proofs.FrontLoops.{FilledUpTo}
use Rattle.striking.proofs.numbers.without.Given as goal

abbrev pub invariant-loop-i : goal.invariant-loop-i
invariant-loop-i l = FilledUpTo (λ j. get_or l.items (raised l.q j) 0) 15 (replicate 16 0) l.left l.i
