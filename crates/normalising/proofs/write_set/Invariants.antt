use lib.ListN.{length}
use Rattle.normalising.proofs.CaseLaws.{Members}
use Rattle.normalising.proofs.write_set.Given as goal

abbrev pub invariant-loop-member : goal.invariant-loop-member
invariant-loop-member l = Members l.set l.at l.initial.out l.out l.to (length l.yielded)
