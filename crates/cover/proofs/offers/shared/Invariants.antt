use lib.ListN.{length}
use Rattle.cover.proofs.CoverLaws.{SharedTo}
use Rattle.cover.proofs.offers.shared.Given as goal

abbrev pub invariant-loop-x : goal.invariant-loop-x
invariant-loop-x l = SharedTo l.a l.b l.n (length l.yielded)
