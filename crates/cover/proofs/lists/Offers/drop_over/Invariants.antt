use Prim.Native.Nat.{◌-◌}
use lib.ListN.{length}
use Rattle.cover.proofs.CoverLaws.{Dropping}
use Rattle.cover.proofs.lists.Offers.drop_over.Given as goal

abbrev pub invariant-loop-k : goal.invariant-loop-k
invariant-loop-k l = Dropping l.a l.initial.self l.self

abbrev pub decreases-loop-k : goal.decreases-loop-k
decreases-loop-k l = length l.self - l.k
