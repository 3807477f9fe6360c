use Prim.Native.Nat.{◌<◌}
use lib.ListN.{length}
use Rattle.cover.proofs.lists.Offers.nearest.Given as goal

abbrev pub invariant-loop-k : goal.invariant-loop-k
invariant-loop-k l = l.best < length l.self
