use Prim.Native.Nat.{◌-◌}
use Rattle.format.proofs.WriteLaws.{WritingCounted}
use Rattle.format.proofs.write.write_counted.Given as goal

abbrev pub invariant-loop-i : goal.invariant-loop-i
invariant-loop-i l = WritingCounted l.nodes l.k l.initial.part l.part l.i

abbrev pub decreases-loop-i : goal.decreases-loop-i
decreases-loop-i l = l.k - l.i
