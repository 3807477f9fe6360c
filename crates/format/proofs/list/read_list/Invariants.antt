use Prim.Native.Nat.{◌-◌, ◌/◌}
use lib.ListN.{length}
use Rattle.model.specs.Bytes.{field}
use Rattle.format.proofs.FrontLoops.{FilledUpTo}
use Rattle.format.proofs.list.read_list.Given as goal

abbrev pub invariant-loop-i : goal.invariant-loop-i
invariant-loop-i l = FilledUpTo (field l.b) (length l.b / 2) l.initial.out l.out l.i

abbrev pub decreases-loop-i : goal.decreases-loop-i
decreases-loop-i l = l.n - l.i
