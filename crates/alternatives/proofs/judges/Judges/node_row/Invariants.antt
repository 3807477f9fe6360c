use lib.ListN.{length}
use Rattle.alternatives.specs.Alternatives.{node_of}
use Rattle.alternatives.proofs.JoinLaws.{RowTo}
use Rattle.alternatives.proofs.judges.Judges.node_row.Given as goal

abbrev pub invariant-loop-i : goal.invariant-loop-i
invariant-loop-i l = RowTo (length l.self.members.now) (node_of l.self.members.now l.x.0 l.k) l.a l.r l.i
