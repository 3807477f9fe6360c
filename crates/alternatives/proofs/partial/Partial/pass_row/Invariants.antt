use lib.ListN.{length}
use Rattle.alternatives.specs.Alternatives.{pass_of}
use Rattle.alternatives.proofs.JoinLaws.{RowTo}
use Rattle.alternatives.proofs.partial.Partial.pass_row.Given as goal

abbrev pub invariant-loop-i : goal.invariant-loop-i
invariant-loop-i l = RowTo (length l.self.by.now.members.now) (pass_of l.self.by.now.members.now l.self.by.now.pattern.now l.self.images.now l.c.0) l.a l.r l.i
