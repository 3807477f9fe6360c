use lib.ListN.{length}
use Rattle.alternatives.specs.Alternatives.{Met}
use Rattle.alternatives.proofs.JoinLaws.{Growing, WithList}
use Rattle.alternatives.proofs.judges.Judges.join.Given as goal

abbrev pub invariant-loop-a : goal.invariant-loop-a
invariant-loop-a l =
    Growing (length l.self.members.now) (WithList (length l.self.members.now) l.fn.list) (Met l.self.members.now l.top) l.others l.initial.list l.list l.a-index
