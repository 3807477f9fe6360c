use lib.ListN.{length}
use Rattle.alternatives.specs.Alternatives.{Met}
use Rattle.alternatives.proofs.JoinLaws.{Growing, With}
use Rattle.alternatives.proofs.judges.Judges.join_one.Given as goal

abbrev pub invariant-loop-b : goal.invariant-loop-b
invariant-loop-b l =
    Growing (length l.self.members.now) (With (length l.self.members.now) l.a) (Met l.self.members.now l.top) l.sets l.initial.list l.list l.b-index
