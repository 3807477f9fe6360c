use lib.ListN.{length}
use Rattle.alternatives.specs.Alternatives.{node_of}
use Rattle.alternatives.proofs.JoinLaws.{Growing, Raised, Nothing}
use Rattle.alternatives.proofs.judges.Judges.add_raised.Given as goal

abbrev pub invariant-loop-a : goal.invariant-loop-a
invariant-loop-a l =
    Growing (length l.self.members.now) (Raised (length l.self.members.now) (node_of l.self.members.now l.x.0 l.k)) Nothing l.sets l.initial.list l.list l.a-index
