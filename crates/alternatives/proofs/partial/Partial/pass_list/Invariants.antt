use lib.ListN.{length}
use Rattle.alternatives.specs.Alternatives.{pass_of}
use Rattle.alternatives.proofs.OpenLaws.{ListTo}
use Rattle.alternatives.proofs.partial.Partial.pass_list.Given as goal

abbrev pub invariant-loop-i : goal.invariant-loop-i
invariant-loop-i l =
    ListTo (length l.self.by.now.members.now) (pass_of l.self.by.now.members.now l.self.by.now.pattern.now l.self.images.now l.c.0) l.sets l.initial.made l.made l.i
