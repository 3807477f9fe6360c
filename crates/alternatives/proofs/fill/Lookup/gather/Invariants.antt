use Rattle.model.specs.Lists.{members}
use Rattle.judging.specs.Blocks.{child_in}
use Rattle.bits.specs.Members.{members_left}
use Rattle.alternatives.proofs.FillLaws.{Gathered}
use Rattle.alternatives.proofs.fill.Lookup.gather.Given as goal

abbrev pub invariant-loop-y : goal.invariant-loop-y
invariant-loop-y l =
    Gathered l.self.by.now.members.now l.self.by.now.masks.now l.self.by.now.pattern.now l.c.0 (members (child_in l.self.by.now.masks.now l.fn.x.0)) l.list (members_left l.y-iterator)
