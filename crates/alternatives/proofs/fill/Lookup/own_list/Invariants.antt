use lib.ListN.{length}
use Rattle.alternatives.proofs.FillLaws.{Owning}
use Rattle.alternatives.proofs.fill.Lookup.own_list.Given as goal

abbrev pub invariant-loop-d : goal.invariant-loop-d
invariant-loop-d l = Owning (length l.self.by.now.members.now) l.self.table.now l.self.by.now.pattern.now l.c.0 l.y.0 l.list l.d
