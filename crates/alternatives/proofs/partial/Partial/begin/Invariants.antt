use lib.ListN.{length}
use Rattle.alternatives.proofs.OpenLaws.{BegunTo}
use Rattle.alternatives.proofs.partial.Partial.begin.Given as goal

abbrev pub invariant-loop-j : goal.invariant-loop-j
invariant-loop-j l = BegunTo (length l.self.by.now.members.now) l.rows l.lists l.j
