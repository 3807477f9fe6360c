use Rattle.alternatives.proofs.FillLaws.{InAll}
use Rattle.alternatives.proofs.table.common_all.Given as goal

abbrev pub invariant-loop-a : goal.invariant-loop-a
invariant-loop-a l = InAll l.r l.sets l.a-index
