use Rattle.alternatives.specs.Judged.{RightFor}
use Rattle.alternatives.proofs.table.Table.fill_row.Given as goal

abbrev pub invariant-loop-x : goal.invariant-loop-x
invariant-loop-x l = RightFor l.by l.self
