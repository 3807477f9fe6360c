use Rattle.alternatives.specs.Judged.{RightFor}
use Rattle.alternatives.proofs.table.Table.fill.Given as goal

abbrev pub invariant-loop-c : goal.invariant-loop-c
invariant-loop-c l = RightFor l.by l.self
