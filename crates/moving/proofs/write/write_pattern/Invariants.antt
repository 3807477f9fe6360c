use Prim.Native.Nat.{◌+◌, ◌-◌}
use Rattle.moving.proofs.RowLaws.{rewritten_row, Rows}
use Rattle.moving.proofs.write.write_pattern.Given as goal

abbrev pub invariant-loop-i : goal.invariant-loop-i
invariant-loop-i g l = Rows (rewritten_row g.row.FROM g.row.TO l.b l.at) l.n (l.to + 1) l.initial.out l.out l.i
