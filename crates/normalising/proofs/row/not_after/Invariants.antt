use Rattle.normalising.proofs.KeyLaws.{Comparing}
use Rattle.normalising.proofs.row.not_after.Given as goal

abbrev pub invariant-loop-i : goal.invariant-loop-i
invariant-loop-i l = Comparing l.a l.b l.i
