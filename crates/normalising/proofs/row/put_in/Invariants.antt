use Rattle.normalising.proofs.PlaceLaws.{Putting}
use Rattle.normalising.proofs.row.put_in.Given as goal

abbrev pub invariant-loop-i : goal.invariant-loop-i
invariant-loop-i l = Putting l.row l.initial.entries l.at l.len l.i l.entries
