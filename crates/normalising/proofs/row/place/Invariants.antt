use Rattle.normalising.proofs.PlaceLaws.{Placing}
use Rattle.normalising.proofs.row.place.Given as goal

abbrev pub invariant-loop-m : goal.invariant-loop-m
invariant-loop-m l = Placing l.row l.into l.m
