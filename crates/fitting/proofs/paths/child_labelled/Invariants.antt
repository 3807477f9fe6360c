use Rattle.fitting.proofs.PathLaws.{Missed}
use Rattle.fitting.proofs.paths.child_labelled.Given as goal

abbrev pub invariant-loop-t : goal.invariant-loop-t
invariant-loop-t l = Missed l.summary l.s.0 l.l l.t
