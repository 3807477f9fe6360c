use Rattle.fitting.proofs.PathLaws.{Filling}
use Rattle.fitting.proofs.paths.paths.Given as goal

abbrev pub invariant-loop-v : goal.invariant-loop-v
invariant-loop-v l = Filling l.summary l.w l.path l.v
