use Rattle.fitting.proofs.GatherLaws.{Gathering}
use Rattle.fitting.proofs.edges.child_paths.Given as goal

abbrev pub invariant-loop-v : goal.invariant-loop-v
invariant-loop-v l = Gathering l.w l.path l.kids l.v
