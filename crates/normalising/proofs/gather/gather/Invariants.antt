use Rattle.normalising.proofs.TreeLaws.{Gathering}
use Rattle.normalising.proofs.gather.gather.Given as goal

abbrev pub invariant-loop-k : goal.invariant-loop-k
invariant-loop-k g l = Gathering (g.T.Tree.table l.tree) l.rows l.k
