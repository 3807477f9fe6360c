use Prim.Native.Nat.{◌≤◌}
use lib.ListN.{length}
use Rattle.normalising.specs.Trees.{Loaded}
use Rattle.normalising.proofs.gather.load.Given as goal

abbrev pub invariant-loop-i : goal.invariant-loop-i
invariant-loop-i g l = (1 ≤ l.i) × (l.i ≤ length (g.T.Tree.table l.tree)) × Loaded (g.T.Tree.table l.tree) l.rows l.i
