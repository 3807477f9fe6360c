-- `strong::strong_table` meets its contract: after the turns below t each of those nodes with a strong edge is in its parent's mask.
-- Assumes nothing.
use Prim.Native.Nat.{ℕ}
use mathlib.Core.Path.{ap}
use native.Mathlib.Omega.{arith}
use lib.Dec.{eqb}
use Rattle.strong.proofs.StrongLaws.{gathering-start, gathering-next, gathering-end}
use Rattle.strong.proofs.strong_table.Goals as goal

pub loop-t-init : goal.loop-t-init
loop-t-init c = gathering-start c.requires.tree c.requires.few

pub loop-t-preserved : goal.loop-t-preserved
loop-t-preserved c =
    gathering-next c.requires.tree c.requires.few c.loop-t.invariant (omega arith) c.parent-s.ensures (ap (λ (x : ℕ). eqb x 1) c.strong-is.ensures) c.insert_if.ensures

pub returns : goal.returns
returns c =
    gathering-end c.requires.tree c.requires.few c.loop-t.invariant (omega arith)
