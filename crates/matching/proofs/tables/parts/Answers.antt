-- `matching::tables::parts` meets its contract: before turn v the nodes from v on are settled. Assumes nothing.
use Prim.Native.Nat.{◌-◌}
use native.Mathlib.Omega.{arith}
use Rattle.matching.proofs.PartLoop.{settling-start, settling-step, settling-end}
use Rattle.matching.proofs.tables.parts.Goals as goal

pub loop-v-init : goal.loop-v-init
loop-v-init g c = λ Q K. settling-start _ _ _ _ c.requires.t_in_bounds.1 c.count-n.ensures.0

pub loop-v-preserved : goal.loop-v-preserved
loop-v-preserved g c = λ Q K. settling-step (c.loop-v.v - 1) K c.requires.tree_lent c.requires.t_in_bounds.0 (c.loop-v.invariant Q K) (omega arith) c.settle.ensures

pub returns : goal.returns
returns g c = λ Q K. settling-end (c.loop-v.invariant Q K) (omega arith) c.requires.t_in_bounds.0
