-- `matching::tables::stands` meets its contract: before turn v the nodes before v hold what stands there and what they leave to their
-- children. Assumes nothing.
use native.Mathlib.Omega.{arith}
use Rattle.matching.proofs.StandLoop.{descending-step, descending-end}
use Rattle.matching.proofs.tables.stands.Goals as goal

pub loop-v-preserved : goal.loop-v-preserved
loop-v-preserved g c =
    λ Q K. descending-step c.left_at.result c.args.table.now K c.requires.tree_lent.0 c.requires.t_in_bounds.0 c.requires.t_in_bounds.1 (c.parts.ensures Q K) (c.loop-v.invariant Q K)
    (omega (arith, c.count-n.ensures.0)) c.left_at.ensures c.descend.ensures.table_after c.descend.ensures.left_after

pub returns : goal.returns
returns g c =
    λ Q K. descending-end c.args.table.now (c.loop-v.invariant Q K) (omega (arith, c.count-n.ensures.0)) c.requires.t_in_bounds.0 (c.parts.ensures Q K)
