-- `fitting::edges::child_paths` meets its contract: after the turns below v each of those nodes has put its path into its parent's
-- row. Assumes nothing.
use native.Mathlib.Omega.{arith}
use Rattle.fitting.proofs.GatherLaws.{gathering-start, gathering-step}
use Rattle.fitting.proofs.edges.child_paths.Goals as goal

pub loop-v-init : goal.loop-v-init
loop-v-init c = gathering-start 1024 c.requires.document_kept.tree c.requires.document_kept.few

pub loop-v-preserved : goal.loop-v-preserved
loop-v-preserved c = gathering-step c.loop-v.invariant c.requires.document_kept.tree (omega arith) c.parent-p.ensures c.summary_of.ensures c.insert.ensures
