-- `alternatives::table::common_all` meets its contract: before each turn the set is inside each of those before. Assumes nothing.
use Rattle.cover.proofs.CoverLaws.{common-within}
use Rattle.alternatives.proofs.FillLaws.{in-all-step}
use Rattle.alternatives.proofs.table.common_all.Goals as goal

pub loop-a-preserved : goal.loop-a-preserved
loop-a-preserved c = in-all-step c.loop-a.invariant (common-within c.common-r.ensures)
