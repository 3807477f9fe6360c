-- `laying::laid::layout_of` meets its contract: what is laid out reads back as the model's nodes. Assumes nothing.
use mathlib.Core.Path.{sym, ap, ◌∙◌}
use native.Mathlib.Omega.{arith}
use lib.ListN.{length}
use Rattle.canonical.proofs.LayoutLaws.{spots-few}
use Rattle.canonical.proofs.ReadBackLaws.{back_whole, back_count, back-document}
use Rattle.laying.specs.Records.{laid_in}
use Rattle.laying.proofs.RecordLaws.{filled-records, filled-array, laid-length, records-laid}
use Rattle.laying.proofs.laid.layout_of.Goals as goal

pub new-requires : goal.new-requires
new-requires c = back_whole c.requires.embedded c.requires.labels c.requires.figures c.lay_out-count.ensures (omega arith)

pub records_of-nodes-requires : goal.records_of-nodes-requires
records_of-nodes-requires c =
    let q = c.requires in
    let n = back_count q.embedded q.labels q.figures c.lay_out-count.ensures ∙ ap (λ W. length W) (sym c.new.ensures) in
    let few = spots-few q.embedded in
    (omega arith, omega (arith, few, c.lay_out-count.ensures.counted, c.lay_out-count.auto.on), omega (arith, few, c.lay_out-count.ensures.counted))

pub invariant_of-result : goal.invariant_of-result
invariant_of-result c =
    filled-array _ c.records_of-nodes.ensures (laid-length _ _ _) (omega (arith, spots-few c.requires.embedded, c.lay_out-count.ensures.counted))

pub returns : goal.returns
returns c =
    let q = c.requires in
    let w = c.lay_out-count.ensures in
    filled-records _ c.records_of-nodes.ensures (laid-length _ _ _) ∙ ap (laid_in c.new.result c.lay_out-count.new.on) w.counted
    ∙ records-laid _ _ _ _ _ _ (c.new.ensures ∙ back-document q.embedded q.labels q.figures w) w.nodes
