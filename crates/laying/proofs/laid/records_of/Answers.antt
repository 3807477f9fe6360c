-- `laying::laid::records_of` meets its contract: after i turns the first i records stand at the front. Assumes nothing.
use mathlib.Core.Path.{◌∙◌}
use borrow.Author.Rules.{rules}
use Rattle.format.proofs.FrontLoops.{filled-start, filled-step, filled-end}
use Rattle.laying.proofs.RecordLaws.{length-blank, at_front_lem}
use Rattle.laying.proofs.laid.records_of.Goals as goal

pub loop-i-init : goal.loop-i-init
loop-i-init c = filled-start (search rules)

pub loop-i-preserved : goal.loop-i-preserved
loop-i-preserved c = filled-step c.loop-i.invariant c.loop-i-test.true (let n = length-blank in search rules) c.record_at.ensures

pub returns : goal.returns
returns c =
    let a = c.args in
    filled-end c.loop-i.invariant c.loop-i-test.false ∙ at_front_lem a.w.now a.on.now a.count
