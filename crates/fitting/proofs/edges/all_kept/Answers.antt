-- `fitting::edges::all_kept` meets its contract: the test of all is asked of each node. Assumes nothing.
use mathlib.Core.Path.{refl, ◌∙◌}
use native.Mathlib.Omega.{arith}
use lib.ListN.{length}
use Rattle.std.proofs.Common.{rules}
use Rattle.std.proofs.lemmas.Iterator.{YieldsList-from_range}
use Rattle.std.proofs.lemmas.Iterator.Search.{all_from_yields_List}
use Rattle.model.specs.Strong.{strong_table}
use Rattle.fitting.specs.Steps.{strong_kept_in}
use Rattle.fitting.proofs.LoopLaws.{all-ranged}
use Rattle.fitting.proofs.edges.all_kept.Goals as goal

pub returns : goal.returns
returns c =
    let a = c.args in
    let test = strong_kept_in a.path.now a.kids.now (strong_table a.outline.now) in
    let n = length a.w.now in
    all_from_yields_List test _ _ c.all.result c.all.ensures.ran (YieldsList-from_range 0 c.count.result n refl (omega (arith, c.count.ensures.0))) (λ v b q k. search rules)
    ∙ all-ranged test 0 n
