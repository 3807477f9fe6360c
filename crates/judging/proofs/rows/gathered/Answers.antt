-- `judging::rows::gathered` meets its contract: nodes have their turn from the last on, as the definition goes. Assumes nothing.
use Prim.Native.Nat.{◌-◌}
use mathlib.Core.Path.{refl, ◌∙◌}
use native.Mathlib.Omega.{arith}
use lib.ListN.{length-set}
use Rattle.judging.proofs.GivenLoop.{gathering-step, gathering-end, join-turn}
use Rattle.judging.proofs.SetLoops.{summary-rooted, summary-start, parent-small}
use Rattle.judging.proofs.rows.gathered.Goals as goal

pub loop-x-init : goal.loop-x-init
loop-x-init g c =
    let n = (summary-rooted _ c.requires.kept.tree).inhabited in
    (omega (arith, n, c.count-x.ensures.0), omega (arith, c.count-x.ensures.0), refl, λ by same. summary-start c.requires.kept c.count-x.ensures.0)

pub bounds-t-parent : goal.bounds-t-parent
bounds-t-parent g c = parent-small c.requires.kept (omega (arith, c.loop-x.invariant.1, c.loop-x-test.true)) c.parent.ensures

pub loop-x-preserved : goal.loop-x-preserved
loop-x-preserved g c =
    let i = c.loop-x.invariant in
    let h = c.loop-x-test.true in (
      omega (arith, h),
      omega (arith, i.1),
      length-set _ _ _ ∙ i.2,
      λ by same. gathering-step (c.loop-x.x - 1) _ (i.3 by same) h refl
          (join-turn _ _ _ _ _ _ _ c.parent.ensures (same _ _ _ (omega (arith, i.1, h)) c.passes-set.ensures) refl) (length-set _ _ _),
    )

pub returns : goal.returns
returns g c = λ by same. gathering-end (c.loop-x.invariant.3 by same) c.loop-x-test.false
