-- `bits::select` meets its contract: after i turns m holds what passes of the numbers below i. Assumes nothing.
use mathlib.Core.Path.{◌∙◌, ap, sym}
use native.Mathlib.Omega.{arith}
use Rattle.model.specs.Lists.{mask_below}
use Rattle.bits.proofs.MaskLaws.{mask_start, mask_step}
use Rattle.bits.proofs.select.Goals as goal

pub loop-i-init : goal.loop-i-init
loop-i-init g c = λ test same. c.none-m.ensures ∙ sym (mask_start test)

pub loop-i-preserved : goal.loop-i-preserved
loop-i-preserved g c = λ test same.
    c.insert_if-m.ensures ∙ mask_step test _ _ c.passes.result (c.loop-i.invariant test same) (same _ _ c.loop-i-test.true c.passes.ensures)

pub returns : goal.returns
returns g c = λ test same. c.loop-i.invariant test same ∙ ap (mask_below test) (omega (arith, c.loop-i.auto.i-end, c.loop-i-test.false))
