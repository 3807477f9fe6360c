-- `canonical::own_result` meets its contract: before turn i the front has the own nodes at positions 1 to i. Assumes nothing.
use mathlib.Core.Path.{refl, ap, ◌∙◌}
use native.Mathlib.Omega.{arith}
use Rattle.model.specs.Embeddings.{image_in}
use Rattle.format.proofs.FrontLoops.{filled-start, filled-step}
use Rattle.canonical.proofs.own_result.Goals as goal
use Rattle.canonical.proofs.own_result.Goals.{in-Some, in_default}

pub loop-i-init : goal.loop-i-init
loop-i-init c = filled-start refl

pub loop-i-preserved : goal.loop-i-preserved
loop-i-preserved c =
    elim c.match-node_at.branch [
      | in-Some w ↦
          rw w.result-is (filled-step c.loop-i.invariant c.loop-i-test.true c.requires.few.0 (w.own_of.ensures ∙ ap (image_in c.args.own.now) w.in-Some.ensures.0))
      | in_default w ↦ absurd (omega (arith, w.in_default.ensures, c.requires.by_index c.loop-i.i c.loop-i-test.true))
    ]
