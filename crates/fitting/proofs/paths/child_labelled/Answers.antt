-- `fitting::paths::child_labelled` meets its contract: no number that was passed is the child, so the first that is one is found,
-- or none is there. Assumes nothing.
use mathlib.Core.Path.{sym, ◌∙◌}
use native.Mathlib.Omega.{arith}
use Rattle.fitting.proofs.PathLaws.{missed-start, missed-step, child-found, child-none}
use Rattle.fitting.proofs.paths.child_labelled.Goals as goal

pub loop-t-init : goal.loop-t-init
loop-t-init c = missed-start _ _ _ c.requires.0.tree c.requires.1

pub returns-then-is_labelled : goal.returns-then-is_labelled
returns-then-is_labelled c = (child-found _ _ _ c.loop-t.invariant (omega arith) (sym c.is_labelled.ensures ∙ c.if-is_labelled.true), omega arith)

pub loop-t-preserved : goal.loop-t-preserved
loop-t-preserved c = missed-step _ _ _ c.loop-t.invariant (omega arith) (sym c.is_labelled.ensures ∙ c.if-is_labelled.false)

pub returns : goal.returns
returns c = sym (child-none _ _ _ c.loop-t.invariant (omega arith))
