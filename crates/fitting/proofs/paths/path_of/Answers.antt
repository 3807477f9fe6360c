-- `fitting::paths::path_of` meets its contract: the root is tested by its label, any other node's summary node is a child of its
-- parent's. Assumes nothing.
use Prim.Native.Nat.{ℕ}
use mathlib.Core.Path.{ap, subst}
use native.Mathlib.Omega.{arith}
use Rattle.model.specs.Fitting.{child_labelled}
use Rattle.fitting.specs.Steps.{IsNode}
use Rattle.fitting.proofs.PathLaws.{next-entry}
use Rattle.fitting.proofs.paths.path_of.Goals as goal

pub returns : goal.returns
returns c =
    let S = c.args.summary.now in
    subst (λ (x : ℕ). IsNode S x c.child_labelled.result)
    (next-entry _ _ c.requires.kept.1.tree c.requires.on_paths (omega arith) c.requires.v_in_bounds c.parent.ensures c.summary_of-s.ensures (ap (child_labelled S c.summary_of-s.result.0) c.label.ensures))
    c.child_labelled.ensures
