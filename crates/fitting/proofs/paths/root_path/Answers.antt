-- `fitting::paths::root_path` meets its contract: the root's entry compares the two labels. Assumes nothing.
use mathlib.Core.Path.{sym, ◌∙◌}
use native.Mathlib.Omega.{arith}
use Rattle.model.proofs.TreeLaws.{length-as_document}
use Rattle.fitting.proofs.PathLaws.{root-same, root-other}
use Rattle.fitting.proofs.paths.root_path.Goals as goal

pub returns-then-own-label : goal.returns-then-own-label
returns-then-own-label c =
    let same = sym c.label-own.ensures ∙ c.if-own-label.true ∙ c.label-label.ensures in
    (root-same _ _ c.requires.1.tree.inhabited same, omega (arith, c.requires.0.tree.inhabited, length-as_document c.args.summary.now))

pub returns : goal.returns
returns c =
    sym (root-other _ _ c.requires.1.tree.inhabited (λ e. c.if-own-label.false (c.label-own.ensures ∙ e ∙ sym c.label-label.ensures)))
