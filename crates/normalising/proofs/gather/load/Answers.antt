-- `normalising::gather::load` meets its contract: before turn i the rows of the nodes before i are their entries alone. Assumes nothing.
use Prim.Native.Nat.{ℕ, ◌+◌, ◌<◌}
use mathlib.Core.Path.{sym, ap, ◌∙◌, subst}
use mathlib.Core.List.{List}
use native.Mathlib.Omega.{arith}
use lib.ListN.{length, get_or, set}
use Rattle.model.specs.Normal.{Entry}
use Rattle.model.specs.Pattern.{no_pattern_record}
use Rattle.normalising.specs.Trees.{entry_with, Loaded}
use Rattle.normalising.proofs.TreeLaws.{loading-start, parent-entry, depth-fits, loading_step}
use Rattle.normalising.proofs.gather.load.Goals as goal

pub loop-i-init : goal.loop-i-init
loop-i-init g c =
    let P = g.T.Tree.table c.args.tree.now in (
      omega arith,
      omega (arith, c.requires.0.tree.inhabited),
      subst (λ (x : List Entry). Loaded P (set c.args.rows.now 0 x) 1) (sym c.start.ensures) (loading-start c.requires.0.tree c.args.rows.now c.requires.1 c.entry.ensures),
    )

pub entry-requires-in-loop-i : goal.entry-requires-in-loop-i
entry-requires-in-loop-i g c =
    let w = c.loop-i.invariant in
    let inside : c.loop-i.i < length (g.T.Tree.table c.args.tree.now) = omega (arith, c.loop-i-test.true, c.count-i-end.ensures.0) in
    let a = parent-entry c.requires.0.tree w.2 w.0 inside c.parent.ensures c.index-rows-parent.is c.entries.ensures c.index-entries-0.is in
    (inside, omega (arith, c.depth.ensures.0, depth-fits c.requires.0.tree w.2 w.0 inside c.parent.ensures a c.requires.0.few), c.requires.0.edges _ inside, c.requires.0.positions _ inside)

pub loop-i-preserved : goal.loop-i-preserved
loop-i-preserved g c =
    let P = g.T.Tree.table c.args.tree.now in
    let w = c.loop-i.invariant in
    let inside : c.loop-i.i < length P = omega (arith, c.loop-i-test.true, c.count-i-end.ensures.0) in
    let a = parent-entry c.requires.0.tree w.2 w.0 inside c.parent.ensures c.index-rows-parent.is c.entries.ensures c.index-entries-0.is in
    let e = c.entry-in-loop-i.ensures ∙ ap (λ (d : ℕ). entry_with (d + 1) (get_or P c.loop-i.i no_pattern_record)) c.depth.ensures.0 in (
      omega arith,
      omega arith,
      subst (λ (x : List Entry). Loaded P (set c.loop-i.rows c.loop-i.i x) (c.loop-i.i + 1)) (sym c.start-in-loop-i.ensures)
          (loading_step c.requires.0.tree w.2 w.0 inside c.parent.ensures a e),
    )
