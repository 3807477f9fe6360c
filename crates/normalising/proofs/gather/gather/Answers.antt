-- `normalising::gather::gather` meets its contract: before turn k the subtrees from k on have gone to their parents. Assumes nothing.
use Prim.Native.Nat.{suc, ◌-◌, ◌<◌}
use mathlib.Core.Path.{◌≡◌, sym, ap, ap₂, ◌∙◌, subst}
use mathlib.Core.List.{List, ◌++◌}
use native.Mathlib.Omega.{arith}
use lib.ListN.{length, set}
use Rattle.model.specs.Normal.{Entry}
use Rattle.model.specs.Gathering.{joined}
use Rattle.normalising.proofs.TreeLaws.{Gathering, gathering-start, set-front, front_row, back_row, below, insertable, gathering-step, gathering-end}
use Rattle.normalising.proofs.gather.gather.Goals as goal

pub loop-k-init : goal.loop-k-init
loop-k-init g c =
    let P = g.T.Tree.table c.args.tree.now in
    subst (Gathering P c.args.rows.now) (sym c.count-k.ensures.0) (gathering-start c.requires.0.tree c.requires.1)

pub insert-requires : goal.insert-requires
insert-requires g c =
    let P = g.T.Tree.table c.args.tree.now in
    let rows = c.loop-k.rows in
    let k = c.loop-k.k - 1 in
    let now : c.loop-k.k ≡ suc k = omega (arith, c.loop-k-test.true) in
    let w : Gathering P rows (suc k) = subst (Gathering P rows) now c.loop-k.invariant in
    let some : 0 < k = omega (arith, c.loop-k-test.true) in
    let lower = below c.requires.0.tree c.requires.0.few w some c.parent.ensures in
    let f = front_row rows c.split_at_mut-front.ensures.front lower (omega (arith, w.turns, w.size)) c.index-front-parent.is in
    let b = back_row rows c.split_at_mut-front.ensures.back (omega (arith, w.turns, w.size)) c.index-back-0.is in
    let i = insertable c.requires.0.tree c.requires.0.few w some c.parent.ensures in
    (omega (arith, ap length b, i.0), omega (arith, ap length f, ap length b, i.1))

pub loop-k-preserved : goal.loop-k-preserved
loop-k-preserved g c =
    let P = g.T.Tree.table c.args.tree.now in
    let rows = c.loop-k.rows in
    let k = c.loop-k.k - 1 in
    let p = c.parent.result in
    let now : c.loop-k.k ≡ suc k = omega (arith, c.loop-k-test.true) in
    let w : Gathering P rows (suc k) = subst (Gathering P rows) now c.loop-k.invariant in
    let some : 0 < k = omega (arith, c.loop-k-test.true) in
    let lower = below c.requires.0.tree c.requires.0.few w some c.parent.ensures in
    let f = front_row rows c.split_at_mut-front.ensures.front lower (omega (arith, w.turns, w.size)) c.index-front-parent.is in
    let b = back_row rows c.split_at_mut-front.ensures.back (omega (arith, w.turns, w.size)) c.index-back-0.is in
    let new = c.insert.ensures ∙ ap₂ joined b f in
    let parts = ap₂ (λ (x y : List (List Entry)). set x p c.insert.new.self ++ y) c.split_at_mut-front.ensures.front c.split_at_mut-front.ensures.back in
    let whole = parts ∙ set-front rows k p c.insert.new.self lower (omega (arith, w.turns, w.size)) ∙ ap (set rows p) new in
    subst (λ (r : List (List Entry)). Gathering P r k) (sym whole) (gathering-step c.requires.0.tree c.requires.0.few w some c.parent.ensures)

pub returns : goal.returns
returns g c = gathering-end c.requires.0.tree c.loop-k.invariant c.loop-k-test.false
