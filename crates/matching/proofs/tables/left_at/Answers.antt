-- `matching::tables::left_at` meets its contract, by cases on whether the node is the root: a parent stands before. Assumes nothing.
use Prim.Native.Nat.{ℕ}
use mathlib.Core.Path.{sym, ap, ◌∙◌}
use lib.ListN.{get_or}
use Rattle.matching.proofs.TurnLaws.{left_at-root, left_at-parent}
use Rattle.matching.proofs.tables.left_at.Goals as goal

pub returns-then-v-eq0 : goal.returns-then-v-eq0
returns-then-v-eq0 g c = sym (left_at-root _ c.args.v _ c.if-v-eq0.true)

pub returns : goal.returns
returns g c =
    let s = c.args in
    ap (λ (u : ℕ). get_or s.left.now u 0) c.parent.ensures ∙ sym (left_at-parent _ s.v s.left.now c.if-v-eq0.false)
