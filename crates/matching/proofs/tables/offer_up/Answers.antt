-- `matching::tables::offer_up` meets its contract, by cases on whether the node is the root: a parent stands before. Assumes nothing.
use Prim.Native.Nat.{ℕ}
use mathlib.Core.Path.{sym, ap, ◌∙◌}
use lib.Bits.{bit_or}
use lib.ListN.{set, get_or}
use Rattle.matching.proofs.TurnLaws.{offer_up-root, offer_up-parent}
use Rattle.matching.proofs.tables.offer_up.Goals as goal

pub returns-then-v-eq0 : goal.returns-then-v-eq0
returns-then-v-eq0 g c = sym (offer_up-root _ c.args.v _ _ c.if-v-eq0.true)

pub returns : goal.returns
returns g c =
    let s = c.args in
    ap (λ (u : ℕ). set s.table.now u (bit_or (get_or s.table.now u 0) s.offer)) c.parent-u.ensures
    ∙ sym (offer_up-parent _ s.v s.offer s.table.now c.if-v-eq0.false)
