-- `matching::making::mark_at` meets its contract, by cases on whether the node has a position. Assumes nothing.
use Prim.Native.Nat.{ℕ, ◌+◌, ◌-◌}
use mathlib.Core.Path.{sym, ap, ◌∙◌}
use native.Mathlib.Omega.{arith}
use Rattle.matching.proofs.WantedLaws.{mark-none, mark-some}
use Rattle.format.proofs.ListLaws.{list_count, list-entry}
use Rattle.matching.proofs.making.mark_at.Goals as goal

pub returns-then-position-eq0 : goal.returns-then-position-eq0
returns-then-position-eq0 c = sym (mark-none c.args.position _ c.if-position-eq0.true)

pub field-requires : goal.field-requires
field-requires c = omega (arith, c.requires.0, list_count c.args.list.now)

pub overflow_cast-result : goal.overflow_cast-result
overflow_cast-result c =
    let list = c.args.list.now in
    let i = c.args.position - 1 in
    omega (arith, c.field.ensures.0, list-entry list i (omega (arith, c.requires.0, list_count list)), c.requires.1 i (omega (arith, c.requires.0)))

pub returns : goal.returns
returns c =
    let list = c.args.list.now in
    ap (λ (x : ℕ). x + 1) (c.field.ensures.0 ∙ sym (list-entry list (c.args.position - 1) (omega (arith, c.requires.0, list_count list))))
    ∙ sym (mark-some c.args.position _ c.if-position-eq0.false)
