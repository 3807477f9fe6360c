-- `format::pattern::Pattern::node_at` meets its contract: none of the nodes passed holds the position. Assumes nothing.
use mathlib.Core.Path.{sym, ◌∙◌}
use native.Mathlib.Omega.{arith}
use borrow.Author.Tests.{eq-eqb, ne_eqb}
use Rattle.format.proofs.PositionLaws.{seeking-step, seeking-found, seeking-end}
use Rattle.format.proofs.pattern.Pattern.node_at.Goals as goal

pub returns-then-position : goal.returns-then-position
returns-then-position c =
    let h = c.count-q-end.ensures.0 in
    let l = c.loop-q-test.true in
    (seeking-found c.loop-q.invariant (omega arith) (eq-eqb _ _ (sym c.position.ensures.0 ∙ c.if-position.true)), omega arith)

pub loop-q-preserved : goal.loop-q-preserved
loop-q-preserved c =
    let h = c.count-q-end.ensures.0 in
    let l = c.loop-q-test.true in
    seeking-step c.loop-q.invariant (omega arith) (ne_eqb _ _ (λ e. c.if-position.false (c.position.ensures.0 ∙ e)))

pub returns : goal.returns
returns c =
    let h = c.count-q-end.ensures.0 in
    let l = c.loop-q-test.false in
    sym (seeking-end c.loop-q.invariant (omega arith))
