-- `format::set::member_at` meets its contract: before turn k the field is that of member k. The measure is how many turns are left.
-- Assumes nothing.
use mathlib.Core.Path.{sym, ap, ◌∙◌}
use native.Mathlib.Omega.{arith}
use borrow.Author.Rules.{rules}
use Rattle.model.specs.Bytes.{member_at}
use Rattle.model.proofs.Bytes.{member-first}
use Rattle.format.proofs.SectionLaws.{member-step, member-section}
use Rattle.format.proofs.set.member_at.Goals as goal

pub overflow_add-at : goal.overflow_add-at
overflow_add-at c = let w = c.requires.0.count in search rules

pub loop-init : goal.loop-init
loop-init c = (sym (member-first _ _), omega arith)

pub pattern_end-at-requires : goal.pattern_end-at-requires
pattern_end-at-requires c =
    let in-set = c.requires in
    let last = in-set.1 in
    let turn = c.loop-test.true in
    let w = (member-section _ _ c.loop.counter in-set.0 (omega arith) c.loop.invariant.0).count in
    omega arith

pub loop-preserved : goal.loop-preserved
loop-preserved c = (member-step _ _ c.loop.counter c.loop.invariant.0 c.pattern_end-at.ensures, let t = c.loop-test.true in omega arith)

pub returns : goal.returns
returns c = c.loop.invariant.0 ∙ ap (member_at _ _) (let i = c.loop.invariant.1 in omega arith)
