-- `moving::refusals::ask_upgrade` meets its contract: 2, 3 and 4 are asked of the bytes as they stand; then what was written is the set
-- of one, which the array holds, and its questions lead to the old form's refusal. Assumes nothing.
use mathlib.Core.Path.{sym}
use native.Mathlib.Omega.{arith}
use lib.ListN.{replicate}
use lib.Seq.{length-take-le}
use borrow.Author.Rules.{rules}
use Rattle.model.specs.Questions.{refusal}
use Rattle.model.specs.OldForm.{old_questions}
use Rattle.model.specs.Moving.{upgrade_refusal}
use Rattle.model.specs.Bytes.{AreBytes}
use Rattle.model.proofs.Moving.{upgraded-small}
use Rattle.questions.proofs.RefusalLaws.{required}
use Rattle.moving.proofs.CallLaws.{asked-as-new}
use Rattle.moving.proofs.refusals.ask_upgrade.Goals as goal

pub returns-in_err-hold : goal.returns-in_err-hold
unfolding upgrade_refusal old_questions refusal
returns-in_err-hold c = search rules

pub returns-in_err-hold-2 : goal.returns-in_err-hold-2
unfolding upgrade_refusal old_questions refusal
returns-in_err-hold-2 c = search rules

pub returns-in_err-hold-3 : goal.returns-in_err-hold-3
unfolding upgrade_refusal old_questions refusal
returns-in_err-hold-3 c = search rules

pub write_new-end-requires-clause-b_in_bounds : goal.write_new-end-requires-clause-b_in_bounds
write_new-end-requires-clause-b_in_bounds c =
    let small : AreBytes c.args.b.now = (λ i. omega (arith, c.type_inv.b i)) in
    upgraded-small _ small (search required) (search required)

pub slice_bounds-moved-end : goal.slice_bounds-moved-end
slice_bounds-moved-end c =
    let small : AreBytes c.args.b.now = (λ i. omega (arith, c.type_inv.b i)) in
    let room = upgraded-small _ small (search required) (search required) in
    let end = c.write_new-end.ensures.end in
    omega arith

pub slice_bounds-ask_case-end : goal.slice_bounds-ask_case-end
slice_bounds-ask_case-end c =
    let small : AreBytes c.args.b.now = (λ i. omega (arith, c.type_inv.b i)) in
    let room = upgraded-small _ small (search required) (search required) in
    let end = c.write_new-end.ensures.end in
    sym (length-take-le _ _ (omega arith))

pub returns : goal.returns
returns c =
    let small : AreBytes c.args.b.now = (λ i. omega (arith, c.type_inv.b i)) in
    asked-as-new _ small (search required) (search required) _ (search required) (replicate 712 0)
    (c.write_new-end.ensures.end, c.write_new-end.ensures.buffer) c.ask_case.ensures
