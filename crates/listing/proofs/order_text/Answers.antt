-- The call's answer and what its buffer holds are what is printed. Assumes nothing.
use mathlib.Core.Path.{refl}
use native.Mathlib.Omega.{arith}
use borrow.Author.Rules.{rules}
use Rattle.model.specs.Bytes.{AreBytes}
use Rattle.listing.proofs.AnswerLaws.{order-held, told-fits, text-printed}
use Rattle.listing.proofs.order_text.Goals as goal

pub answer_text-requires : goal.answer_text-requires
answer_text-requires c =
    let small : AreBytes c.args.case.now = (λ i. omega (arith, c.type_inv.case i)) in
    let told = c.minimise_call-told.result in record {
      held = order-held _ small refl (search rules) told c.minimise_call-told.ensures;
      room = told-fits _ small refl (search rules) told c.minimise_call-told.ensures (search rules) (search rules);
    }

pub returns : goal.returns
returns c =
    let small : AreBytes c.args.case.now = (λ i. omega (arith, c.type_inv.case i)) in
    rw (← c.new-page.ensures.bytes)
    (text-printed _ small refl (search rules) c.minimise_call-told.result c.minimise_call-told.ensures (search rules) (search rules) c.answer_text.ensures)
