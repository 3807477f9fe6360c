-- The call's answer and what its buffer shows are what is printed. Assumes nothing.
use mathlib.Core.Path.{refl}
use native.Mathlib.Omega.{arith}
use borrow.Author.Rules.{rules}
use Rattle.model.specs.Bytes.{AreBytes}
use Rattle.printing.proofs.AnswerLaws.{tellable, told-fits, text-printed}
use Rattle.printing.proofs.verdict_text.Goals as goal

pub answer_text-requires : goal.answer_text-requires
answer_text-requires c =
    let small : AreBytes c.args.case.now = (λ i. omega (arith, c.type_inv.case i)) in
    let a = c.verdict_call-told.result in record {
      shown = tellable _ refl (search rules) a c.verdict_call-told.ensures;
      room = told-fits _ refl (search rules) small a c.verdict_call-told.ensures (search rules) (search rules);
    }

pub returns : goal.returns
returns c =
    let small : AreBytes c.args.case.now = (λ i. omega (arith, c.type_inv.case i)) in
    rw (← c.new-page.ensures.bytes)
    (text-printed _ refl (search rules) small c.verdict_call-told.result c.verdict_call-told.ensures (search rules) (search rules) c.answer_text.ensures)
