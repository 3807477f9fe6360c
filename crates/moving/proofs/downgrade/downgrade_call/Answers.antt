-- `moving::downgrade::downgrade_call` meets its contract: where a question refuses, nothing is written, and else what is written fits the
-- buffer and is the model's. Assumes nothing.
use mathlib.Core.Path.{refl, sym, subst}
use native.Mathlib.Omega.{arith}
use Rattle.model.specs.Bytes.{AreBytes}
use Rattle.model.specs.Demands.{DowngradeAnswered}
use Rattle.questions.proofs.RefusalLaws.{number-not_zero}
use Rattle.moving.proofs.CallLaws.{answer-refused, downgrade-no, downgrade-fits, downgrade-yes}
use Rattle.moving.proofs.downgrade.downgrade_call.Goals as goal

pub returns-in_err-ask_downgrade : goal.returns-in_err-ask_downgrade
returns-in_err-ask_downgrade c =
    let small : AreBytes c.args.case.now = (λ i. omega (arith, c.type_inv.case i)) in
    let before = c.args.answer.now in
    subst (DowngradeAnswered c.args.case.now before) (sym (answer-refused _ _ before c.from_residual.ensures.1)) (downgrade-no _ small before c.in_err-ask_downgrade.ensures (number-not_zero _))

pub write_old-requires : goal.write_old-requires
write_old-requires c =
    let small : AreBytes c.args.case.now = (λ i. omega (arith, c.type_inv.case i)) in
    let both = downgrade-fits _ small c.args.answer.now c.in_ok-ask_downgrade.ensures refl in record { b_value = both.0; b_value_2 = both.1.0; b_in_bounds = both.1.1 }

pub returns : goal.returns
returns c =
    let small : AreBytes c.args.case.now = (λ i. omega (arith, c.type_inv.case i)) in
    downgrade-yes _ small _ c.in_ok-ask_downgrade.ensures refl (c.write_old.ensures.end, c.write_old.ensures.buffer)
