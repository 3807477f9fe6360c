-- `moving::upgrade::upgrade_call` meets its contract: where a question refuses, nothing is written, and else what is written fits the
-- buffer and is the model's. Assumes nothing.
use mathlib.Core.Path.{refl, sym, subst}
use native.Mathlib.Omega.{arith}
use Rattle.model.specs.Bytes.{AreBytes}
use Rattle.model.specs.Demands.{UpgradeAnswered}
use Rattle.questions.proofs.RefusalLaws.{number-not_zero}
use Rattle.moving.proofs.CallLaws.{answer-refused, upgrade-no, upgrade-fits, upgrade-yes}
use Rattle.moving.proofs.upgrade.upgrade_call.Goals as goal

pub returns-in_err-ask_upgrade : goal.returns-in_err-ask_upgrade
returns-in_err-ask_upgrade c =
    let small : AreBytes c.args.case.now = (λ i. omega (arith, c.type_inv.case i)) in
    let before = c.args.answer.now in
    subst (UpgradeAnswered c.args.case.now before) (sym (answer-refused _ _ before c.from_residual.ensures.1)) (upgrade-no _ small before c.in_err-ask_upgrade.ensures (number-not_zero _))

pub write_new-requires : goal.write_new-requires
write_new-requires c =
    let small : AreBytes c.args.case.now = (λ i. omega (arith, c.type_inv.case i)) in
    let both = upgrade-fits _ small c.args.answer.now c.in_ok-ask_upgrade.ensures refl in record { b_value = both.0; b_in_bounds = both.1 }

pub returns : goal.returns
returns c =
    let small : AreBytes c.args.case.now = (λ i. omega (arith, c.type_inv.case i)) in
    upgrade-yes _ small _ c.in_ok-ask_upgrade.ensures refl (c.write_new.ensures.end, c.write_new.ensures.buffer)
