-- `normalising::normalise_call` meets its contract: where a question refuses, nothing is written, and else what is written is the
-- model's. Assumes nothing.
use mathlib.Core.Path.{refl, sym, subst}
use native.Mathlib.Omega.{arith}
use lib.ListN.{length}
use Prim.Native.Nat.{◌≤◌}
use Rattle.model.specs.Bytes.{Case, AreBytes, encode_case}
use Rattle.model.specs.Normal.{normal_case}
use Rattle.model.specs.Demands.{NormaliseAnswered}
use Rattle.questions.proofs.RefusalLaws.{number-not_zero}
use Rattle.moving.proofs.CallLaws.{answer-refused}
use Rattle.normalising.specs.Trees.{CaseGiven}
use Rattle.normalising.proofs.CallLaws.{answered-no, case-fits, answered-yes}
use Rattle.normalising.proofs.normalise_call.Goals as goal

pub returns-in_err-ask_normalise : goal.returns-in_err-ask_normalise
returns-in_err-ask_normalise c =
    let small : AreBytes c.args.case.now = (λ i. omega (arith, c.type_inv.case i)) in
    let before = c.args.answer.now in
    subst (NormaliseAnswered c.args.case.now before) (sym (answer-refused _ _ before c.from_residual.ensures.1)) (answered-no _ small before c.in_err-ask_normalise.ensures (number-not_zero _))

pub new-requires : goal.new-requires
new-requires c =
    let small : AreBytes c.args.case.now = (λ i. omega (arith, c.type_inv.case i)) in
    (case-fits _ small c.args.answer.now c.in_ok-ask_normalise.ensures refl).whole

pub write_case-requires : goal.write_case-requires
write_case-requires c =
    let small : AreBytes c.args.case.now = (λ i. omega (arith, c.type_inv.case i)) in
    let f = case-fits _ small c.args.answer.now c.in_ok-ask_normalise.ensures refl in
    subst (λ (d : Case). CaseGiven d × (length (encode_case (normal_case d)) ≤ length c.args.answer.now)) (sym c.new.ensures) (f.given, f.fits)

pub returns : goal.returns
returns c =
    let small : AreBytes c.args.case.now = (λ i. omega (arith, c.type_inv.case i)) in
    answered-yes _ small c.args.answer.now c.in_ok-ask_normalise.ensures refl c.new.ensures c.write_case.ensures.end c.write_case.ensures.buffer
