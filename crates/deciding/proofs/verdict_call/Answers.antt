-- `deciding::verdict_call` meets its contract: it returns before anything is written where a question refuses, and else the verdict
-- that is told is the model's outcome. Assumes nothing.
use Rattle.std.proofs.Common.{sym, arith}
use Rattle.std.proofs.lemmas.Result.{err_from_is_err_and}
use Rattle.model.proofs.CallFacts.{accepted-verdict}
use Rattle.model.specs.Bytes.{AreBytes}
use Rattle.refusals.proofs.AcceptedLaws.{accepted-whole}
use Rattle.deciding.proofs.CallLaws.{answered-refused, answered-accepted}
use Rattle.deciding.proofs.verdict_call.Goals as goal

pub returns-in_err-ask_verdict : goal.returns-in_err-ask_verdict
returns-in_err-ask_verdict c =
    let small : AreBytes c.args.case.now = (λ i. omega (arith, c.type_inv.case i)) in
    let p = err_from_is_err_and c.from_residual.result c.from_residual.ensures.1 in
    rw (p.1, p.2) (answered-refused _ small _ _ _ _ c.in_err-ask_verdict.field-0.0 c.in_err-ask_verdict.ensures)

pub new-requires : goal.new-requires
new-requires c = accepted-whole (accepted-verdict _ _ _ _ _ (sym c.in_ok-ask_verdict.ensures)).case

pub accepted-requires : goal.accepted-requires
accepted-requires c = let f = accepted-verdict _ _ _ _ _ (sym c.in_ok-ask_verdict.ensures) in rw c.new.ensures (f.case.facts, f.buffer, f.limit_high)

pub returns : goal.returns
returns c =
    let small : AreBytes c.args.case.now = (λ i. omega (arith, c.type_inv.case i)) in
    answered-accepted _ small _ _ _ _ (sym c.in_ok-ask_verdict.ensures) (rw c.new.ensures at c.accepted.ensures)
