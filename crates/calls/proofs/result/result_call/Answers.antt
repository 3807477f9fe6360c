-- `calls::result::result_call` meets its contract: the model's call goes by the same refusal, and its answer is the same test's. Assumes
-- nothing.
use Rattle.std.proofs.Common.{sym, ap, ◌∙◌, ◌≡◌}
use Rattle.std.proofs.lemmas.Result.{err_from_is_err_and}
use Rattle.model.specs.Bytes.{Case, case_of}
use Rattle.model.specs.Questions.{selected}
use Rattle.model.proofs.CallFacts.{accepted-result}
use Rattle.model.proofs.Calls.{result-refused, result-accepted}
use Rattle.model.proofs.Demands.{result-answered}
use Rattle.format.proofs.GivenLaws.{given-document}
use Rattle.refusals.proofs.AcceptedLaws.{accepted-whole}
use Rattle.calls.proofs.AnswerLaws.{answer-refused, answer-given}
use Rattle.calls.proofs.KeptLaws.{pattern-kept, pattern-facts, document-kept}
use Rattle.calls.proofs.result.result_call.Goals as goal

pub returns-in_err-ask_result : goal.returns-in_err-ask_result
returns-in_err-ask_result c =
    let a = c.args in
    let p = err_from_is_err_and c.from_residual.result c.from_residual.ensures.1 in
    rw (p.1, p.2)
    (result-answered _ _ _ _ (answer-refused _ (result-refused a.case.now a.number a.document.now a.list.now) c.in_err-ask_result.field-0.0 c.in_err-ask_result.ensures))

pub new-requires : goal.new-requires
new-requires c = accepted-whole (accepted-result _ _ _ _ (sym c.in_ok-ask_result.ensures)).case

pub numbered-pattern-requires : goal.numbered-pattern-requires
numbered-pattern-requires c = rw c.new.ensures (accepted-result _ _ _ _ (sym c.in_ok-ask_result.ensures)).number

pub new-requires-2 : goal.new-requires-2
new-requires-2 c = (given-document (accepted-result _ _ _ _ (sym c.in_ok-ask_result.ensures)).document).whole

pub is_result-requires : goal.is_result-requires
is_result-requires c =
    let a = c.args in
    let F = accepted-result a.case.now a.number a.document.now a.list.now (sym c.in_ok-ask_result.ensures) in
    let same : c.numbered-pattern.result ≡ selected (case_of a.case.now) a.number = c.numbered-pattern.ensures ∙ ap (λ (x : Case). selected x a.number) c.new.ensures in
    record {
      pattern_kept = rw (same, c.new-2.ensures) (pattern-kept F.case a.number F.number, pattern-facts F.case a.number F.number, document-kept F.document);
      list_facts = rw (same, c.new-2.ensures) F.list;
    }

pub returns : goal.returns
returns c =
    let a = c.args in
    let same : c.numbered-pattern.result ≡ selected (case_of a.case.now) a.number = c.numbered-pattern.ensures ∙ ap (λ (x : Case). selected x a.number) c.new.ensures in
    result-answered _ _ _ _
    (answer-given _ _ (result-accepted a.case.now a.number a.document.now a.list.now) c.in_ok-ask_result.ensures (rw (same, c.new-2.ensures) at c.is_result.ensures))
