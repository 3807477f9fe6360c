-- `calls::nodes::nodes_call` meets its contract: the model's call goes by the same refusal, which leaves the buffer as it was; else the nodes
-- fit the column and the buffer, and are what is written. Assumes nothing.
use Rattle.std.proofs.Common.{sym, ap, ◌∙◌, ◌≡◌, arith, length, replicate}
use Rattle.std.proofs.lemmas.Result.{err_from_is_err_and}
use Rattle.model.specs.Bytes.{Case, case_of}
use Rattle.model.specs.Questions.{selected}
use Rattle.model.proofs.CallFacts.{accepted-nodes}
use Rattle.format.proofs.GivenLaws.{given-document}
use Rattle.refusals.proofs.AcceptedLaws.{accepted-whole}
use Rattle.calls.proofs.KeptLaws.{pattern-kept, pattern-facts, document-kept}
use Rattle.calls.proofs.NodesLaws.{nodes-few, nodes-fit, nodes-no, nodes-yes}
use Rattle.calls.proofs.nodes.nodes_call.Goals as goal

pub returns-in_err-ask_nodes : goal.returns-in_err-ask_nodes
returns-in_err-ask_nodes c =
    let a = c.args in
    let p = err_from_is_err_and c.from_residual.result c.from_residual.ensures.1 in
    rw (p.1, p.2) (nodes-no a.case.now a.number a.document.now a.position a.answer.now c.in_err-ask_nodes.field-0.0 c.in_err-ask_nodes.ensures)

pub new-requires : goal.new-requires
new-requires c = accepted-whole (accepted-nodes _ _ _ _ _ (sym c.in_ok-ask_nodes.ensures)).case

pub numbered-pattern-requires : goal.numbered-pattern-requires
numbered-pattern-requires c = rw c.new.ensures (accepted-nodes _ _ _ _ _ (sym c.in_ok-ask_nodes.ensures)).number

pub new-requires-2 : goal.new-requires-2
new-requires-2 c = (given-document (accepted-nodes _ _ _ _ _ (sym c.in_ok-ask_nodes.ensures)).document).whole

pub nodes_at-count-requires : goal.nodes_at-count-requires
nodes_at-count-requires c =
    let a = c.args in
    let F = accepted-nodes a.case.now a.number a.document.now a.position (length a.answer.now) (sym c.in_ok-ask_nodes.ensures) in
    let same : c.numbered-pattern.result ≡ selected (case_of a.case.now) a.number = c.numbered-pattern.ensures ∙ ap (λ (x : Case). selected x a.number) c.new.ensures in
    record {
      pattern_kept = rw (same, c.new-2.ensures) (pattern-kept F.case a.number F.number, pattern-facts F.case a.number F.number, document-kept F.document);
      le_position = rw (same, c.new-2.ensures) (F.position_low, F.position_high, F.document.size);
    }

pub write_counted-requires : goal.write_counted-requires
write_counted-requires c =
    let F = accepted-nodes _ _ _ _ _ (sym c.in_ok-ask_nodes.ensures) in
    let found = (rw c.new-2.ensures at c.nodes_at-count.ensures).0 in
    let few = nodes-few F _ found in
    (omega (arith, few), omega (arith, few), nodes-fit F _ found)

pub returns : goal.returns
returns c =
    let a = c.args in
    let same : c.numbered-pattern.result ≡ selected (case_of a.case.now) a.number = c.numbered-pattern.ensures ∙ ap (λ (x : Case). selected x a.number) c.new.ensures in
    nodes-yes a.case.now a.number a.document.now a.position a.answer.now c.in_ok-ask_nodes.ensures
    (replicate 1024 0) (sym same) (rw c.new-2.ensures at c.nodes_at-count.ensures) c.write_counted.ensures.buffer
