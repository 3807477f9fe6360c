-- `calls::paths::paths_call` meets its contract: a refusal is the definition's, and an accepted call answers each node's paths and the
-- number of ones in each mask. Assumes nothing.
use Rattle.std.proofs.Common.{sym, ap, ◌∙◌, ◌≡◌}
use Rattle.std.proofs.lemmas.Result.{err_from_is_err_and}
use Rattle.model.specs.Bytes.{Case, case_of}
use Rattle.model.specs.Questions.{selected}
use Rattle.model.proofs.CallFacts.{accepted-paths}
use Rattle.refusals.proofs.AcceptedLaws.{accepted-whole}
use Rattle.calls.proofs.KeptLaws.{summary-kept, pattern-kept}
use Rattle.calls.proofs.PathLaws.{paths-no, paths-yes}
use Rattle.calls.proofs.paths.paths_call.Goals as goal

pub returns-in_err-ask_paths : goal.returns-in_err-ask_paths
returns-in_err-ask_paths c =
    let a = c.args in
    let p = err_from_is_err_and c.from_residual.result c.from_residual.ensures.1 in
    rw (p.1, p.2) (paths-no a.case.now a.number c.in_err-ask_paths.field-0.0 c.in_err-ask_paths.ensures)

pub new-case-requires : goal.new-case-requires
new-case-requires c = accepted-whole (accepted-paths _ _ (sym c.in_ok-ask_paths.ensures)).case

pub numbered-requires : goal.numbered-requires
numbered-requires c = rw c.new-case.ensures (accepted-paths _ _ (sym c.in_ok-ask_paths.ensures)).number

pub path_masks-masks-requires : goal.path_masks-masks-requires
path_masks-masks-requires c =
    let a = c.args in
    let F = accepted-paths a.case.now a.number (sym c.in_ok-ask_paths.ensures) in
    let outline : c.summary.result ≡ (case_of a.case.now).summary = c.summary.ensures ∙ ap (λ (x : Case). x.summary) c.new-case.ensures in
    let same : c.numbered.result ≡ selected (case_of a.case.now) a.number = c.numbered.ensures ∙ ap (λ (x : Case). selected x a.number) c.new-case.ensures in
    rw (outline, same) (summary-kept F.case, pattern-kept F.case a.number F.number)

pub returns : goal.returns
returns c =
    let a = c.args in
    let outline : c.summary.result ≡ (case_of a.case.now).summary = c.summary.ensures ∙ ap (λ (x : Case). x.summary) c.new-case.ensures in
    let same : c.numbered.result ≡ selected (case_of a.case.now) a.number = c.numbered.ensures ∙ ap (λ (x : Case). selected x a.number) c.new-case.ensures in
    paths-yes a.case.now a.number c.in_ok-ask_paths.ensures (sym same) (rw outline at c.path_masks-masks.ensures) c.path_counts-counts.ensures
