-- `calls::fits::fits_call` meets its contract: a refusal is the definition's, and an accepted call answers what the test says. Assumes
-- nothing.
use Rattle.std.proofs.Common.{sym}
use Rattle.std.proofs.lemmas.Result.{err_from_is_err_and}
use Rattle.model.proofs.CallFacts.{accepted-fits}
use Rattle.model.proofs.Calls.{fits_refused, fits-accepted}
use Rattle.model.proofs.Demands.{fits-answered}
use Rattle.format.proofs.GivenLaws.{given-summary, given-document}
use Rattle.calls.proofs.AnswerLaws.{answer-refused, answer-given}
use Rattle.calls.proofs.KeptLaws.{summary-kept, document-kept}
use Rattle.calls.proofs.fits.fits_call.Goals as goal

pub returns-in_err-ask_fits : goal.returns-in_err-ask_fits
returns-in_err-ask_fits c =
    let a = c.args in
    let p = err_from_is_err_and c.from_residual.result c.from_residual.ensures.1 in
    rw (p.1, p.2) (fits-answered _ _ (answer-refused _ (fits_refused a.case.now a.document.now) c.in_err-ask_fits.field-0.0 c.in_err-ask_fits.ensures))

pub new-requires : goal.new-requires
new-requires c = (given-summary (accepted-fits _ _ (sym c.in_ok-ask_fits.ensures)).case).whole

pub new-outline-requires : goal.new-outline-requires
new-outline-requires c = rw c.new.ensures (summary-kept (accepted-fits _ _ (sym c.in_ok-ask_fits.ensures)).case)

pub new-requires-2 : goal.new-requires-2
new-requires-2 c = (given-document (accepted-fits _ _ (sym c.in_ok-ask_fits.ensures)).document).whole

pub fits-requires : goal.fits-requires
fits-requires c = rw c.new-2.ensures (document-kept (accepted-fits _ _ (sym c.in_ok-ask_fits.ensures)).document)

pub returns : goal.returns
returns c =
    let a = c.args in
    fits-answered _ _
    (answer-given _ _ (fits-accepted a.case.now a.document.now) c.in_ok-ask_fits.ensures (rw (c.new-outline.ensures, c.new.ensures, c.new-2.ensures) at c.fits.ensures))
