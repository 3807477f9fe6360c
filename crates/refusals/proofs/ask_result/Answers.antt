-- `refusals::ask_result` meets its contract: each question is asked where those before it held. Assumes nothing.
use Rattle.std.proofs.Common.{rules}
use Rattle.model.specs.Questions.{result_refusal, fits_refusal, case_questions, refusal}
use Rattle.refusals.proofs.DocumentLaws.{given-case, given-document}
use Rattle.refusals.proofs.ask_result.Goals as goal

pub new-case-requires : goal.new-case-requires
new-case-requires c = given-case _ _ c.in_ok-ask_fits.ensures

pub new-document-requires : goal.new-document-requires
new-document-requires c = given-document _ _ c.in_ok-ask_fits.ensures

pub returns-in_err-ask_fits : goal.returns-in_err-ask_fits
unfolding result_refusal fits_refusal case_questions refusal
returns-in_err-ask_fits c = search rules

pub returns-in_err-hold : goal.returns-in_err-hold
unfolding result_refusal fits_refusal case_questions refusal
returns-in_err-hold c = search rules

pub returns : goal.returns
unfolding result_refusal fits_refusal case_questions refusal
returns c = search rules
