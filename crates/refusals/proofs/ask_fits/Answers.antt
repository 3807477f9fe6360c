-- `refusals::ask_fits` meets its contract: each question is asked where those before it held. Assumes nothing.
use Rattle.std.proofs.Common.{rules}
use Rattle.model.specs.Questions.{fits_refusal, case_questions, refusal}
use Rattle.refusals.proofs.ask_fits.Goals as goal

pub returns-in_err-ask_case : goal.returns-in_err-ask_case
unfolding fits_refusal case_questions refusal
returns-in_err-ask_case c = search rules

pub returns : goal.returns
unfolding fits_refusal case_questions refusal
returns c = search rules
