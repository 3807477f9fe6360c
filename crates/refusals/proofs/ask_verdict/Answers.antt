-- `refusals::ask_verdict` meets its contract: each question is asked where those before it held. Assumes nothing.
use Rattle.std.proofs.Common.{rules}
use Rattle.model.specs.Questions.{verdict_refusal, case_questions, refusal}
use Rattle.refusals.proofs.ask_verdict.Goals as goal

pub returns-in_err-hold : goal.returns-in_err-hold
unfolding verdict_refusal case_questions refusal
returns-in_err-hold c = search rules

pub returns : goal.returns
unfolding verdict_refusal case_questions refusal
returns c = search rules
