-- `refusals::ask_charged` meets its contract: each question is asked where those before it held. Assumes nothing.
use Rattle.std.proofs.Common.{rules}
use Rattle.model.specs.Questions.{case_questions, refusal}
use Rattle.refusals.proofs.ask_charged.Goals as goal

pub returns-in_err-hold : goal.returns-in_err-hold
unfolding case_questions refusal
returns-in_err-hold c = search rules

pub returns-in_err-ask_case : goal.returns-in_err-ask_case
unfolding case_questions refusal
returns-in_err-ask_case c = search rules

pub returns-in_err-hold-2 : goal.returns-in_err-hold-2
unfolding case_questions refusal
returns-in_err-hold-2 c = search rules

pub returns : goal.returns
unfolding case_questions refusal
returns c = search rules
