-- `questions::ask_case` meets its contract: each question is asked where all before it held. Assumes nothing.
use Rattle.std.proofs.Common.{rules}
use Rattle.model.specs.Questions.{case_questions, refusal}
use Rattle.questions.proofs.RefusalLaws.{required}
use Rattle.questions.proofs.ask_case.Goals as goal

pub new-case-requires : goal.new-case-requires
new-case-requires c = search required

pub returns-in_err-hold : goal.returns-in_err-hold
unfolding case_questions refusal
returns-in_err-hold c = search rules

pub returns-in_err-hold-2 : goal.returns-in_err-hold-2
unfolding case_questions refusal
returns-in_err-hold-2 c = search rules

pub returns-in_err-hold-3 : goal.returns-in_err-hold-3
unfolding case_questions refusal
returns-in_err-hold-3 c = search rules

pub returns-in_err-hold-4 : goal.returns-in_err-hold-4
unfolding case_questions refusal
returns-in_err-hold-4 c = search rules

pub returns-in_err-hold-5 : goal.returns-in_err-hold-5
unfolding case_questions refusal
returns-in_err-hold-5 c = search rules

pub returns-in_err-hold-6 : goal.returns-in_err-hold-6
unfolding case_questions refusal
returns-in_err-hold-6 c = search rules

pub returns-in_err-hold-7 : goal.returns-in_err-hold-7
unfolding case_questions refusal
returns-in_err-hold-7 c = search rules

pub returns : goal.returns
unfolding case_questions refusal
returns c = search rules
