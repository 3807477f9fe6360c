-- `refusals::ask_paths` meets its contract: each question is asked where those before it held. Assumes nothing.
use Rattle.std.proofs.Common.{rules, sym}
use Rattle.model.specs.Questions.{paths_refusal, case_questions, refusal}
use Rattle.questions.proofs.RefusalLaws.{accepted-whole}
use Rattle.refusals.proofs.ask_paths.Goals as goal

pub new-case-requires : goal.new-case-requires
new-case-requires c = accepted-whole _ (sym c.in_ok-ask_case.ensures)

pub returns-in_err-ask_case : goal.returns-in_err-ask_case
unfolding paths_refusal case_questions refusal
returns-in_err-ask_case c = search rules

pub returns : goal.returns
unfolding paths_refusal case_questions refusal
returns c = search rules
