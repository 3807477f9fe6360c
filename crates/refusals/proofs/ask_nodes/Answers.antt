-- `refusals::ask_nodes` meets its contract: each question is asked where those before it held. Assumes nothing.
use Rattle.std.proofs.Common.{rules}
use Rattle.model.specs.Questions.{nodes_refusal, fits_refusal, case_questions, refusal}
use Rattle.questions.proofs.RefusalLaws.{asked-yes}
use Rattle.refusals.proofs.DocumentLaws.{fits-no, given-case}
use Rattle.refusals.proofs.ask_nodes.Goals as goal

pub new-case-requires : goal.new-case-requires
new-case-requires c = given-case _ _ c.in_ok-ask_fits.ensures

pub returns-in_err-hold : goal.returns-in_err-hold
unfolding nodes_refusal fits_refusal case_questions refusal
returns-in_err-hold c = search rules

pub returns-in_err-ask_fits : goal.returns-in_err-ask_fits
unfolding nodes_refusal
returns-in_err-ask_fits c =
    asked-yes _ _ _ _ _ _ c.in_ok-hold.ensures c.buffer_large_enough.ensures (fits-no _ _ _ _ _ c.in_err-ask_fits.ensures c.from_residual-in_err-ask_fits.ensures.1)

pub returns : goal.returns
unfolding nodes_refusal fits_refusal case_questions refusal
returns c = search rules
