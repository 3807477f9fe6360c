-- `refusals::document::ask_document` meets its contract: each question is asked where those before it held. Assumes nothing.
use Rattle.std.proofs.Common.{rules}
use Rattle.model.specs.Questions.{refusal}
use Rattle.questions.proofs.RefusalLaws.{required}
use Rattle.refusals.proofs.DocumentLaws.{kept_whole}
use Rattle.refusals.proofs.document.ask_document.Goals as goal

pub returns-in_err-hold : goal.returns-in_err-hold
unfolding refusal
returns-in_err-hold c = search rules

pub new-requires : goal.new-requires
new-requires c = search (required, kept_whole)

pub returns : goal.returns
unfolding refusal
returns c = search rules
