-- `normalising::ask_normalise` meets its contract: the case's questions are asked where the buffer's held. Assumes nothing.
use Rattle.std.proofs.Common.{rules}
use Rattle.model.specs.Questions.{refusal}
use Rattle.model.specs.Normal.{normalise_refusal}
use Rattle.questions.proofs.RefusalLaws.{asked-yes}
use Rattle.normalising.proofs.ask_normalise.Goals as goal

pub returns-in_err-hold : goal.returns-in_err-hold
unfolding normalise_refusal refusal
returns-in_err-hold c = search rules

pub returns : goal.returns
unfolding normalise_refusal
returns c = asked-yes _ 2 _ _ _ _ c.in_ok-hold.ensures c.buffer_large_enough.ensures c.ask_case.ensures
