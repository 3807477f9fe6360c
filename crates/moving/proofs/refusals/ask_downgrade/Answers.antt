-- `moving::refusals::ask_downgrade` meets its contract: each question is asked where all before it held. Assumes nothing.
use Rattle.std.proofs.Common.{refl, ap, ◌∙◌, rules}
use Rattle.model.specs.Questions.{refusal}
use Rattle.model.specs.Moving.{goes_back, downgrade_refusal}
use Rattle.questions.proofs.RefusalLaws.{asked-yes, asked-last, case-no, case-yes, required}
use Rattle.moving.proofs.refusals.ask_downgrade.Goals as goal

pub returns-in_err-hold : goal.returns-in_err-hold
unfolding downgrade_refusal refusal
returns-in_err-hold c = search rules

pub returns-in_err-ask_case : goal.returns-in_err-ask_case
unfolding downgrade_refusal
returns-in_err-ask_case c =
    asked-yes _ 2 _ _ _ _ c.in_ok-hold.ensures c.buffer_large_enough.ensures (case-no _ _ _ _ c.in_err-ask_case.ensures c.from_residual-in_err-ask_case.ensures.1)

pub new-requires : goal.new-requires
new-requires c = search required

pub returns : goal.returns
unfolding downgrade_refusal
returns c =
    asked-yes _ 2 _ _ _ _ c.in_ok-hold.ensures c.buffer_large_enough.ensures
    (case-yes _ _ _ c.in_ok-ask_case.ensures (asked-last _ _ 15 _ _ c.hold-2.ensures (c.goes_back.ensures ∙ ap goes_back c.new.ensures) refl))
