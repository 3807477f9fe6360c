-- `refusals::ask_layout` meets its contract: each question is asked where those before it held. Assumes nothing.
use Rattle.std.proofs.Common.{rules, sym}
use Rattle.model.specs.Questions.{layout_refusal, case_questions, refusal}
use Rattle.model.proofs.CaseFacts.{accepted-case}
use Rattle.questions.proofs.RefusalLaws.{accepted-whole, test_held}
use Rattle.refusals.proofs.ask_layout.Goals as goal

pub returns-in_err-hold : goal.returns-in_err-hold
unfolding layout_refusal case_questions refusal
returns-in_err-hold c = search rules

pub returns-in_err-ask_case : goal.returns-in_err-ask_case
unfolding layout_refusal case_questions refusal
returns-in_err-ask_case c = search rules

pub new-case-requires : goal.new-case-requires
new-case-requires c = accepted-whole _ (sym c.in_ok-ask_case.ensures)

pub returns-in_err-hold-2 : goal.returns-in_err-hold-2
unfolding layout_refusal case_questions refusal
returns-in_err-hold-2 c = search rules

pub is_embedding_list-requires : goal.is_embedding_list-requires
is_embedding_list-requires c =
    record {
      case_facts = rw c.new-case.ensures (accepted-case _ (sym c.in_ok-ask_case.ensures));
      number_given = test_held _ _ _ c.in_ok-hold-2.ensures c.pattern_given.ensures;
    }

pub returns : goal.returns
unfolding layout_refusal case_questions refusal
returns c = search rules
