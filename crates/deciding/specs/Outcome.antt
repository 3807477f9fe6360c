-- The verdict call's outcome as the model has it, with document 01's number and values for each case of the answer.
use Rattle.std.specs.Prelude.{ℕ, ◌+◌, List, Result, Ok, Err}
use Rattle.model.specs.Calls.{VerdictAnswer, refused_answer, included_answer, not_included_answer, stopped_answer, VerdictOutcome}
use Rattle.questions.specs.Refusal.{number_of}
use Rattle.questions.specs.declared.refusal.Refusal.{Refusal}
use Rattle.containment.specs.declared.Containment.{Containment}
use Rattle.containment.specs.declared.Containment.TheVariants.{Contained, NotContained, Stopped}

-- document 01's values of a verdict
abbrev pub verdict_values : Containment → VerdictAnswer
verdict_values (Contained tried) = included_answer tried
verdict_values (NotContained tried) = not_included_answer tried
verdict_values (Stopped tried) = stopped_answer tried

-- document 01's number and values of an answer
abbrev pub values_of : Result Containment Refusal → VerdictAnswer
values_of (Ok verdict) = verdict_values verdict
values_of (Err r) = refused_answer (number_of r)

-- the outcome: the answer's values, the answer buffer afterwards, and the tally before with tried
abbrev pub outcome_of : ℕ → Result Containment Refusal → List ℕ → VerdictOutcome
outcome_of tally answer after = record { answer = values_of answer; buffer = after; tally = tally + (values_of answer).tried }
