-- The answer of the two calls, and what they leave, as the model has them.
use Rattle.std.specs.Prelude.{ℕ, List, Result, Ok, Err}
use Rattle.model.specs.Calls.{CountAnswer, CountOutcome}
use Rattle.questions.specs.declared.refusal.Refusal.{Refusal}
use Rattle.questions.specs.Refusal.{number_of}

-- a count, or the number of the refusal
abbrev pub count_of : Result ℕ Refusal → CountAnswer
count_of (Ok n) = record { refused = 0; count = n }
count_of (Err r) = record { refused = number_of r; count = 0 }

-- and the answer buffer afterwards
abbrev pub moved_of : Result ℕ Refusal → List ℕ → CountOutcome
moved_of r after = record { answer = count_of r; buffer = after }
