-- The calls' answers, and what they leave, as the model has them: a refusal holds its number and zero in every other field, and else the
-- number is 0.
use Rattle.std.specs.Prelude.{ℕ, Bool, true, false, List, replicate, Result, Ok, Err}
use Rattle.model.specs.Calls as model
use Rattle.questions.specs.Refusal.{number_of}
use Rattle.questions.specs.declared.refusal.Refusal.{Refusal}
use Rattle.calls.specs.declared.paths.Paths.{Paths}

-- yes or no
abbrev pub test_of : Result Bool Refusal → model.TestAnswer
test_of (Ok holds) = record { refused = 0; holds = elim holds as (λ _. ℕ) [ true ↦ 1 | false ↦ 0 ] }
test_of (Err r) = record { refused = number_of r; holds = 0 }

-- a count
abbrev pub counted_of : Result ℕ Refusal → model.CountAnswer
counted_of (Ok count) = record { refused = 0; count = count }
counted_of (Err r) = record { refused = number_of r; count = 0 }

-- a count, and the answer buffer afterwards
abbrev pub nodes_of : Result ℕ Refusal → List ℕ → model.CountOutcome
nodes_of r after = record { answer = counted_of r; buffer = after }

-- masks and counts
abbrev pub paths_of : Result Paths Refusal → model.PathsAnswer
paths_of (Ok p) = record { refused = 0; masks = p.masks; counts = p.counts }
paths_of (Err r) = record { refused = number_of r; masks = replicate 16 0; counts = replicate 16 0 }
