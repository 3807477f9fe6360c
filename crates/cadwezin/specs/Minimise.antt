-- Striking out with eight lent tallies: its outcome as the model has it.
use Rattle.std.specs.Prelude.{ℕ, List, Result}
use Rattle.model.specs.Calls.{OnEight}
use Rattle.model.specs.Striking.{MinimiseAnswer}
use Rattle.questions.specs.declared.refusal.Refusal.{Refusal}
use Rattle.striking.specs.Outcome.{numbers_of}
use Rattle.striking.specs.declared.Minimised.{Minimised}
use Rattle.cadwezin.specs.declared.Tallies.{Tallies}

-- the answer, and the answer buffer and the tallies afterwards
abbrev pub exported_strikes : Result Minimised Refusal → List ℕ → Tallies → OnEight MinimiseAnswer
exported_strikes r after tallies = record { answer = numbers_of r; buffer = after; tallies = tallies.counts }
