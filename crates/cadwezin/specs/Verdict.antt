-- The verdict call with eight lent tallies: its outcome as the model has it.
use Rattle.std.specs.Prelude.{ℕ, List, Result}
use Rattle.model.specs.Calls.{TalliedOutcome}
use Rattle.questions.specs.declared.refusal.Refusal.{Refusal}
use Rattle.containment.specs.declared.Containment.{Containment}
use Rattle.deciding.specs.Outcome.{values_of}
use Rattle.cadwezin.specs.declared.Tallies.{Tallies}

-- the answer, and the answer buffer and the tallies afterwards
abbrev pub exported_outcome : Result Containment Refusal → List ℕ → Tallies → TalliedOutcome
exported_outcome r after tallies = record { answer = values_of r; buffer = after; tallies = tallies.counts }
