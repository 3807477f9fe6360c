-- The call's outcome as the model has it.
use Rattle.std.specs.Prelude.{ℕ, ◌+◌, ◌≡◌, List, length, Result, Ok, Err}
use Rattle.model.specs.Lists.{total}
use Rattle.model.specs.Bytes.{Case, written_at_front}
use Rattle.model.specs.Striking.{MinimiseAnswer, MinimiseOutcome, refused_strike, strike_all, struck_bytes}
use Rattle.questions.specs.Refusal.{number_of}
use Rattle.questions.specs.declared.refusal.Refusal.{Refusal}
use Rattle.striking.specs.declared.Minimised.{Minimised}

-- the answer's numbers
abbrev pub numbers_of : Result Minimised Refusal → MinimiseAnswer
numbers_of (Ok m) = record { refused = 0; struck = m.struck; tried = m.tried }
numbers_of (Err r) = refused_strike (number_of r)

-- the answer, the answer buffer afterwards, and the tally before with tried
abbrev pub outcome_of : ℕ → Result Minimised Refusal → List ℕ → MinimiseOutcome
outcome_of tally r after = record { answer = numbers_of r; buffer = after; tally = tally + (numbers_of r).tried }

-- of an accepted case: what the loop comes to, and that it stands at the front of the buffer
pub record Told (c : Case) (limit : ℕ) (before after : List ℕ) (m : Minimised) : Type 0 where
  pub struck : m.struck ≡ length (strike_all c.summary limit c.first).struck
  pub tried : m.tried ≡ total (strike_all c.summary limit c.first).tried
  pub buffer : after ≡ written_at_front (struck_bytes (strike_all c.summary limit c.first)) before
