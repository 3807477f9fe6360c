-- The verdict on a case and what it shows.
use Rattle.std.specs.Prelude.{ℕ, ◌≡◌, List}
use Rattle.model.specs.Bytes.{Case, written_at_front}
use Rattle.model.specs.Calls.{shown}
use Rattle.containment.specs.Answer.{answer_of, verdict_of}
use Rattle.containment.specs.declared.Containment.{Containment}

-- the verdict, and what it shows at the front of the buffer
pub record Told (c : Case) (limit : ℕ) (before after : List ℕ) (r : Containment) : Type 0 where
  pub verdict : r ≡ answer_of (verdict_of c limit)
  pub buffer : after ≡ written_at_front (shown c.summary c.first (verdict_of c limit)) before
