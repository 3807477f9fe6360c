-- A shortened order in an answer buffer, for a reader of its bytes: a selection's section, and behind it a counted list.
use Rattle.std.specs.Prelude.{ℕ, ◌+◌, ◌*◌, ◌≤◌, List, length, Result, Ok, Err}
use Rattle.model.specs.Limits.{pattern_width}
use Rattle.model.specs.Bytes.{field, pattern_record_at, section, section_end, counted_at}
use Rattle.model.specs.Text.{order_text, refused_text}
use Rattle.questions.specs.Refusal.{number_of}
use Rattle.questions.specs.declared.refusal.Refusal.{Refusal}
use Rattle.striking.specs.declared.Minimised.{Minimised}

-- both stand inside the buffer
pub record OrderHeld (buffer : List ℕ) : Type 0 where
  pub inside : 2 * (section_end pattern_width buffer 0 + 1 + field buffer (section_end pattern_width buffer 0)) ≤ length buffer

-- the text that lists them
abbrev pub text_of : ℕ → List ℕ → List ℕ
text_of tried buffer = order_text tried (section pattern_record_at pattern_width buffer 0) (counted_at buffer (section_end pattern_width buffer 0))

-- the text of an answer and a buffer
abbrev pub told_text : Result Minimised Refusal → List ℕ → List ℕ
told_text (Ok struck) buffer = text_of struck.tried buffer
told_text (Err refusal) buffer = refused_text (number_of refusal)
