-- What is told of the answer of a call that writes a case.
use Rattle.std.specs.Prelude.{ℕ, ◌≡◌, List, Result, Ok, Err}
use Rattle.model.specs.Text.{refused_text}
use Rattle.questions.specs.Refusal.{number_of}
use Rattle.questions.specs.declared.refusal.Refusal.{Refusal}
use Rattle.text.specs.Told.{Filed}

-- of the answer of a call that left `before`: a written case stays as it is, and a refusal's line is written
abbrev pub Answered : Result ℕ Refusal → List ℕ → List ℕ → Result ℕ ℕ → Type 0
Answered (Ok n) before after r = (r ≡ Ok n) × (after ≡ before)
Answered (Err refusal) before after r = Filed (record { stream = 2; bytes = refused_text (number_of refusal) }) before after r
