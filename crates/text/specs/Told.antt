-- What a program that writes a case tells: how many bytes at the front of an array are for standard output, Ok, or for standard error, Err.
use Rattle.std.specs.Prelude.{ℕ, ◌≡◌, List, length, Result, Ok, Err}
use Rattle.model.specs.Bytes.{written_at_front}
use Rattle.model.specs.Text as model

-- the stream: 1 is standard output, 2 standard error
abbrev pub stream_of : {A B : Type 0} → Result A B → ℕ
stream_of (Ok x) = 1
stream_of (Err x) = 2

-- how many bytes
abbrev pub count_of : Result ℕ ℕ → ℕ
count_of (Ok n) = n
count_of (Err n) = n

-- the whole array afterwards, and how many of its bytes go where
pub record Filed (t : model.Told) (before after : List ℕ) (r : Result ℕ ℕ) : Type 0 where
  pub stream : stream_of r ≡ t.stream
  pub counted : count_of r ≡ length t.bytes
  pub bytes : after ≡ written_at_front t.bytes before
