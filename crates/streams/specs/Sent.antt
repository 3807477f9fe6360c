-- What two streams hold after bytes went to one of them.
use Rattle.std.specs.Prelude.{ℕ, ◌≡◌, ◌≢◌, List, Ok, Err}
use Rattle.std.specs.Borrow.{Bor}
use Rattle.std.specs.declared.option.Option.{Option}
use Rattle.std.specs.declared.result.Result.{Result}
use Rattle.std.specs.Io.KnownBytes.{Appends, Keeps}

-- of standard output and standard error what each held before and after: the one of that number, 1 for standard output, has the bytes
-- too, and the other is as it was
abbrev pub Sent : ℕ → List ℕ → Option (List ℕ) → Option (List ℕ) → Option (List ℕ) → Option (List ℕ) → Type 0
Sent stream bytes output output' errors errors' =
    (stream ≡ 1 → Appends output output' bytes × Keeps errors errors') × (stream ≢ 1 → Keeps output output' × Appends errors errors' bytes)

-- the bytes that are told for one of them
abbrev pub bytes_of : Result (Bor (List ℕ)) (Bor (List ℕ)) → List ℕ
bytes_of (Ok bytes) = bytes.now
bytes_of (Err bytes) = bytes.now
