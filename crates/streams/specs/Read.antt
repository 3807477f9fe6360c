-- What reading gave.
use Rattle.std.specs.Prelude.{ℕ, Ok, Err}
use Rattle.std.specs.declared.result.Result.{Result}
use Rattle.streams.specs.declared.trouble.Cut.{Cut}

-- how many bytes were read, where a read failed too
abbrev pub count_of : Result ℕ Cut → ℕ
count_of (Ok n) = n
count_of (Err cut) = cut.count
