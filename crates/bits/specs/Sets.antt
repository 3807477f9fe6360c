-- Operations on masks that the model has no name for.
use Rattle.std.specs.Prelude.{ℕ, ◌^◌, Bool, true, false}
use Rattle.std.specs.Int.Bits.{bit_or}

-- the mask with i put in, where t says so
unfoldable pub insert_if : Bool → ℕ → ℕ → ℕ
insert_if true m i = bit_or m (2 ^ i)
insert_if false m i = m
