-- A call that goes to its caller's tally, on all eight, whichever call it is: an accepted call's caller is known and its raised tally fits, so
-- that the caller's own is raised by what was tried; a refused call tried nothing, and the eight are as they were. `number` is the refusal
-- that the questions lead to. Assumes nothing.
use Prim.Native.Nat.{ℕ, ◌+◌, ◌≤◌, ◌<◌, ◌^◌}
use mathlib.Core.Path.{◌≡◌, sym}
use native.Mathlib.Omega.{arith}
use Rattle.model.specs.Limits.{max_tally}
use Rattle.model.proofs.Calls.{by_number}

-- an accepted answer has number 0
pub accepted : (number : ℕ) → ((number ≡ 0 → ⊥) → 0 ≡ number) → number ≡ 0
accepted number f = by_number number (λ z. z) (λ g. sym (f g))

-- what the questions let pass fits
pub raised : (n most tried : ℕ) → n + most ≤ max_tally → tried ≤ most → n + tried < 2 ^ 64
raised n most tried a b = omega arith
