-- A loop that takes a mask's first member off comes to an end. Assumes nothing.
use Prim.Native.Nat.{ℕ, ◌-◌, ◌^◌, ◌≤◌, ◌<◌}
use mathlib.Core.Path.{◌≡◌}
use native.Mathlib.Omega.{arith}
use lib.Pow.{pow_pos}
use lib.Count.{count_trailing_zeros}
use Rattle.bits.proofs.MaskMembers.{first-room}

module _ {rest v : ℕ} (w : rest < 2 ^ 64) (ne : rest ≡ 0 → ⊥) (p : v ≡ count_trailing_zeros 64 rest) where
  -- the loop ends: what is left of the mask is less
  pub rest-less : {rest' : ℕ} → rest' ≡ rest - 2 ^ v → rest' < rest
  rest-less {rest'} e =
      let l : (v < 64) × (2 ^ v ≤ rest) = first-room w ne p in
      let k : 0 < 2 ^ v = pow_pos v in
      omega arith
