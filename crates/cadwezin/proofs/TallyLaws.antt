-- Of the eight tallies, a caller's: what the code reads, or 0 of a caller above 7, is the tally that the model takes; and a tally raised by
-- 0 is as it was. Assumes nothing.
use mathlib.Core.Path.{◌≡◌, sym, ◌∙◌, ap}
use Prim.Native.Nat.{ℕ, ◌+◌, ◌≤◌}
use native.Mathlib.Omega.{arith}
use mathlib.Core.List.{List}
use lib.ListN.{length, get_or, set, get_or-eq_default}
use lib.Seq.{set-get_or}
use Rattle.model.specs.Limits.{callers}
use Rattle.model.specs.Calls.{tally_of}

module _ (tallies : List ℕ) (size : length tallies ≡ callers) (caller : ℕ) where
  -- above 7 the tally is 0
  pub none_read : callers ≤ caller → 0 ≡ tally_of tallies caller
  none_read above = sym (get_or-eq_default tallies 0 {n = caller} (omega arith))

-- a tally raised by 0 is as it was
pub raised-none : (ts : List ℕ) (i m : ℕ) → m ≡ 0 → set ts i (get_or ts i 0 + m) ≡ ts
raised-none ts i m e = let same : get_or ts i 0 + m ≡ get_or ts i 0 = omega arith in ap (set ts i) same ∙ set-get_or ts i 0
