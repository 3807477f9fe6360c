-- A number that gives a pattern and is not the first pattern's gives a member. Assumes nothing.
use Prim.Native.Nat.{ℕ, ◌+◌, ◌-◌, ◌≤◌, ◌<◌}
use mathlib.Core.Path.{◌≡◌}
use mathlib.Core.Bool.{true}
use native.Mathlib.Omega.{arith}
use lib.ListN.{length}
use Rattle.model.specs.Bytes.{Case}
use Rattle.model.specs.Questions.{pattern_given}
use Rattle.model.proofs.CaseFacts.{between-facts}

module _ (c : Case) (s : ℕ) (g : pattern_given c s ≡ true) (n : s ≡ 1 → ⊥) where
  pub number_least : 2 ≤ s
  unfolding pattern_given
  number_least = let r = between-facts 1 (length c.members + 1) s g in omega arith

  pub number_inside : s - 2 < length c.members
  unfolding pattern_given
  number_inside = let r = between-facts 1 (length c.members + 1) s g in omega arith
