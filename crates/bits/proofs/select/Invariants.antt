use Rattle.std.proofs.Common.{◌≡◌, ℕ, Bool, ◌<◌}
use Rattle.model.specs.Lists.{mask_below}
use Rattle.bits.proofs.select.Given as goal

abbrev pub invariant-loop-i : goal.invariant-loop-i
invariant-loop-i g l =
    (test : ℕ → Bool) → ((i : ℕ) (r : Bool) → i < l.n → goal.F-post g l.passes i r → r ≡ test i) → g.M.Mask.number l.m ≡ mask_below test l.i
