-- Laws of loops over a range: a number that fails a test, and the first that passes one. True by recursion over the range.
-- Assumes nothing.
use Prim.Native.Nat.{ℕ, zero, suc, ◌+◌, ◌≤◌, ◌<◌}
use mathlib.Core.Path.{◌≡◌, refl, ap, ◌∙◌}
use mathlib.Core.Bool.{Bool, true, false, ◌&&◌}
use native.Mathlib.Omega.{arith}
use lib.Dec.{eqb}
use borrow.Author.Tests.{eqb-true, eqb-false}
use Rattle.std.specs.List.{list_all, range_with_len}
use Rattle.model.specs.Lists.{up_from, all_of, first_of}

-- ---- every number passes

-- a range of std's is one of the model's, and so is its test of all
pub all-ranged : (test : ℕ → Bool) (a n : ℕ) → list_all test (range_with_len a n) ≡ all_of test (up_from a n)
unfolding all_of up_from
all-ranged test a zero = refl
all-ranged test a (suc n) =
    let next : a + 1 ≡ suc a = omega arith in
    ap (λ (t : Bool). test a && t) (all-ranged test (a + 1) n ∙ ap (λ (x : ℕ). all_of test (up_from x n)) next) ∙ go (test a) (all_of test (up_from (suc a) n))
  where
    go : (b t : Bool) → (b && t) ≡ elim b [ true ↦ t | false ↦ false ]
    go true t = refl
    go false t = refl

-- ---- the first that passes

first-from : (test : ℕ → Bool) (d a n t : ℕ) → a ≤ t → t < a + n → test t ≡ true → ((j : ℕ) → a ≤ j → j < t → test j ≡ false) → first_of test d (up_from a n) ≡ t
unfolding first_of up_from
first-from test d a zero t h k e none = absurd (omega arith)
first-from test d a (suc n) t h k e none = go (eqb a t) refl (λ l. first-from test d (suc a) n t l (omega arith) e (λ j p q. none j (omega arith) q))
  where
    go : (b : Bool) → eqb a t ≡ b → (suc a ≤ t → first_of test d (up_from (suc a) n) ≡ t) → first_of test d (up_from a (suc n)) ≡ t
    go true q rest = rw (ap test (eqb-true a t q) ∙ e, first_of) (eqb-true a t q)
    go false q rest =
        let ne : a ≡ t → ⊥ = eqb-false a t q in
        let l : suc a ≤ t = omega arith in
        rw (none a (omega arith) l, first_of) (rest l)

-- the first that passes, where those before it fail
pub first-at : (test : ℕ → Bool) (d n t : ℕ) → t < n → test t ≡ true → ((j : ℕ) → j < t → test j ≡ false) → first_of test d (up_from 0 n) ≡ t
first-at test d n t h e none = first-from test d 0 n t (omega arith) (omega arith) e (λ j p q. none j q)
