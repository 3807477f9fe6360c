-- A set of numbers below n as a mask: bit i says whether i is in it, the mask is below 2 ^ n, its set bits are counted by the
-- members, and its trailing zeros give the least one. True digit by digit. Assumes nothing.
use Prim.Native.Nat.{ℕ, zero, suc, ◌+◌, ◌-◌, ◌*◌, ◌/◌, ◌%◌, ◌^◌, ◌≤◌, ◌<◌}
use mathlib.Core.Path.{◌≡◌, refl, sym, ap, ◌∙◌, subst}
use mathlib.Core.Bool.{Bool, true, false}
use native.Mathlib.Omega.{arith}
use native.Mathlib.Nat.{le_trans, div-eq_of_lt, div-one, one-mul, not-suc-le-zero, le_of_suc-le-suc}
use lib.Dec.{eqb, ltb}
use lib.Pow.{pow_mono, shr-shr, high}
use lib.Bits.{block_half, block_odd}
use lib.Count.{ones, ones_cat, count_trailing_zeros, under}
use borrow.Author.Tests.{eq-eqb, ltb-true, ltb-false}
use Rattle.model.specs.Lists.{up_from, keep, has, mask_below, count_below, members}
use Rattle.model.proofs.ListLaws.{up_from-mem}
use Rattle.model.proofs.KeepLaws.{keep-agree, keep-past}

-- ---- digits

pub has-zero : (m : ℕ) → has m 0 ≡ eqb (m % 2) 1
has-zero m = ap (λ (x : ℕ). eqb (x % 2) 1) (div-one m)

pub has-suc : (m i : ℕ) → has m (suc i) ≡ has (m / 2) i
has-suc m i = ap (λ (x : ℕ). eqb (x % 2) 1) (ap (λ (x : ℕ). m / 2 ^ x) (omega arith) ∙ sym (shr-shr m 1 i))

-- a number below 2 ^ i has no bit i
pub has-past : (m i : ℕ) → m < 2 ^ i → has m i ≡ false
has-past m i h = ap (λ (x : ℕ). eqb (x % 2) 1) (div-eq_of_lt h)

-- what stands above bit n does not touch the bits below
has-low : (a m i n : ℕ) → i < n → has (a * 2 ^ n + m) i ≡ has m i
has-low a m i zero h = absurd (not-suc-le-zero h)
has-low a m zero (suc n) h = has-zero (a * 2 ^ suc n + m) ∙ ap (λ (x : ℕ). eqb x 1) (block_odd a n m) ∙ sym (has-zero m)
has-low a m (suc i) (suc n) h =
    has-suc (a * 2 ^ suc n + m) i ∙ ap (λ (x : ℕ). has x i) (block_half a n m) ∙ has-low a (m / 2) i n (le_of_suc-le-suc h) ∙ sym (has-suc m i)

has-top : (m n : ℕ) → m < 2 ^ n → has (1 * 2 ^ n + m) n ≡ true
has-top m n h = ap (λ (x : ℕ). eqb (x % 2) 1) (high 1 n h)

-- ---- masks

pub mask_lt : (test : ℕ → Bool) (n : ℕ) → mask_below test n < 2 ^ n
unfolding mask_below
mask_lt test zero = omega arith
mask_lt test (suc n) = go (test n) (mask_lt test n)
  where
    go : (t : Bool) → mask_below test n < 2 ^ n → (elim t as (λ _. ℕ) [ true ↦ 2 ^ n + mask_below test n | false ↦ mask_below test n ]) < 2 ^ suc n
    go true h = omega arith
    go false h = omega arith

mask_low : (test : ℕ → Bool) (n i : ℕ) → i < n → has (mask_below test (suc n)) i ≡ has (mask_below test n) i
unfolding mask_below
mask_low test n i h = go (test n)
  where
    go : (t : Bool) → has (elim t as (λ _. ℕ) [ true ↦ 2 ^ n + mask_below test n | false ↦ mask_below test n ]) i ≡ has (mask_below test n) i
    go true = ap (λ (x : ℕ). has (x + mask_below test n) i) (sym (one-mul (2 ^ n))) ∙ has-low 1 (mask_below test n) i n h
    go false = refl

mask-top : (test : ℕ → Bool) (n : ℕ) → has (mask_below test (suc n)) n ≡ test n
unfolding mask_below
mask-top test n = go (test n)
  where
    go : (t : Bool) → has (elim t as (λ _. ℕ) [ true ↦ 2 ^ n + mask_below test n | false ↦ mask_below test n ]) n ≡ t
    go true = ap (λ (x : ℕ). has (x + mask_below test n) n) (sym (one-mul (2 ^ n))) ∙ has-top (mask_below test n) n (mask_lt test n)
    go false = has-past (mask_below test n) n (mask_lt test n)

pub mask_below_lem : (test : ℕ → Bool) (n i : ℕ) → i < n → has (mask_below test n) i ≡ test i
mask_below_lem test zero i h = absurd (not-suc-le-zero h)
mask_below_lem test (suc n) i h = go (ltb i n) refl (λ k. mask_below_lem test n i k)
  where
    go : (t : Bool) → ltb i n ≡ t → (i < n → has (mask_below test n) i ≡ test i) → has (mask_below test (suc n)) i ≡ test i
    go true e rest = let k : i < n = ltb-true i n e in mask_low test n i k ∙ rest k
    go false e rest =
        let k : n ≤ i = ltb-false i n e in
        subst (λ (x : ℕ). has (mask_below test (suc n)) x ≡ test x) (omega arith) (mask-top test n)

pub mask-past : (test : ℕ → Bool) (n i : ℕ) → n ≤ i → has (mask_below test n) i ≡ false
mask-past test n i h = has-past (mask_below test n) i (le_trans (mask_lt test n) (pow_mono h))

-- a set with no member has the mask 0
pub mask-none : (test : ℕ → Bool) (n : ℕ) → ((i : ℕ) → i < n → test i ≡ false) → mask_below test n ≡ 0
unfolding mask_below
mask-none test zero h = refl
mask-none test (suc n) h = rw (h n (omega arith), mask_below) (mask-none test n (λ i k. h i (omega arith)))

-- the set bits are counted by the members
pub ones-mask : (test : ℕ → Bool) (n : ℕ) → ones (mask_below test n) ≡ count_below test n
unfolding mask_below count_below ones
ones-mask test zero = refl
ones-mask test (suc n) = go (test n) (ones-mask test n)
  where
    go : (t : Bool) → ones (mask_below test n) ≡ count_below test n
        → ones (elim t as (λ _. ℕ) [ true ↦ 2 ^ n + mask_below test n | false ↦ mask_below test n ]) ≡ elim t as (λ _. ℕ) [ true ↦ suc (count_below test n) | false ↦ count_below test n ]
    go true e =
        let c : ones (1 * 2 ^ n + mask_below test n) ≡ 1 + ones (mask_below test n) = ones_cat n 1 (mask_below test n) (mask_lt test n) in
        ap (λ (x : ℕ). ones (x + mask_below test n)) (sym (one-mul (2 ^ n))) ∙ c ∙ omega arith
    go false e = e

-- ---- trailing zeros

-- below the trailing zeros' count no bit is set
pub trailing_below : (k m j : ℕ) → j < count_trailing_zeros k m → has m j ≡ false
unfolding count_trailing_zeros
trailing_below zero m j h = absurd (not-suc-le-zero h)
trailing_below (suc k) m j h = go (m % 2) j refl h (λ i l. trailing_below k (m / 2) i l)
  where
    go : (d i : ℕ) → m % 2 ≡ d → i < under d (count_trailing_zeros k (m / 2)) → ((l : ℕ) → l < count_trailing_zeros k (m / 2) → has (m / 2) l ≡ false) → has m i ≡ false
    go zero zero e l rest = has-zero m ∙ ap (λ (x : ℕ). eqb x 1) e
    go zero (suc i) e l rest = has-suc m i ∙ rest i (le_of_suc-le-suc l)
    go (suc d) i e l rest = absurd (not-suc-le-zero l)

-- and there is the first one, where one is set at all
pub trailing_at : (k m : ℕ) → count_trailing_zeros k m < k → has m (count_trailing_zeros k m) ≡ true
unfolding count_trailing_zeros
trailing_at zero m h = absurd (not-suc-le-zero h)
trailing_at (suc k) m h = go (m % 2) refl h (λ l. trailing_at k (m / 2) l)
  where
    go : (d : ℕ) → m % 2 ≡ d → under d (count_trailing_zeros k (m / 2)) < suc k → (count_trailing_zeros k (m / 2) < k → has (m / 2) (count_trailing_zeros k (m / 2)) ≡ true)
        → has m (under d (count_trailing_zeros k (m / 2))) ≡ true
    go zero e l rest = has-suc m (count_trailing_zeros k (m / 2)) ∙ rest (le_of_suc-le-suc l)
    go (suc d) e l rest = has-zero m ∙ eq-eqb (m % 2) 1 (omega arith)

-- ---- members

-- the members of the mask of a set are the set's
pub members-mask : (test : ℕ → Bool) (n : ℕ) → n ≤ 64 → members (mask_below test n) ≡ keep test (up_from 0 n)
unfolding members
members-mask test n h =
    let e : 64 ≡ n + (64 - n) = omega arith in
    ap (λ (k : ℕ). keep (has (mask_below test n)) (up_from 0 k)) e
    ∙ keep-past (has (mask_below test n)) 0 n (64 - n) (λ i l. mask-past test n i (omega arith))
    ∙ keep-agree (has (mask_below test n)) test (up_from 0 n) (λ i m. mask_below_lem test n i (let l = up_from-mem 0 n i m in omega arith))
