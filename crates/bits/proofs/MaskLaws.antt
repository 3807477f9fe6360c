-- Laws of sets of numbers as masks, over any width. The members of a union, an intersection, a single bit and an insertion go
-- digit by digit; two masks with the same members are equal, so every other law compares members. Assumes nothing.
--
-- A mask m stands for the set f of numbers below n when m ≡ mask_below f n. Of such a mask the model has the rest: ones m is
-- count_below f n (ones-mask), and its trailing zeros give the least member (mask-least).
use Prim.Native.Nat.{ℕ, zero, suc, ◌+◌, ◌*◌, ◌/◌, ◌%◌, ◌^◌, ◌<◌}
use mathlib.Core.Path.{◌≡◌, refl, sym, ap, ap₂, ◌∙◌, subst}
use mathlib.Core.Bool.{Bool, true, false, ◌&&◌, ◌||◌, not, false≢true, true≢false, or-false, or_assoc}
use mathlib.Core.List.{List, [], ◌∷◌, ◌++◌}
use native.Mathlib.Omega.{arith}
use native.Mathlib.Numerals.{add-one}
use native.Mathlib.Nat.{mod-lt, mod-eq_of_lt, div-add-mod', one-mul, zero-lt-suc, lt_of_le_of_lt}
use lib.Arith.{lt-one}
use lib.Dec.{eqb, eqb-suc-suc, eqb-zero-suc, eqb-suc-zero}
use lib.Pow.{pow_pos, pow-lt, shr_lt}
use lib.Bits.{bit_and, bit_or, and_shr, and_mod, and_lt, and_le_l, or_shr, or_mod, or_lt, or_shifted_r, shifted_half, shifted_even}
use borrow.Author.Tests.{eqb-true, eq-eqb}
use Rattle.model.specs.Lists.{up_from, any_of, all_of, mask_below, has}
use Rattle.bits.specs.Sets.{insert_if}
use Rattle.model.proofs.ListLaws.{bool-ext, and_right, all-below, below_all}
use Rattle.model.proofs.Masks.{has-zero, has-suc, has-past, mask_lt, mask_below_lem}

-- ---- members of a mask

-- cases on two digits
by_digits : (P : ℕ → ℕ → Type 0) → P 0 0 → P 0 1 → P 1 0 → P 1 1 → (x y : ℕ) → x < 2 → y < 2 → P x y
by_digits P a b c d zero zero h k = a
by_digits P a b c d zero (suc zero) h k = b
by_digits P a b c d (suc zero) zero h k = c
by_digits P a b c d (suc zero) (suc zero) h k = d
by_digits P a b c d zero (suc (suc y)) h k = absurd (omega arith)
by_digits P a b c d (suc zero) (suc (suc y)) h k = absurd (omega arith)
by_digits P a b c d (suc (suc x)) y h k = absurd (omega arith)

digit_lt : (m : ℕ) → m % 2 < 2
digit_lt m = mod-lt m (zero-lt-suc 1)

-- an operation op on masks that is the operation on, on each digit apart
module _ (op : ℕ → ℕ → ℕ) (on : Bool → Bool → Bool)
    (shr : (a b k : ℕ) → op a b / 2 ^ k ≡ op (a / 2 ^ k) (b / 2 ^ k))
    (low : (a b k : ℕ) → op a b % 2 ^ k ≡ op (a % 2 ^ k) (b % 2 ^ k))
    (digit : (x y : ℕ) → x < 2 → y < 2 → eqb (op x y) 1 ≡ on (eqb x 1) (eqb y 1)) where
  has-op : (a b i : ℕ) → has (op a b) i ≡ on (has a i) (has b i)
  has-op a b i =
      ap (λ (x : ℕ). eqb (x % 2) 1) (shr a b i)
      ∙ ap (λ (x : ℕ). eqb x 1) (low (a / 2 ^ i) (b / 2 ^ i) 1)
      ∙ digit (a / 2 ^ i % 2) (b / 2 ^ i % 2) (digit_lt (a / 2 ^ i)) (digit_lt (b / 2 ^ i))

pub has-or : (a b i : ℕ) → has (bit_or a b) i ≡ (has a i || has b i)
has-or =
    has-op bit_or (λ x y. x || y) or_shr or_mod
    (by_digits (λ x y. eqb (bit_or x y) 1 ≡ (eqb x 1 || eqb y 1)) refl refl refl refl)

pub has-and : (a b i : ℕ) → has (bit_and a b) i ≡ (has a i && has b i)
has-and =
    has-op bit_and (λ x y. x && y) and_shr and_mod
    (by_digits (λ x y. eqb (bit_and x y) 1 ≡ (eqb x 1 && eqb y 1)) refl refl refl refl)

pub has-none : (i : ℕ) → has 0 i ≡ false
has-none i = has-past 0 i (pow_pos i)

-- the mask of j alone
pub has-single : (j i : ℕ) → has (2 ^ j) i ≡ eqb i j
has-single zero zero = refl
has-single zero (suc i) = has-suc 1 i ∙ has-none i ∙ sym (eqb-suc-zero i)
has-single (suc j) zero =
    has-zero (2 ^ suc j) ∙ ap (λ (x : ℕ). eqb (x % 2) 1) (sym (one-mul (2 ^ suc j))) ∙ ap (λ (x : ℕ). eqb x 1) (shifted_even 1 j) ∙ sym (eqb-zero-suc j)
has-single (suc j) (suc i) =
    has-suc (2 ^ suc j) i ∙ ap (λ (x : ℕ). has (x / 2) i) (sym (one-mul (2 ^ suc j))) ∙ ap (λ (x : ℕ). has x i) (shifted_half 1 j ∙ one-mul (2 ^ j))
    ∙ has-single j i ∙ sym (eqb-suc-suc i j)

pub has-insert : (m j i : ℕ) → has (bit_or m (2 ^ j)) i ≡ (has m i || eqb i j)
has-insert m j i = has-or m (2 ^ j) i ∙ ap (λ (b : Bool). has m i || b) (has-single j i)

-- the code's `1 << i` loses nothing below the width w
pub shifted_one : (w i : ℕ) → i < w → (1 * 2 ^ i) % 2 ^ w ≡ 2 ^ i
shifted_one w i h = mod-eq_of_lt (subst (λ (x : ℕ). x < 2 ^ w) (sym (one-mul (2 ^ i))) (pow-lt h)) ∙ one-mul (2 ^ i)

-- ---- masks with the same members are equal

same-digit : (x y : ℕ) → x < 2 → y < 2 → eqb x 1 ≡ eqb y 1 → x ≡ y
same-digit =
    by_digits (λ x y. eqb x 1 ≡ eqb y 1 → x ≡ y) (λ e. refl) (λ e. absurd (false≢true e)) (λ e. absurd (true≢false e)) (λ e. refl)

pub mask-ext : (k a b : ℕ) → a < 2 ^ k → b < 2 ^ k → ((i : ℕ) → i < k → has a i ≡ has b i) → a ≡ b
mask-ext zero a b ha hb same = lt-one ha ∙ sym (lt-one hb)
mask-ext (suc k) a b ha hb same =
    sym (div-add-mod' a 2) ∙ ap₂ (λ (x y : ℕ). x * 2 + y) (mask-ext k (a / 2) (b / 2) (half a ha) (half b hb) halves) digits ∙ div-add-mod' b 2
  where
    half : (m : ℕ) → m < 2 ^ suc k → m / 2 < 2 ^ k
    half m h = shr_lt k 1 (subst (λ (x : ℕ). m < 2 ^ x) (sym (add-one k)) h)

    halves : (i : ℕ) → i < k → has (a / 2) i ≡ has (b / 2) i
    halves i h = sym (has-suc a i) ∙ same (suc i) (omega arith) ∙ has-suc b i

    digits : a % 2 ≡ b % 2
    digits = same-digit (a % 2) (b % 2) (digit_lt a) (digit_lt b) (sym (has-zero a) ∙ same 0 (omega arith) ∙ has-zero b)

-- ---- masks of sets

-- what shows that a mask stands for a set, and that it has the set's members
pub mask-of : (f : ℕ → Bool) (n m : ℕ) → m < 2 ^ n → ((i : ℕ) → i < n → has m i ≡ f i) → m ≡ mask_below f n
mask-of f n m h same = mask-ext n m (mask_below f n) h (mask_lt f n) (λ i k. same i k ∙ sym (mask_below_lem f n i k))

pub mask-has : (f : ℕ → Bool) (n m : ℕ) → m ≡ mask_below f n → (i : ℕ) → i < n → has m i ≡ f i
mask-has f n m e i h = ap (λ (x : ℕ). has x i) e ∙ mask_below_lem f n i h

-- each number below 2 ^ n is the mask of its own members
pub mask-self : (n m : ℕ) → m < 2 ^ n → m ≡ mask_below (has m) n
mask-self n m h = mask-of (has m) n m h (λ i k. refl)

module _ (f g : ℕ → Bool) (n : ℕ) where
  pub mask-agree : ((i : ℕ) → i < n → f i ≡ g i) → mask_below f n ≡ mask_below g n
  mask-agree same = mask-of g n (mask_below f n) (mask_lt f n) (λ i h. mask_below_lem f n i h ∙ same i h)

  -- an operation on masks is the operation on sets
  module _ (op : ℕ → ℕ → ℕ) (on : Bool → Bool → Bool)
      (bound : (k a b : ℕ) → a < 2 ^ k → b < 2 ^ k → op a b < 2 ^ k)
      (members : (a b i : ℕ) → has (op a b) i ≡ on (has a i) (has b i)) where
    mask-op : op (mask_below f n) (mask_below g n) ≡ mask_below (λ i. on (f i) (g i)) n
    mask-op =
        mask-of (λ i. on (f i) (g i)) n (op (mask_below f n) (mask_below g n)) (bound n (mask_below f n) (mask_below g n) (mask_lt f n) (mask_lt g n))
        (λ i h. members (mask_below f n) (mask_below g n) i ∙ ap₂ on (mask_below_lem f n i h) (mask_below_lem g n i h))

  pub mask-or : bit_or (mask_below f n) (mask_below g n) ≡ mask_below (λ i. f i || g i) n
  mask-or = mask-op bit_or (λ x y. x || y) or_lt has-or

  pub mask-and : bit_and (mask_below f n) (mask_below g n) ≡ mask_below (λ i. f i && g i) n
  mask-and = mask-op bit_and (λ x y. x && y) and_lt has-and

pub mask-single : (n j : ℕ) → j < n → 2 ^ j ≡ mask_below (λ i. eqb i j) n
mask-single n j h = mask-of (λ i. eqb i j) n (2 ^ j) (pow-lt h) (λ i k. has-single j i)

pub mask-insert : (f : ℕ → Bool) (n j : ℕ) → j < n → bit_or (mask_below f n) (2 ^ j) ≡ mask_below (λ i. f i || eqb i j) n
mask-insert f n j h = ap (bit_or (mask_below f n)) (mask-single n j h) ∙ mask-or f (λ i. eqb i j) n

-- ---- a loop that inserts what passes a test

module _ (test : ℕ → Bool) where
  -- upwards: m holds what passes of the numbers before n
  pub mask_start : mask_below test 0 ≡ 0
  unfolding mask_below
  mask_start = refl

  pub insert-next : (n : ℕ) → bit_or (mask_below test n) (2 ^ n) ≡ 2 ^ n + mask_below test n
  insert-next n = subst (λ (x : ℕ). bit_or (mask_below test n) x ≡ x + mask_below test n) (one-mul (2 ^ n)) (or_shifted_r 1 n (mask_below test n) (mask_lt test n))

  pub mask-step-in : (n m : ℕ) → m ≡ mask_below test n → test n ≡ true → bit_or m (2 ^ n) ≡ mask_below test (n + 1)
  unfolding mask_below
  mask-step-in n m e t = rw (add-one, t, mask_below) (ap (λ (x : ℕ). bit_or x (2 ^ n)) e ∙ insert-next n)

  pub mask-step-out : (n m : ℕ) → m ≡ mask_below test n → test n ≡ false → m ≡ mask_below test (n + 1)
  unfolding mask_below
  mask-step-out n m e t = rw (add-one, t, mask_below) e

  -- the two steps as one, where t is the test's value
  pub mask_step : (n m : ℕ) (t : Bool) → m ≡ mask_below test n → t ≡ test n → insert_if t m n ≡ mask_below test (n + 1)
  unfolding insert_if
  mask_step n m true e q = mask-step-in n m e (sym q)
  mask_step n m false e q = mask-step-out n m e (sym q)

-- ---- subsets

pub subset-members : (a b : ℕ) → bit_and a b ≡ a → (i : ℕ) → has a i ≡ true → has b i ≡ true
subset-members a b e i h = and_right (has a i) (has b i) (sym (has-and a b i) ∙ ap (λ (x : ℕ). has x i) e ∙ h)

pub members-subset : (k a b : ℕ) → a < 2 ^ k → ((i : ℕ) → i < k → has a i ≡ true → has b i ≡ true) → bit_and a b ≡ a
members-subset k a b h sub = mask-ext k (bit_and a b) a (lt_of_le_of_lt (and_le_l a b) h) h (λ i l. has-and a b i ∙ absorbed (has a i) (has b i) (sub i l))
  where
    absorbed : (x y : Bool) → (x ≡ true → y ≡ true) → (x && y) ≡ x
    absorbed true y f = f refl
    absorbed false y f = refl

-- the test of masks is the test of every number below n, where b's members below n are those of g
pub subset-all : (f g : ℕ → Bool) (n b : ℕ) → ((i : ℕ) → i < n → has b i ≡ g i)
    → eqb (bit_and (mask_below f n) b) (mask_below f n) ≡ all_of (λ i. not (f i) || g i) (up_from 0 n)
subset-all f g n b same = bool-ext (eqb (bit_and a b) a) (all_of each (up_from 0 n)) there back
  where
    a : ℕ
    a = mask_below f n

    each : ℕ → Bool
    each i = not (f i) || g i

    implied : (x y : Bool) → (x ≡ true → y ≡ true) → (not x || y) ≡ true
    implied true y h = h refl
    implied false y h = refl

    implies : (x y : Bool) → (not x || y) ≡ true → x ≡ true → y ≡ true
    implies true y h e = h
    implies false y h e = absurd (false≢true e)

    there : eqb (bit_and a b) a ≡ true → all_of each (up_from 0 n) ≡ true
    there e =
        below_all each n (λ i h. implied (f i) (g i) (λ p.
        sym (same i h) ∙ subset-members a b (eqb-true (bit_and a b) a e) i (mask_below_lem f n i h ∙ p)))

    back : all_of each (up_from 0 n) ≡ true → eqb (bit_and a b) a ≡ true
    back e =
        eq-eqb (bit_and a b) a (members-subset n a b (mask_lt f n) (λ i h p.
        same i h ∙ implies (f i) (g i) (all-below each n e i h) (sym (mask_below_lem f n i h) ∙ p)))

-- ---- unions over a list

module _ {A : Type 0} where
  pub any-cons : (test : A → Bool) (x : A) (xs : List A) → any_of test (x ∷ xs) ≡ (test x || any_of test xs)
  unfolding any_of
  any-cons test x xs = go (test x)
    where
      go : (t : Bool) → (elim t as (λ _. Bool) [ true ↦ true | false ↦ any_of test xs ]) ≡ (t || any_of test xs)
      go true = refl
      go false = refl

  pub any_snoc : (test : A → Bool) (xs : List A) (x : A) → any_of test (xs ++ x ∷ []) ≡ (any_of test xs || test x)
  unfolding any_of
  any_snoc test [] x = any-cons test x [] ∙ or-false (test x)
  any_snoc test (y ∷ ys) x =
      any-cons test y (ys ++ x ∷ []) ∙ ap (λ (b : Bool). test y || b) (any_snoc test ys x)
      ∙ sym (or_assoc (test y) (any_of test ys) (test x)) ∙ ap (λ (b : Bool). b || test x) (sym (any-cons test y ys))
