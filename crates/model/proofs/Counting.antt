-- Counting: no more numbers than places, and pairs of small numbers as one number. Assumes nothing.
use Prim.Native.Nat.{ℕ, zero, suc, ◌+◌, ◌*◌, ◌≤◌, ◌<◌}
use mathlib.Core.Path.{◌≡◌, refl, sym, ◌∙◌}
use mathlib.Core.Bool.{Bool, true, false}
use native.Mathlib.Omega.{arith}
use native.Mathlib.Nat.{suc-mul, mul-le-mul_right}
use lib.Dec.{eqb, ltb}
use borrow.Author.Tests.{eqb-true, eqb-false, ltb-true, ltb-false}

-- the place of i once place m is taken away and what stood there moves to c
moved : (ℕ → ℕ) → ℕ → ℕ → ℕ → ℕ
moved f m c i = elim (eqb (f i) m) [ true ↦ c | false ↦ f i ]

-- where i moves, and why
moved-cases : (f : ℕ → ℕ) (m c i : ℕ) (F : ℕ → Type 0) → (f i ≡ m → F c) → ((f i ≡ m → ⊥) → F (f i)) → F (moved f m c i)
unfolding moved
moved-cases f m c i F yes-case no-case = go (eqb (f i) m) refl
  where
    go : (t : Bool) → eqb (f i) m ≡ t → F (elim t as (λ _. ℕ) [ true ↦ c | false ↦ f i ])
    go true e = yes-case (eqb-true (f i) m e)
    go false e = no-case (eqb-false (f i) m e)

-- n numbers with a place of their own each among m places: n is at most m
pub pigeonhole : (n m : ℕ) (f : ℕ → ℕ) → ((i : ℕ) → i < n → f i < m) → ((i j : ℕ) → i < n → j < n → f i ≡ f j → i ≡ j) → n ≤ m
pigeonhole zero m f inside injective = omega arith
pigeonhole (suc n) zero f inside injective = let h : f 0 < 0 = inside 0 (omega arith) in absurd (omega arith)
pigeonhole (suc n) (suc m) f inside injective =
    let h : n ≤ m = pigeonhole n m (moved f m (f n)) inside' injective' in
    omega arith
  where
    other : (i : ℕ) → i < n → f i ≡ f n → ⊥
    other i h e = let k : i ≡ n = injective i n (omega arith) (omega arith) e in omega arith

    inside' : (i : ℕ) → i < n → moved f m (f n) i < m
    inside' i h =
        moved-cases f m (f n) i (λ x. x < m)
        (λ e. let k : f n < suc m = inside n (omega arith) in let ne : f i ≡ f n → ⊥ = other i h in lower k (λ q. ne (e ∙ sym q)))
        (λ ne. let k : f i < suc m = inside i (omega arith) in lower k ne)
      where
        lower : {x : ℕ} → x < suc m → (x ≡ m → ⊥) → x < m
        lower {x} k ne = omega arith

    injective' : (i j : ℕ) → i < n → j < n → moved f m (f n) i ≡ moved f m (f n) j → i ≡ j
    injective' i j h k =
        moved-cases f m (f n) i (λ x. x ≡ moved f m (f n) j → i ≡ j)
        (λ p. moved-cases f m (f n) j (λ y. f n ≡ y → i ≡ j) (λ q e. injective i j (omega arith) (omega arith) (p ∙ sym q)) (λ q e. absurd (other j k (sym e))))
        (λ p. moved-cases f m (f n) j (λ y. f i ≡ y → i ≡ j) (λ q e. absurd (other i h e)) (λ q e. injective i j (omega arith) (omega arith) e))

-- a pair (o, a) with a below k is told by o * k + a
pub pair-below : (k o p a : ℕ) → a < k → o < p → o * k + a < p * k
pair-below k o p a h l =
    let r : suc o * k ≤ p * k = mul-le-mul_right k l in
    let s : suc o * k ≡ o * k + k = suc-mul o k in
    omega arith

pub pair-first : (k o p a b : ℕ) → a < k → b < k → o * k + a ≡ p * k + b → o ≡ p
pair-first k o p a b h l e = go (ltb o p) (ltb p o) refl refl
  where
    go : (s t : Bool) → ltb o p ≡ s → ltb p o ≡ t → o ≡ p
    go true t x y = let r : o * k + a < p * k = pair-below k o p a h (ltb-true o p x) in absurd (omega arith)
    go false true x y = let r : p * k + b < o * k = pair-below k p o b l (ltb-true p o y) in absurd (omega arith)
    go false false x y = let r = ltb-false o p x in let s = ltb-false p o y in omega arith
