-- Tables in rows, filled from the last node to the first: an entry that is right once the rows after its own are, is right when its
-- turn comes, for no later turn writes to it. And what loops come to that multiply counts up to a cap. Assumes nothing.
use Prim.Native.Nat.{ℕ, zero, suc, ◌-◌, ◌*◌, ◌≤◌, ◌<◌, min}
use mathlib.Core.Path.{◌≡◌, refl, sym, ap, ◌∙◌, subst}
use mathlib.Core.Bool.{Bool, true, false}
use mathlib.Core.List.{List, [], ◌∷◌, Memᴰ}
use native.Mathlib.Omega.{arith}
use native.Mathlib.Nat.{mul_assoc, mul-one}
use lib.Dec.{ltb}
use lib.ListN.{length, get_or}
use borrow.Author.Tests.{ltb-true, ltb-false}
use Rattle.model.specs.Lists.{keep}
use Rattle.model.specs.Skipping.{product_of}
use Rattle.model.proofs.WaysLaws.{cap-products}
use Rattle.judging.specs.Blocks.{cell}
use Rattle.judging.specs.Skipping.{fill_rows, loop}

-- ---- rows

module _ (m n : ℕ) (row : ℕ → List ℕ → List ℕ) (E : ℕ → ℕ → ℕ) (same : (c : ℕ) (t : List ℕ) → c < m → length (row c t) ≡ length t)
    (other : (c d y : ℕ) (t : List ℕ) → c < m → y < n → (d ≡ c → ⊥) → get_or (row c t) (cell d y) 0 ≡ get_or t (cell d y) 0)
    (right : (c x : ℕ) (t : List ℕ) → 0 < c → c < m → x < n → 64 * m ≤ length t → ((d y : ℕ) → c < d → d < m → y < n → get_or t (cell d y) 0 ≡ E d y)
    → ((y : ℕ) → y < n → get_or t (cell c y) 0 ≡ 0) → get_or (row c t) (cell c x) 0 ≡ E c x) where
  -- the rows after c are right, and the others are still 0
  record Filled (c : ℕ) (t : List ℕ) : Type 0 where
    long : 64 * m ≤ length t
    after : (d y : ℕ) → c < d → d < m → y < n → get_or t (cell d y) 0 ≡ E d y
    before : (d y : ℕ) → d ≤ c → y < n → get_or t (cell d y) 0 ≡ 0

  filled-step : (c : ℕ) (t : List ℕ) → suc c < m → Filled (suc c) t → Filled c (row (suc c) t)
  filled-step c t h f =
      record {
        long = subst (λ (k : ℕ). 64 * m ≤ k) (sym (same (suc c) t h)) f.long;
        after = λ d y a b k. go d y a b k (ltb (suc c) d) refl;
        before = λ d y a k. other (suc c) d y t h k (λ e. omega arith) ∙ f.before d y (omega arith) k;
      }
    where
      go : (d y : ℕ) → c < d → d < m → y < n → (b : Bool) → ltb (suc c) d ≡ b → get_or (row (suc c) t) (cell d y) 0 ≡ E d y
      go d y a b k true e =
          let i : suc c < d = ltb-true (suc c) d e in
          other (suc c) d y t h k (λ e. omega arith) ∙ f.after d y i b k
      go d y a b k false e =
          let i : d ≤ suc c = ltb-false (suc c) d e in
          let q : suc c ≡ d = omega arith in
          subst (λ (j : ℕ). get_or (row (suc c) t) (cell j y) 0 ≡ E j y) q (right (suc c) y t (omega arith) h k f.long f.after (λ j i. f.before (suc c) j (omega arith) i))

  filled-rows : (c : ℕ) (t : List ℕ) → c < m → Filled c t → Filled 0 (fill_rows row c t)
  unfolding fill_rows
  filled-rows zero t h f = f
  filled-rows (suc c) t h f = filled-rows c (row (suc c) t) (omega arith) (filled-step c t h f)

  -- from the last row on, every entry is right
  pub rows-entries : (t : List ℕ) (c x : ℕ) → 64 * m ≤ length t → ((d y : ℕ) → d < m → y < n → get_or t (cell d y) 0 ≡ 0) → 0 < c → c < m → x < n → get_or (fill_rows row (m - 1) t) (cell c x) 0 ≡ E c x
  rows-entries t c x l s z h k =
      (filled-rows (m - 1) t (omega arith) (record { long = l; after = λ d y a b i. absurd (omega arith); before = λ d y a i. s d y (omega arith) i })).after c x z h k

-- ---- loops

-- what is left out changes nothing
pub loop-keep : (test : ℕ → Bool) (turn : ℕ → ℕ → ℕ) (acc : ℕ) (xs : List ℕ) → loop (λ acc x. elim (test x) as (λ _. ℕ) [ true ↦ turn acc x | false ↦ acc ]) acc xs ≡ loop turn acc (keep test xs)
unfolding loop keep
loop-keep test turn acc [] = refl
loop-keep test turn acc (x ∷ xs) = go (test x) (λ a. loop-keep test turn a xs)
  where
    each : ℕ → ℕ → ℕ
    each acc x = elim (test x) as (λ _. ℕ) [ true ↦ turn acc x | false ↦ acc ]

    go : (b : Bool) → ((a : ℕ) → loop each a xs ≡ loop turn a (keep test xs))
        → loop each (elim b as (λ _. ℕ) [ true ↦ turn acc x | false ↦ acc ]) xs ≡ loop turn acc (elim b as (λ _. List ℕ) [ true ↦ x ∷ keep test xs | false ↦ keep test xs ])
    go true rest = rest (turn acc x)
    go false rest = rest acc

module _ (K : ℕ) (f g : ℕ → ℕ) where
  -- counts multiplied
  pub loop-product : (a : ℕ) (xs : List ℕ) → ((x : ℕ) → Memᴰ x xs → f x ≡ min K (g x)) → loop (λ acc x. min K (acc * f x)) (min K a) xs ≡ min K (a * product_of g xs)
  unfolding loop product_of
  loop-product a [] h = ap (min K) (sym (mul-one a))
  loop-product a (x ∷ xs) h =
      ap (λ (b : ℕ). loop (λ acc x. min K (acc * f x)) b xs) (ap (λ (b : ℕ). min K (min K a * b)) (h x (Memᴰ.head refl)) ∙ cap-products K a (g x))
      ∙ loop-product (a * g x) xs (λ y k. h y (Memᴰ.tail k)) ∙ ap (min K) (mul_assoc a (g x) (product_of g xs))
