-- A list tested element by element: one that is made of a range, and how many of the first elements pass.
-- Assumes nothing.
use Prim.Native.Nat.{ℕ, suc, ◌+◌, ◌<◌}
use mathlib.Core.Path.{◌≡◌, refl, ap}
use mathlib.Core.Bool.{Bool, true, false}
use mathlib.Core.List.{List, [], ◌∷◌, ◌++◌, map}
use native.Mathlib.Omega.{arith}
use native.Mathlib.Numerals.{add-one}
use lib.ListN.{length, get_or, take}
use lib.Seq.{take-suc}
use Rattle.model.specs.Lists.{all_of, count_of}

-- a list made of a range is tested number by number
pub all_map : {A : Type 0} (test : A → Bool) (f : ℕ → A) (xs : List ℕ) → all_of test (map f xs) ≡ all_of (λ i. test (f i)) xs
unfolding all_of
all_map test f [] = refl
all_map test f (x ∷ xs) = ap (λ (t : Bool). elim (test (f x)) as (λ _. Bool) [ true ↦ t | false ↦ false ]) (all_map test f xs)

-- ---- how many pass

module _ {A : Type 0} (test : A → Bool) where
  count-after : (xs : List A) (x : A) (t : Bool) → test x ≡ t → count_of test (xs ++ x ∷ []) ≡ count_of test xs + (elim t as (λ _. ℕ) [ true ↦ 1 | false ↦ 0 ])
  unfolding count_of
  count-after [] x true e = rw (e, count_of) refl
  count-after [] x false e = rw (e, count_of) refl
  count-after (y ∷ ys) x t e = go (test y) (count-after ys x t e)
    where
      more : ℕ
      more = elim t as (λ _. ℕ) [ true ↦ 1 | false ↦ 0 ]

      with_first : Bool → ℕ → ℕ
      with_first s n = elim s as (λ _. ℕ) [ true ↦ suc n | false ↦ n ]

      go : (s : Bool) → count_of test (ys ++ x ∷ []) ≡ count_of test ys + more → with_first s (count_of test (ys ++ x ∷ [])) ≡ with_first s (count_of test ys) + more
      go true ih = omega arith
      go false ih = ih

module _ {A : Type 0} (test : A → Bool) (xs : List A) where
  pub count-more : (d : A) (i : ℕ) (t : Bool) → i < length xs → test (get_or xs i d) ≡ t → count_of test (take (i + 1) xs) ≡ count_of test (take i xs) + (elim t as (λ _. ℕ) [ true ↦ 1 | false ↦ 0 ])
  count-more d i t h e = rw (add-one i, take-suc xs i d h) (count-after test (take i xs) (get_or xs i d) t e)
