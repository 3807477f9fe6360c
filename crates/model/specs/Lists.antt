-- Lists that the other definitions compute with: ranges, tests over lists, sets of numbers as masks.
use Rattle.std.specs.Prelude.{ℕ, zero, suc, ◌+◌, ◌/◌, ◌%◌, ◌^◌, Bool, true, false, eqb}
use mathlib.Core.List.{List, [], ◌∷◌, foldr, Memᴰ}

-- the n numbers from a on, ascending
unfoldable pub up_from : ℕ → ℕ → List ℕ
up_from a zero = []
up_from a (suc n) = a ∷ up_from (suc a) n

module _ {A : Type 0} where
  -- the elements that pass the test, in their order
  unfoldable pub keep : (A → Bool) → List A → List A
  keep test [] = []
  keep test (x ∷ xs) = elim (test x) [ true ↦ x ∷ keep test xs | false ↦ keep test xs ]

  -- some element passes the test
  unfoldable pub any_of : (A → Bool) → List A → Bool
  any_of test [] = false
  any_of test (x ∷ xs) = elim (test x) [ true ↦ true | false ↦ any_of test xs ]

  -- every element passes the test
  unfoldable pub all_of : (A → Bool) → List A → Bool
  all_of test [] = true
  all_of test (x ∷ xs) = elim (test x) [ true ↦ all_of test xs | false ↦ false ]

  -- how many elements pass the test
  unfoldable pub count_of : (A → Bool) → List A → ℕ
  count_of test [] = 0
  count_of test (x ∷ xs) = elim (test x) [ true ↦ suc (count_of test xs) | false ↦ count_of test xs ]

module _ {A : Type 0} (R : A → A → Type 0) where
  -- each element stands in the relation R to every later one
  abbrev pub Ascending : List A → Type 0
  Ascending [] = Unit {0}
  Ascending (x ∷ xs) = ((y : A) → Memᴰ y xs → R x y) × Ascending xs

-- the first number that passes the test, or d where none does
unfoldable pub first_of : (ℕ → Bool) → ℕ → List ℕ → ℕ
first_of test d [] = d
first_of test d (x ∷ xs) = elim (test x) [ true ↦ x | false ↦ first_of test d xs ]

-- the sum of numbers
abbrev pub total : List ℕ → ℕ
total ns = foldr (λ (m n : ℕ). m + n) 0 ns

-- the two lists are equal
unfoldable pub same_list : List ℕ → List ℕ → Bool
same_list [] [] = true
same_list [] (y ∷ ys) = false
same_list (x ∷ xs) [] = false
same_list (x ∷ xs) (y ∷ ys) = elim (eqb x y) [ true ↦ same_list xs ys | false ↦ false ]

-- bit i of the mask m is set
abbrev pub has : ℕ → ℕ → Bool
has m i = eqb (m / 2 ^ i % 2) 1

-- the mask whose bit i, for i below n, says whether i passes the test
unfoldable pub mask_below : (ℕ → Bool) → ℕ → ℕ
mask_below test zero = 0
mask_below test (suc n) = elim (test n) [ true ↦ 2 ^ n + mask_below test n | false ↦ mask_below test n ]

-- how many numbers below n pass the test
unfoldable pub count_below : (ℕ → Bool) → ℕ → ℕ
count_below test zero = 0
count_below test (suc n) = elim (test n) [ true ↦ suc (count_below test n) | false ↦ count_below test n ]

-- the members of a mask of 64 bits, ascending
unfoldable pub members : ℕ → List ℕ
members m = keep (has m) (up_from 0 64)
