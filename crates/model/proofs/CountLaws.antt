-- Counting what passes a test: by induction on the list, a count that is not 0 has an element, a count of at most 1 has one place, and
-- where each of n numbers stands once, all else that is counted lies beyond them. Assumes nothing.
use Prim.Native.Nat.{ℕ, zero, suc, ◌+◌, ◌≤◌, ◌<◌}
use mathlib.Core.Path.{◌≡◌, refl, sym, ap, ◌∙◌}
use mathlib.Core.Bool.{Bool, true, false}
use mathlib.Core.Logic.{◌⊎◌, inl, inr, ◌≢◌}
use mathlib.Core.List.{List, [], ◌∷◌, ◌++◌}
use native.Mathlib.Omega.{arith}
use native.Mathlib.Nat.{not-suc-le-zero, le_of_suc-le-suc, add-zero, zero-add}
use lib.Dec.{eqb, ltb}
use lib.ListN.{length, get_or}
use borrow.Author.Tests.{eqb-true, eqb-false, ltb-true, ltb-false, ne_eqb, lt-ltb, le-ltb}
use Rattle.model.specs.Lists.{count_of}
use Rattle.model.proofs.ListLaws.{true-or-false}

module _ {A : Type 0} (test : A → Bool) where
  count_yes : (x : A) (xs : List A) → test x ≡ true → count_of test (x ∷ xs) ≡ suc (count_of test xs)
  unfolding count_of
  count_yes x xs y = rw (y, count_of) refl

  count_no : (x : A) (xs : List A) → test x ≡ false → count_of test (x ∷ xs) ≡ count_of test xs
  unfolding count_of
  count_no x xs n = rw (n, count_of) refl

  count-le : (x : A) (xs : List A) → count_of test xs ≤ count_of test (x ∷ xs)
  count-le x xs = go (true-or-false (test x))
    where
      go : (test x ≡ true) ⊎ (test x ≡ false) → count_of test xs ≤ count_of test (x ∷ xs)
      go (inl y) = let e = count_yes x xs y in omega arith
      go (inr n) = let e = count_no x xs n in omega arith

  pub count-append : (xs ys : List A) → count_of test (xs ++ ys) ≡ count_of test xs + count_of test ys
  unfolding count_of
  count-append [] ys = sym (zero-add (count_of test ys))
  count-append (x ∷ xs) ys = go (test x) (count-append xs ys)
    where
      go : (t : Bool) → count_of test (xs ++ ys) ≡ count_of test xs + count_of test ys
          → (elim t as (λ _. ℕ) [ true ↦ suc (count_of test (xs ++ ys)) | false ↦ count_of test (xs ++ ys) ]) ≡ (elim t as (λ _. ℕ) [ true ↦ suc (count_of test xs) | false ↦ count_of test xs ]) + count_of test ys
      go true e = omega arith
      go false e = e

  -- where an element passes, the count is not 0
  pub count-some : (xs : List A) (d : A) (i : ℕ) → i < length xs → test (get_or xs i d) ≡ true → 1 ≤ count_of test xs
  count-some [] d i h y = absurd (not-suc-le-zero h)
  count-some (x ∷ xs) d zero h y = let e = count_yes x xs y in omega arith
  count-some (x ∷ xs) d (suc i) h y =
      let ih : 1 ≤ count_of test xs = count-some xs d i (le_of_suc-le-suc h) y in let l = count-le x xs in omega arith

  -- where the count is not 0, an element passes
  pub some-count : (xs : List A) (d : A) → 1 ≤ count_of test xs → (i : ℕ) × (i < length xs) × (test (get_or xs i d) ≡ true)
  unfolding count_of
  some-count [] d h = absurd (not-suc-le-zero h)
  some-count (x ∷ xs) d h = go (true-or-false (test x)) (λ p. some-count xs d p)
    where
      go : (test x ≡ true) ⊎ (test x ≡ false) → (1 ≤ count_of test xs → (i : ℕ) × (i < length xs) × (test (get_or xs i d) ≡ true))
          → (i : ℕ) × (i < suc (length xs)) × (test (get_or (x ∷ xs) i d) ≡ true)
      go (inl y) rest = (0, omega arith, y)
      go (inr n) rest = let r = rest (let e = count_no x xs n in omega arith) in (suc r.0, (let k = r.1 in omega arith), r.2)

  -- where at most one passes, two places that pass are one
  pub count-once : (xs : List A) (d : A) → count_of test xs ≤ 1 → (i j : ℕ) → i < length xs → j < length xs → test (get_or xs i d) ≡ true → test (get_or xs j d) ≡ true → i ≡ j
  count-once [] d c i j h k y z = absurd (not-suc-le-zero h)
  count-once (x ∷ xs) d c zero zero h k y z = refl
  count-once (x ∷ xs) d c zero (suc j) h k y z =
      let e = count_yes x xs y in let s : 1 ≤ count_of test xs = count-some xs d j (le_of_suc-le-suc k) z in absurd (omega arith)
  count-once (x ∷ xs) d c (suc i) zero h k y z =
      let e = count_yes x xs z in let s : 1 ≤ count_of test xs = count-some xs d i (le_of_suc-le-suc h) y in absurd (omega arith)
  count-once (x ∷ xs) d c (suc i) (suc j) h k y z =
      let l = count-le x xs in ap suc (count-once xs d (omega arith) i j (le_of_suc-le-suc h) (le_of_suc-le-suc k) y z)

-- numbers above a are those that are the next one and those above it
module _ {A : Type 0} (of : A → ℕ) where
  count-above : (a : ℕ) (xs : List A) → count_of (λ x. ltb a (of x)) xs ≡ count_of (λ x. eqb (of x) (suc a)) xs + count_of (λ x. ltb (suc a) (of x)) xs
  unfolding count_of
  count-above a [] = refl
  count-above a (x ∷ xs) = go (true-or-false (ltb a (of x))) (true-or-false (eqb (of x) (suc a))) (count-above a xs)
    where
      above : List A → ℕ
      above ys = count_of (λ y. ltb a (of y)) ys

      next : List A → ℕ
      next ys = count_of (λ y. eqb (of y) (suc a)) ys

      beyond : List A → ℕ
      beyond ys = count_of (λ y. ltb (suc a) (of y)) ys

      go : (ltb a (of x) ≡ true) ⊎ (ltb a (of x) ≡ false) → (eqb (of x) (suc a) ≡ true) ⊎ (eqb (of x) (suc a) ≡ false) → above xs ≡ next xs + beyond xs
          → above (x ∷ xs) ≡ next (x ∷ xs) + beyond (x ∷ xs)
      go (inl y) (inl z) ih =
          let e : of x ≡ suc a = eqb-true (of x) (suc a) z in
          let f : above (x ∷ xs) ≡ suc (above xs) = count_yes (λ v. ltb a (of v)) x xs y in
          let g : next (x ∷ xs) ≡ suc (next xs) = count_yes (λ v. eqb (of v) (suc a)) x xs z in
          let k : beyond (x ∷ xs) ≡ beyond xs = count_no (λ v. ltb (suc a) (of v)) x xs (le-ltb (suc a) (of x) (omega arith)) in
          omega arith
      go (inl y) (inr n) ih =
          let e : of x ≢ suc a = eqb-false (of x) (suc a) n in
          let l : a < of x = ltb-true a (of x) y in
          let f : above (x ∷ xs) ≡ suc (above xs) = count_yes (λ v. ltb a (of v)) x xs y in
          let g : next (x ∷ xs) ≡ next xs = count_no (λ v. eqb (of v) (suc a)) x xs n in
          let k : beyond (x ∷ xs) ≡ suc (beyond xs) = count_yes (λ v. ltb (suc a) (of v)) x xs (lt-ltb (suc a) (of x) (omega arith)) in
          omega arith
      go (inr n) m ih =
          let l : of x ≤ a = ltb-false a (of x) n in
          let f : above (x ∷ xs) ≡ above xs = count_no (λ v. ltb a (of v)) x xs n in
          let g : next (x ∷ xs) ≡ next xs = count_no (λ v. eqb (of v) (suc a)) x xs (ne_eqb (of x) (suc a) (omega arith)) in
          let k : beyond (x ∷ xs) ≡ beyond xs = count_no (λ v. ltb (suc a) (of v)) x xs (le-ltb (suc a) (of x) (omega arith)) in
          omega arith

  -- so where each of the n numbers after a stands once, n of those above a are these, and the others are beyond them
  pub count-beyond : (n a : ℕ) (xs : List A) → ((p : ℕ) → a < p → p ≤ a + n → count_of (λ x. eqb (of x) p) xs ≡ 1)
      → count_of (λ x. ltb a (of x)) xs ≡ n + count_of (λ x. ltb (a + n) (of x)) xs
  count-beyond zero a xs h = ap (λ (m : ℕ). count_of (λ x. ltb m (of x)) xs) (sym (add-zero a)) ∙ sym (zero-add (count_of (λ x. ltb (a + 0) (of x)) xs))
  count-beyond (suc n) a xs h =
      let split = count-above a xs in
      let one : count_of (λ x. eqb (of x) (suc a)) xs ≡ 1 = h (suc a) (omega arith) (omega arith) in
      let ih : count_of (λ x. ltb (suc a) (of x)) xs ≡ n + count_of (λ x. ltb (suc a + n) (of x)) xs = count-beyond n (suc a) xs (λ p l u. h p (omega arith) (omega arith)) in
      let place : suc a + n ≡ a + suc n = omega arith in
      let same : count_of (λ x. ltb (suc a + n) (of x)) xs ≡ count_of (λ x. ltb (a + suc n) (of x)) xs = ap (λ (m : ℕ). count_of (λ x. ltb m (of x)) xs) place in
      omega arith
