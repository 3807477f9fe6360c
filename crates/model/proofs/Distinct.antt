-- Lists that repeat nothing, and how long they are: a list whose elements go one by one into another, no two to one, is no longer than it, and
-- what a test counts is how many places pass. Assumes nothing.
use Prim.Native.Nat.{ℕ, zero, suc, ◌+◌, ◌≤◌, ◌<◌}
use mathlib.Core.Path.{◌≡◌, refl, sym, ap, ◌∙◌, subst}
use mathlib.Core.Bool.{Bool, true, false, true≢false}
use mathlib.Core.List.{List, [], ◌∷◌, Memᴰ}
use native.Mathlib.Omega.{arith}
use native.Mathlib.Nat.{not-suc-le-zero, le_of_suc-le-suc, add-zero, zero-add}
use lib.Dec.{ltb}
use lib.ListN.{length, get_or}
use borrow.Author.Tests.{ltb-true, ltb-false}
use Rattle.model.specs.Lists.{up_from, keep, count_of, Ascending}
use Rattle.model.proofs.ListLaws.{mem-at, at_mem, up_from-mem, mem-up_from, keep-intro, keep-elim}
use Rattle.model.proofs.Ascending.{ascending-keep, ascending-up_from}
use Rattle.model.proofs.Counting.{pigeonhole}

-- no element stands at two places
abbrev pub Distinct : {A : Type 0} → A → List A → Type 0
Distinct d xs = (i j : ℕ) → i < length xs → j < length xs → get_or xs i d ≡ get_or xs j d → i ≡ j

-- what ascends in a relation that nothing has to itself repeats nothing
module _ {A : Type 0} (R : A → A → Type 0) (never : (x : A) → R x x → ⊥) where
  pub ascending-distinct : (d : A) (xs : List A) → Ascending R xs → Distinct d xs
  ascending-distinct d [] a i j h k e = absurd (not-suc-le-zero h)
  ascending-distinct d (x ∷ xs) a zero zero h k e = refl
  ascending-distinct d (x ∷ xs) a zero (suc j) h k e =
      absurd (never x (subst (R x) (sym e) (a.0 (get_or xs j d) (mem-at xs j d (le_of_suc-le-suc k)))))
  ascending-distinct d (x ∷ xs) a (suc i) zero h k e =
      absurd (never x (subst (R x) e (a.0 (get_or xs i d) (mem-at xs i d (le_of_suc-le-suc h)))))
  ascending-distinct d (x ∷ xs) a (suc i) (suc j) h k e = ap suc (ascending-distinct d xs a.1 i j (le_of_suc-le-suc h) (le_of_suc-le-suc k) e)

-- elements that repeat nothing go to elements of another list, no two to one
module _ {A B : Type 0} (a : A) (b : B) (xs : List A) (ys : List B) (f : A → B) (lands : (x : A) → Memᴰ x xs → Memᴰ (f x) ys) where
  -- the place in the other list
  place : (i : ℕ) (t : Bool) → ltb i (length xs) ≡ t → ℕ
  place i true e = (at_mem ys (f (get_or xs i a)) b (lands (get_or xs i a) (mem-at xs i a (ltb-true i (length xs) e)))).0
  place i false e = 0

  placed : (i : ℕ) → i < length xs → (t : Bool) (e : ltb i (length xs) ≡ t) → (place i t e < length ys) × (get_or ys (place i t e) b ≡ f (get_or xs i a))
  unfolding place
  placed i h true e = let r = at_mem ys (f (get_or xs i a)) b (lands (get_or xs i a) (mem-at xs i a (ltb-true i (length xs) e))) in (r.1, r.2)
  placed i h false e = let k = ltb-false i (length xs) e in absurd (omega arith)

  place_of : ℕ → ℕ
  place_of i = place i (ltb i (length xs)) refl

  pub no_longer : Distinct a xs → ((x y : A) → Memᴰ x xs → Memᴰ y xs → f x ≡ f y → x ≡ y) → length xs ≤ length ys
  unfolding place_of
  no_longer distinct apart =
      pigeonhole (length xs) (length ys) place_of (λ i h. (placed i h (ltb i (length xs)) refl).0)
      (λ i j h k e. distinct i j h k (apart (get_or xs i a) (get_or xs j a) (mem-at xs i a h) (mem-at xs j a k)
      (sym (placed i h (ltb i (length xs)) refl).1 ∙ ap (λ (n : ℕ). get_or ys n b) e ∙ (placed j k (ltb j (length xs)) refl).1)))

-- ---- counting by places

module _ {A : Type 0} (test : A → Bool) (d : A) where
  -- the places that pass
  abbrev pub passing : List A → List ℕ
  passing xs = keep (λ i. test (get_or xs i d)) (up_from 0 (length xs))

  count-keep : (at : ℕ → Bool) (xs : List A) (a : ℕ) → ((j : ℕ) → j < length xs → at (a + j) ≡ test (get_or xs j d)) → count_of test xs ≡ length (keep at (up_from a (length xs)))
  unfolding count_of up_from keep
  count-keep at [] a same = refl
  count-keep at (x ∷ xs) a same =
      go (test x) (at a) (sym (ap at (sym (add-zero a)) ∙ same 0 (omega arith)))
      (count-keep at xs (suc a) (λ j h. (let e : suc a + j ≡ a + suc j = omega arith in ap at e ∙ same (suc j) (omega arith))))
    where
      go : (s t : Bool) → s ≡ t → count_of test xs ≡ length (keep at (up_from (suc a) (length xs)))
          → ◌≡◌ {A = ℕ} (elim s as (λ _. ℕ) [ true ↦ suc (count_of test xs) | false ↦ count_of test xs ]) (length {A = ℕ} (elim t as (λ _. List ℕ) [ true ↦ a ∷ keep at (up_from (suc a) (length xs)) | false ↦ keep at (up_from (suc a) (length xs)) ]))
      go true true e r = ap suc r
      go true false e r = absurd (true≢false e)
      go false true e r = absurd (true≢false (sym e))
      go false false e r = r

  pub count-passing : (xs : List A) → count_of test xs ≡ length (passing xs)
  count-passing xs = count-keep (λ i. test (get_or xs i d)) xs 0 (λ j h. ap (λ (n : ℕ). test (get_or xs n d)) (zero-add j))

  pub passing-distinct : (xs : List A) → Distinct 0 (passing xs)
  passing-distinct xs =
      ascending-distinct ◌<◌ (λ x h. omega arith) 0 (passing xs) (ascending-keep ◌<◌ (λ i. test (get_or xs i d)) (up_from 0 (length xs)) (ascending-up_from 0 (length xs)))

  pub passing-elim : (xs : List A) (i : ℕ) → Memᴰ i (passing xs) → (i < length xs) × (test (get_or xs i d) ≡ true)
  passing-elim xs i m =
      let k = keep-elim (λ j. test (get_or xs j d)) i (up_from 0 (length xs)) m in
      ((let l = up_from-mem 0 (length xs) i k.0 in omega arith), k.1)

  pub passing-intro : (xs : List A) (i : ℕ) → i < length xs → test (get_or xs i d) ≡ true → Memᴰ i (passing xs)
  passing-intro xs i h e = keep-intro (λ j. test (get_or xs j d)) i (up_from 0 (length xs)) (mem-up_from 0 (length xs) i (omega arith) (omega arith)) e
