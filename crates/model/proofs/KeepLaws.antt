-- Laws of `keep` and `flat_map`: what is kept by tests that agree, a test more that loses nothing, the one that is kept first.
-- Assumes nothing.
use Prim.Native.Nat.{ℕ, zero, suc, ◌+◌, ◌≤◌, ◌<◌}
use mathlib.Core.Path.{◌≡◌, refl, sym, ap, ◌∙◌}
use mathlib.Core.Bool.{Bool, true, false, ◌&&◌, not, and-true, and-false}
use mathlib.Core.List.{List, [], ◌∷◌, ◌++◌, flat_map, Memᴰ, append-nil}
use native.Mathlib.Omega.{arith}
use lib.Dec.{eqb}
use borrow.Author.Tests.{eqb-true, eqb-false, eq-eqb, ne_eqb}
use Rattle.model.specs.Lists.{up_from, keep}
use Rattle.model.proofs.ListLaws.{up_from-mem}

module _ {A : Type 0} where
  -- a list without members
  pub no-members : (xs : List A) → ((x : A) → Memᴰ x xs → ⊥) → xs ≡ []
  no-members [] h = refl
  no-members (x ∷ xs) h = absurd (h x (Memᴰ.head refl))

  -- what `keep` does with the first element, by the test's value
  pub keep-in : (test : A → Bool) (x : A) (xs : List A) → test x ≡ true → keep test (x ∷ xs) ≡ x ∷ keep test xs
  unfolding keep
  keep-in test x xs e = rw (e, keep)

  pub keep_out : (test : A → Bool) (x : A) (xs : List A) → test x ≡ false → keep test (x ∷ xs) ≡ keep test xs
  unfolding keep
  keep_out test x xs e = rw (e, keep)

  -- one test after another
  pub keep-keep : (f g : A → Bool) (xs : List A) → keep f (keep g xs) ≡ keep (λ x. f x && g x) xs
  unfolding keep
  keep-keep f g [] = refl
  keep-keep f g (x ∷ xs) = go (f x) (g x) refl (keep-keep f g xs)
    where
      go : (a b : Bool) → f x ≡ a → keep f (keep g xs) ≡ keep (λ x. f x && g x) xs
          → keep f (elim b as (λ _. List A) [ true ↦ x ∷ keep g xs | false ↦ keep g xs ]) ≡ elim (a && b) as (λ _. List A) [ true ↦ x ∷ keep (λ x. f x && g x) xs | false ↦ keep (λ x. f x && g x) xs ]
      go true true e r = ap (λ (t : Bool). elim t as (λ _. List A) [ true ↦ x ∷ keep f (keep g xs) | false ↦ keep f (keep g xs) ]) e ∙ ap (λ (l : List A). x ∷ l) r
      go false true e r = ap (λ (t : Bool). elim t as (λ _. List A) [ true ↦ x ∷ keep f (keep g xs) | false ↦ keep f (keep g xs) ]) e ∙ r
      go true false e r = r
      go false false e r = r

  -- tests that agree on the members keep the same
  pub keep-agree : (f g : A → Bool) (xs : List A) → ((x : A) → Memᴰ x xs → f x ≡ g x) → keep f xs ≡ keep g xs
  unfolding keep
  keep-agree f g [] h = refl
  keep-agree f g (x ∷ xs) h = go (f x) refl (keep-agree f g xs (λ y m. h y (Memᴰ.tail m)))
    where
      go : (t : Bool) → f x ≡ t → keep f xs ≡ keep g xs → keep f (x ∷ xs) ≡ keep g (x ∷ xs)
      go true e r = keep-in f x xs e ∙ ap {B = List A} (λ l. x ∷ l) r ∙ sym (keep-in g x xs (sym (h x (Memᴰ.head refl)) ∙ e))
      go false e r = keep_out f x xs e ∙ r ∙ sym (keep_out g x xs (sym (h x (Memᴰ.head refl)) ∙ e))

  pub keep-none : (test : A → Bool) (xs : List A) → ((x : A) → Memᴰ x xs → test x ≡ false) → keep test xs ≡ []
  unfolding keep
  keep-none test [] h = refl
  keep-none test (x ∷ xs) h = keep_out test x xs (h x (Memᴰ.head refl)) ∙ keep-none test xs (λ y m. h y (Memᴰ.tail m))

module _ {A B : Type 0} where
  pub flat-one : (f : A → List B) (x : A) → flat_map f (x ∷ []) ≡ f x
  unfolding flat_map
  flat-one f x = append-nil (f x)

  pub flat-cons : (f : A → List B) (x : A) (xs : List A) → flat_map f (x ∷ xs) ≡ f x ++ flat_map f xs
  unfolding flat_map
  flat-cons f x xs = refl

  -- functions that agree on the members
  pub flat-agree : (f g : A → List B) (xs : List A) → ((x : A) → Memᴰ x xs → f x ≡ g x) → flat_map f xs ≡ flat_map g xs
  unfolding flat_map
  flat-agree f g [] h = refl
  flat-agree f g (x ∷ xs) h = cc (h x (Memᴰ.head refl), flat-agree f g xs (λ y m. h y (Memᴰ.tail m)))

  -- one test more loses nothing where it only turns away what gives nothing
  pub flat_keep : (f : A → List B) (t s : A → Bool) (xs : List A) → ((x : A) → Memᴰ x xs → t x ≡ true → s x ≡ false → f x ≡ [])
      → flat_map f (keep t xs) ≡ flat_map f (keep (λ x. t x && s x) xs)
  unfolding keep flat_map
  flat_keep f t s [] h = refl
  flat_keep f t s (x ∷ xs) h = go (t x) (s x) refl refl (flat_keep f t s xs (λ y m. h y (Memᴰ.tail m)))
    where
      both : A → Bool
      both y = t y && s y

      go : (a b : Bool) → t x ≡ a → s x ≡ b → flat_map f (keep t xs) ≡ flat_map f (keep both xs) → flat_map f (keep t (x ∷ xs)) ≡ flat_map f (keep both (x ∷ xs))
      go true true p q r =
          ap (flat_map f) (keep-in t x xs p) ∙ ap (λ (l : List B). f x ++ l) r
          ∙ sym (ap (flat_map f) (keep-in both x xs (ap (λ (b : Bool). b && s x) p ∙ q)))
      go true false p q r =
          ap (flat_map f) (keep-in t x xs p) ∙ ap (λ (l : List B). l ++ flat_map f (keep t xs)) (h x (Memᴰ.head refl) p q) ∙ r
          ∙ sym (ap (flat_map f) (keep_out both x xs (ap (λ (b : Bool). b && s x) p ∙ q)))
      go false b p q r = ap (flat_map f) (keep_out t x xs p) ∙ r ∙ sym (ap (flat_map f) (keep_out both x xs (ap (λ (b : Bool). b && s x) p)))

-- ---- ranges

-- nothing is kept past a
pub keep-past : (test : ℕ → Bool) (a n k : ℕ) → ((i : ℕ) → a + n ≤ i → test i ≡ false) → keep test (up_from a (n + k)) ≡ keep test (up_from a n)
unfolding up_from keep
keep-past test a zero k h =
    keep-none test (up_from a (zero + k)) (λ x m. h x (let l = up_from-mem a (zero + k) x m in omega arith))
keep-past test a (suc n) k h =
    let e : suc n + k ≡ suc (n + k) = omega arith in
    ap (λ (j : ℕ). keep test (up_from a j)) e ∙ go (test a) refl (keep-past test (suc a) n k (λ i l. h i (omega arith)))
  where
    go : (t : Bool) → test a ≡ t → keep test (up_from (suc a) (n + k)) ≡ keep test (up_from (suc a) n)
        → keep test (a ∷ up_from (suc a) (n + k)) ≡ keep test (a ∷ up_from (suc a) n)
    go true e r = keep-in test a (up_from (suc a) (n + k)) e ∙ ap {B = List ℕ} (λ l. a ∷ l) r ∙ sym (keep-in test a (up_from (suc a) n) e)
    go false e r = keep_out test a (up_from (suc a) (n + k)) e ∙ r ∙ sym (keep_out test a (up_from (suc a) n) e)

-- the least that passes is kept first, and the rest is what is kept without it
pub keep-least : (test : ℕ → Bool) (a n v : ℕ) → a ≤ v → v < a + n → test v ≡ true → ((j : ℕ) → a ≤ j → j < v → test j ≡ false)
    → keep test (up_from a n) ≡ v ∷ keep (λ i. test i && not (eqb i v)) (up_from a n)
unfolding up_from
keep-least test a zero v h k e none = absurd (omega arith)
keep-least test a (suc n) v h k e none = go (eqb a v) refl (λ l. keep-least test (suc a) n v l (omega arith) e (λ j p q. none j (omega arith) q))
  where
    rest : ℕ → Bool
    rest i = test i && not (eqb i v)

    later : (x : ℕ) → Memᴰ x (up_from (suc a) n) → a ≡ v → test x ≡ rest x
    later x m q =
        let l = up_from-mem (suc a) n x m in
        sym (ap (λ (b : Bool). test x && not b) (ne_eqb x v (λ p. omega arith)) ∙ and-true (test x))

    here : a ≡ v → rest a ≡ false
    here q = ap (λ (b : Bool). test a && not b) (eq-eqb a v q) ∙ and-false (test a)

    go : (t : Bool) → eqb a v ≡ t → (suc a ≤ v → keep test (up_from (suc a) n) ≡ v ∷ keep rest (up_from (suc a) n)) → keep test (a ∷ up_from (suc a) n) ≡ v ∷ keep rest (a ∷ up_from (suc a) n)
    go true q up =
        let p : a ≡ v = eqb-true a v q in
        keep-in test a (up_from (suc a) n) (ap test p ∙ e) ∙ ap (λ (x : ℕ). x ∷ keep test (up_from (suc a) n)) p
        ∙ ap {B = List ℕ} (λ l. v ∷ l) (keep-agree test rest (up_from (suc a) n) (λ x m. later x m p) ∙ sym (keep_out rest a (up_from (suc a) n) (here p)))
    go false q up =
        let ne : a ≡ v → ⊥ = eqb-false a v q in
        let f : test a ≡ false = none a (omega arith) (omega arith) in
        keep_out test a (up_from (suc a) n) f ∙ up (omega arith)
        ∙ ap {B = List ℕ} (λ l. v ∷ l) (sym (keep_out rest a (up_from (suc a) n) (ap (λ (b : Bool). b && not (eqb a v)) f)))
