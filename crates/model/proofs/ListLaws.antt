-- Laws of Boolean tests, of lists by place and by member, and of the list functions of specs/Lists.antt. Assumes nothing.
use Prim.Native.Nat.{ℕ, zero, suc, ◌+◌, ◌-◌, ◌≤◌, ◌<◌}
use mathlib.Core.Path.{◌≡◌, refl, sym, ap, ◌∙◌, subst}
use mathlib.Core.Bool.{Bool, true, false, ◌&&◌, ◌||◌, true≢false, false≢true}
use mathlib.Core.Logic.{◌⊎◌, inl, inr}
use mathlib.Core.List.Memᴰ
use mathlib.Core.List.{List, [], ◌∷◌, ◌++◌, map, flat_map, Memᴰ, head-eq_of_cons-eq, tail-eq_of_cons-eq}
use native.Mathlib.Omega.{arith}
use native.Mathlib.Nat.{not-suc-le-zero, le_of_suc-le-suc, add-zero}
use lib.Dec.{eqb}
use lib.ListN.{length, get_or, drop, length-append, length-drop, length-map}
use lib.Seq.{drop-cons}
use borrow.Author.Tests.{eqb-true, eq-eqb}
use Rattle.model.specs.Lists.{up_from, keep, any_of, all_of, first_of, same_list}

-- ---- Booleans

-- cases on a test, with the equation in hand: take P b := (test ≡ b → ..) and pass refl
pub by_bool {ℓ} : (P : Bool → Type ℓ) (b : Bool) → P true → P false → P b
by_bool P true t f = t
by_bool P false t f = f

-- a test is true or false
pub true-or-false : (b : Bool) → (b ≡ true) ⊎ (b ≡ false)
true-or-false true = inl refl
true-or-false false = inr refl

pub and_intro : {a b : Bool} → a ≡ true → b ≡ true → (a && b) ≡ true
and_intro {a} {b} p q = ap (λ (x : Bool). x && b) p ∙ q

pub and_left : (a b : Bool) → (a && b) ≡ true → a ≡ true
and_left true b e = refl
and_left false b e = e

pub and_right : (a b : Bool) → (a && b) ≡ true → b ≡ true
and_right true b e = e
and_right false b e = absurd (false≢true e)

pub or_cases : (a b : Bool) → (a || b) ≡ true → (a ≡ true) ⊎ (b ≡ true)
or_cases true b e = inl refl
or_cases false b e = inr e

pub or_left : {a : Bool} (b : Bool) → a ≡ true → (a || b) ≡ true
or_left b p = ap (λ (x : Bool). x || b) p

pub or_right : (a : Bool) {b : Bool} → b ≡ true → (a || b) ≡ true
or_right true p = refl
or_right false p = p

pub not-both : (b : Bool) → b ≡ true → b ≡ false → ⊥
not-both b p q = true≢false (sym p ∙ q)

-- two tests that imply each other are equal
pub bool-ext : (a b : Bool) → (a ≡ true → b ≡ true) → (b ≡ true → a ≡ true) → a ≡ b
bool-ext true b f g = sym (f refl)
bool-ext false true f g = g refl
bool-ext false false f g = refl

-- ---- lists by place

module _ {A : Type 0} where
  pub length-snoc : (xs : List A) (x : A) → length (xs ++ x ∷ []) ≡ suc (length xs)
  length-snoc xs x = length-append xs (x ∷ []) ∙ omega arith

  -- what stands at a place is a member
  pub mem-at : (xs : List A) (i : ℕ) (d : A) → i < length xs → Memᴰ (get_or xs i d) xs
  mem-at [] i d h = absurd (not-suc-le-zero h)
  mem-at (x ∷ xs) zero d h = Memᴰ.head refl
  mem-at (x ∷ xs) (suc i) d h = Memᴰ.tail (mem-at xs i d (le_of_suc-le-suc h))

  -- and a member stands at some place
  pub at_mem : (xs : List A) (x d : A) → Memᴰ x xs → (i : ℕ) × (i < length xs) × (get_or xs i d ≡ x)
  at_mem [] x d m = absurd (Memᴰ.not-nil m)
  at_mem (y ∷ ys) x d m = go (Memᴰ.cases_cons m) (λ p. at_mem ys x d p)
    where
      go : (x ≡ y) ⊎ Memᴰ x ys → (Memᴰ x ys → (i : ℕ) × (i < length ys) × (get_or ys i d ≡ x)) → (i : ℕ) × (i < length (y ∷ ys)) × (get_or (y ∷ ys) i d ≡ x)
      go (inl p) rest = (0, omega arith, sym p)
      go (inr p) rest = let r = rest p in (suc r.0, (let l : r.0 < length ys = r.1 in omega arith), r.2)

  -- where the rest of a list from place k on begins with r, r stands at place k
  pub drop-begins : (xs : List A) (k : ℕ) (r : A) (rs : List A) (d : A) → drop k xs ≡ r ∷ rs → (k < length xs) × (get_or xs k d ≡ r) × (drop (suc k) xs ≡ rs)
  drop-begins xs k r rs d e =
      let n : length xs - k ≡ suc (length rs) = sym (length-drop k xs) ∙ ap length e in
      let h : k < length xs = omega arith in
      let c : get_or xs k d ∷ drop (suc k) xs ≡ r ∷ rs = sym (drop-cons xs k d h) ∙ e in
      (h, head-eq_of_cons-eq c, tail-eq_of_cons-eq c)

module _ {A B : Type 0} where
  -- an element of a mapped list, whatever the two lists read as past their ends
  pub get_or_map : (f : A → B) (xs : List A) (i : ℕ) (d : A) (c : B) → i < length xs → get_or (map f xs) i c ≡ f (get_or xs i d)
  get_or_map f [] i d c h = absurd (not-suc-le-zero h)
  get_or_map f (x ∷ xs) zero d c h = refl
  get_or_map f (x ∷ xs) (suc i) d c h = get_or_map f xs i d c (le_of_suc-le-suc h)

  -- functions that agree on a list's members map it to the same list
  pub map-agree : (f g : A → B) (xs : List A) → ((x : A) → Memᴰ x xs → f x ≡ g x) → map f xs ≡ map g xs
  map-agree f g [] h = refl
  map-agree f g (x ∷ xs) h = cc (h x (Memᴰ.head refl), map-agree f g xs (λ y m. h y (Memᴰ.tail m)))

-- ---- ranges

pub length-up_from : (a n : ℕ) → length (up_from a n) ≡ n
unfolding up_from
length-up_from a zero = refl
length-up_from a (suc n) = ap suc (length-up_from (suc a) n)

pub get_or-up_from : (a n i d : ℕ) → i < n → get_or (up_from a n) i d ≡ a + i
unfolding up_from
get_or-up_from a zero i d h = absurd (not-suc-le-zero h)
get_or-up_from a (suc n) zero d h = sym (add-zero a)
get_or-up_from a (suc n) (suc i) d h = get_or-up_from (suc a) n i d (le_of_suc-le-suc h) ∙ omega arith

pub mem-up_from : (a n x : ℕ) → a ≤ x → x < a + n → Memᴰ x (up_from a n)
unfolding up_from
mem-up_from a zero x h k = absurd (omega arith)
mem-up_from a (suc n) x h k = go (eqb a x) refl (λ p. mem-up_from (suc a) n x p (omega arith))
  where
    go : (t : Bool) → eqb a x ≡ t → (a < x → Memᴰ x (up_from (suc a) n)) → Memᴰ x (a ∷ up_from (suc a) n)
    go true e rest = Memᴰ.head (sym (eqb-true a x e))
    go false e rest = let ne : (a ≡ x) → ⊥ = λ q. not-both (eqb a x) (eq-eqb a x q) e in Memᴰ.tail (rest (omega arith))

pub up_from-mem : (a n x : ℕ) → Memᴰ x (up_from a n) → (a ≤ x) × (x < a + n)
unfolding up_from
up_from-mem a zero x m = absurd (Memᴰ.not-nil m)
up_from-mem a (suc n) x m = go (Memᴰ.cases_cons m) (λ p. up_from-mem (suc a) n x p)
  where
    go : (x ≡ a) ⊎ Memᴰ x (up_from (suc a) n) → (Memᴰ x (up_from (suc a) n) → (suc a ≤ x) × (x < suc a + n)) → (a ≤ x) × (x < a + suc n)
    go (inl e) rest = omega arith
    go (inr p) rest = let k : (suc a ≤ x) × (x < suc a + n) = rest p in omega arith

-- a mapped range
module _ {A : Type 0} (f : ℕ → A) (a n : ℕ) where
  pub length-map-up_from : length (map f (up_from a n)) ≡ n
  length-map-up_from = length-map (up_from a n) f ∙ length-up_from a n

  pub get_or-map-up_from : (i : ℕ) (c : A) → i < n → get_or (map f (up_from a n)) i c ≡ f (a + i)
  get_or-map-up_from i c h =
      let l : length (up_from a n) ≡ n = length-up_from a n in
      get_or_map f (up_from a n) i 0 c (omega arith) ∙ ap f (get_or-up_from a n i 0 h)

-- ---- tests over lists

module _ {A : Type 0} where
  pub any-intro : (test : A → Bool) (x : A) (xs : List A) → Memᴰ x xs → test x ≡ true → any_of test xs ≡ true
  unfolding any_of
  any-intro test x [] m e = absurd (Memᴰ.not-nil m)
  any-intro test x (y ∷ ys) m e = go (test y) (Memᴰ.cases_cons m) refl (λ p. any-intro test x ys p e)
    where
      go : (t : Bool) → (x ≡ y) ⊎ Memᴰ x ys → test y ≡ t → (Memᴰ x ys → any_of test ys ≡ true) → (elim t as (λ _. Bool) [ true ↦ true | false ↦ any_of test ys ]) ≡ true
      go true m' q rest = refl
      go false (inl p) q rest = absurd (not-both (test y) (ap test (sym p) ∙ e) q)
      go false (inr p) q rest = rest p

  pub any-elim : (test : A → Bool) (xs : List A) → any_of test xs ≡ true → (x : A) × Memᴰ x xs × (test x ≡ true)
  unfolding any_of
  any-elim test [] e = absurd (false≢true e)
  any-elim test (y ∷ ys) e = go (test y) refl e (λ p. any-elim test ys p)
    where
      go : (t : Bool) → test y ≡ t → (elim t as (λ _. Bool) [ true ↦ true | false ↦ any_of test ys ]) ≡ true
          → (any_of test ys ≡ true → (x : A) × Memᴰ x ys × (test x ≡ true)) → (x : A) × Memᴰ x (y ∷ ys) × (test x ≡ true)
      go true q e' rest = (y, Memᴰ.head refl, q)
      go false q e' rest = let r = rest e' in (r.0, Memᴰ.tail r.1, r.2)

  pub all-intro : (test : A → Bool) (xs : List A) → ((x : A) → Memᴰ x xs → test x ≡ true) → all_of test xs ≡ true
  unfolding all_of
  all-intro test [] h = refl
  all-intro test (y ∷ ys) h = go (test y) (h y (Memᴰ.head refl)) (all-intro test ys (λ x m. h x (Memᴰ.tail m)))
    where
      go : (t : Bool) → t ≡ true → all_of test ys ≡ true → (elim t as (λ _. Bool) [ true ↦ all_of test ys | false ↦ false ]) ≡ true
      go true q r = r
      go false q r = q

  pub all-elim : (test : A → Bool) (xs : List A) → all_of test xs ≡ true → (x : A) → Memᴰ x xs → test x ≡ true
  unfolding all_of
  all-elim test [] e x m = absurd (Memᴰ.not-nil m)
  all-elim test (y ∷ ys) e x m = go (test y) refl e (Memᴰ.cases_cons m) (λ p q. all-elim test ys p x q)
    where
      go : (t : Bool) → test y ≡ t → (elim t as (λ _. Bool) [ true ↦ all_of test ys | false ↦ false ]) ≡ true → (x ≡ y) ⊎ Memᴰ x ys
          → (all_of test ys ≡ true → Memᴰ x ys → test x ≡ true) → test x ≡ true
      go true q e' (inl p) rest = ap test p ∙ q
      go true q e' (inr p) rest = rest e' p
      go false q e' s rest = absurd (false≢true e')

  -- where not every element passes, one that does not can be had
  pub all-counter : (test : A → Bool) (xs : List A) → all_of test xs ≡ false → (x : A) × Memᴰ x xs × (test x ≡ false)
  unfolding all_of
  all-counter test [] e = absurd (true≢false e)
  all-counter test (y ∷ ys) e = go (test y) refl e (λ p. all-counter test ys p)
    where
      go : (t : Bool) → test y ≡ t → (elim t as (λ _. Bool) [ true ↦ all_of test ys | false ↦ false ]) ≡ false
          → (all_of test ys ≡ false → (x : A) × Memᴰ x ys × (test x ≡ false)) → (x : A) × Memᴰ x (y ∷ ys) × (test x ≡ false)
      go true q e' rest = let r = rest e' in (r.0, Memᴰ.tail r.1, r.2)
      go false q e' rest = (y, Memᴰ.head refl, q)

  -- tests that agree on a list's members
  pub any-agree : (f g : A → Bool) (xs : List A) → ((x : A) → Memᴰ x xs → f x ≡ g x) → any_of f xs ≡ any_of g xs
  any-agree f g xs h =
      bool-ext (any_of f xs) (any_of g xs)
      (λ e. let r = any-elim f xs e in any-intro g r.0 xs r.1 (sym (h r.0 r.1) ∙ r.2))
      (λ e. let r = any-elim g xs e in any-intro f r.0 xs r.1 (h r.0 r.1 ∙ r.2))

  pub all-agree : (f g : A → Bool) (xs : List A) → ((x : A) → Memᴰ x xs → f x ≡ g x) → all_of f xs ≡ all_of g xs
  all-agree f g xs h =
      bool-ext (all_of f xs) (all_of g xs)
      (λ e. all-intro g xs (λ x m. sym (h x m) ∙ all-elim f xs e x m))
      (λ e. all-intro f xs (λ x m. h x m ∙ all-elim g xs e x m))

  pub keep-intro : (test : A → Bool) (x : A) (xs : List A) → Memᴰ x xs → test x ≡ true → Memᴰ x (keep test xs)
  unfolding keep
  keep-intro test x [] m e = absurd (Memᴰ.not-nil m)
  keep-intro test x (y ∷ ys) m e = go (test y) refl (Memᴰ.cases_cons m) (λ p. keep-intro test x ys p e)
    where
      go : (t : Bool) → test y ≡ t → (x ≡ y) ⊎ Memᴰ x ys → (Memᴰ x ys → Memᴰ x (keep test ys))
          → Memᴰ x (elim t as (λ _. List A) [ true ↦ y ∷ keep test ys | false ↦ keep test ys ])
      go true q (inl p) rest = Memᴰ.head p
      go true q (inr p) rest = Memᴰ.tail (rest p)
      go false q (inl p) rest = absurd (not-both (test y) (ap test (sym p) ∙ e) q)
      go false q (inr p) rest = rest p

  pub keep-elim : (test : A → Bool) (x : A) (xs : List A) → Memᴰ x (keep test xs) → Memᴰ x xs × (test x ≡ true)
  unfolding keep
  keep-elim test x [] m = absurd (Memᴰ.not-nil m)
  keep-elim test x (y ∷ ys) m = go (test y) refl m (λ p. keep-elim test x ys p)
    where
      add : Memᴰ x ys × (test x ≡ true) → Memᴰ x (y ∷ ys) × (test x ≡ true)
      add r = (Memᴰ.tail r.0, r.1)

      at : test y ≡ true → (x ≡ y) ⊎ Memᴰ x (keep test ys) → (Memᴰ x (keep test ys) → Memᴰ x ys × (test x ≡ true)) → Memᴰ x (y ∷ ys) × (test x ≡ true)
      at q (inl p) rest = (Memᴰ.head p, ap test p ∙ q)
      at q (inr p) rest = add (rest p)

      go : (t : Bool) → test y ≡ t → Memᴰ x (elim t as (λ _. List A) [ true ↦ y ∷ keep test ys | false ↦ keep test ys ])
          → (Memᴰ x (keep test ys) → Memᴰ x ys × (test x ≡ true)) → Memᴰ x (y ∷ ys) × (test x ≡ true)
      go true q m' rest = at q (Memᴰ.cases_cons m') rest
      go false q m' rest = add (rest m')

  pub length-keep : (test : A → Bool) (xs : List A) → length (keep test xs) ≤ length xs
  unfolding keep
  length-keep test [] = omega arith
  length-keep test (x ∷ xs) = go (test x) (length-keep test xs)
    where
      go : (t : Bool) → length (keep test xs) ≤ length xs → length {A = A} (elim t as (λ _. List A) [ true ↦ x ∷ keep test xs | false ↦ keep test xs ]) ≤ suc (length xs)
      go true h = omega arith
      go false h = omega arith

-- the tests over a range, by numbers
pub all-below : (test : ℕ → Bool) (n : ℕ) → all_of test (up_from 0 n) ≡ true → (i : ℕ) → i < n → test i ≡ true
all-below test n e i h = all-elim test (up_from 0 n) e i (mem-up_from 0 n i (omega arith) (omega arith))

pub below_all : (test : ℕ → Bool) (n : ℕ) → ((i : ℕ) → i < n → test i ≡ true) → all_of test (up_from 0 n) ≡ true
below_all test n h = all-intro test (up_from 0 n) (λ x m. h x (let k = up_from-mem 0 n x m in omega arith))

pub any_below : (test : ℕ → Bool) (n : ℕ) → any_of test (up_from 0 n) ≡ true → (i : ℕ) × (i < n) × (test i ≡ true)
any_below test n e = let r = any-elim test (up_from 0 n) e in (r.0, (let k = up_from-mem 0 n r.0 r.1 in omega arith), r.2)

pub below-any : (test : ℕ → Bool) (n i : ℕ) → i < n → test i ≡ true → any_of test (up_from 0 n) ≡ true
below-any test n i h e = any-intro test i (up_from 0 n) (mem-up_from 0 n i (omega arith) (omega arith)) e

-- ---- equal lists

pub same-eq : (xs ys : List ℕ) → same_list xs ys ≡ true → xs ≡ ys
unfolding same_list
same-eq [] [] e = refl
same-eq [] (y ∷ ys) e = absurd (false≢true e)
same-eq (x ∷ xs) [] e = absurd (false≢true e)
same-eq (x ∷ xs) (y ∷ ys) e = go (eqb x y) refl e (λ p. same-eq xs ys p)
  where
    go : (t : Bool) → eqb x y ≡ t → (elim t as (λ _. Bool) [ true ↦ same_list xs ys | false ↦ false ]) ≡ true → (same_list xs ys ≡ true → xs ≡ ys) → x ∷ xs ≡ y ∷ ys
    go true q e' rest = cc (eqb-true x y q, rest e')
    go false q e' rest = absurd (false≢true e')

pub same_refl : (xs : List ℕ) → same_list xs xs ≡ true
unfolding same_list
same_refl [] = refl
same_refl (x ∷ xs) = rw (eq-eqb x x refl, same_list) (same_refl xs)

pub eq-same : (xs ys : List ℕ) → xs ≡ ys → same_list xs ys ≡ true
eq-same xs ys p = subst (λ (l : List ℕ). same_list xs l ≡ true) p (same_refl xs)

-- ---- the first that passes

pub first-hit : (test : ℕ → Bool) (d : ℕ) (xs : List ℕ) (x : ℕ) → Memᴰ x xs → test x ≡ true → Memᴰ (first_of test d xs) xs × (test (first_of test d xs) ≡ true)
unfolding first_of
first-hit test d [] x m e = absurd (Memᴰ.not-nil m)
first-hit test d (y ∷ ys) x m e = go (test y) refl (Memᴰ.cases_cons m) (λ p. first-hit test d ys x p e)
  where
    go : (t : Bool) → test y ≡ t → (x ≡ y) ⊎ Memᴰ x ys → (Memᴰ x ys → Memᴰ (first_of test d ys) ys × (test (first_of test d ys) ≡ true))
        → Memᴰ (elim t as (λ _. ℕ) [ true ↦ y | false ↦ first_of test d ys ]) (y ∷ ys) × (test (elim t as (λ _. ℕ) [ true ↦ y | false ↦ first_of test d ys ]) ≡ true)
    go true q s rest = (Memᴰ.head refl, q)
    go false q (inl p) rest = absurd (not-both (test y) (ap test (sym p) ∙ e) q)
    go false q (inr p) rest = let r = rest p in (Memᴰ.tail r.0, r.1)

pub first-miss : (test : ℕ → Bool) (d : ℕ) (xs : List ℕ) → ((x : ℕ) → Memᴰ x xs → test x ≡ false) → first_of test d xs ≡ d
unfolding first_of
first-miss test d [] h = refl
first-miss test d (y ∷ ys) h = rw (h y (Memᴰ.head refl), first_of) (first-miss test d ys (λ x m. h x (Memᴰ.tail m)))

-- what is found passes, or is what stands for none
pub first-or : (test : ℕ → Bool) (d : ℕ) (xs : List ℕ) → (test (first_of test d xs) ≡ true) ⊎ (first_of test d xs ≡ d)
unfolding first_of
first-or test d [] = inr refl
first-or test d (x ∷ xs) = go (test x) refl (first-or test d xs)
  where
    go : (b : Bool) → test x ≡ b → (test (first_of test d xs) ≡ true) ⊎ (first_of test d xs ≡ d)
        → (test (elim b as (λ _. ℕ) [ true ↦ x | false ↦ first_of test d xs ]) ≡ true) ⊎ ((elim b as (λ _. ℕ) [ true ↦ x | false ↦ first_of test d xs ]) ≡ d)
    go true q rest = inl q
    go false q rest = rest

-- ---- membership in flat_map

module _ {A B : Type 0} where
  pub flat-intro : (f : A → List B) (x : A) (xs : List A) (y : B) → Memᴰ x xs → Memᴰ y (f x) → Memᴰ y (flat_map f xs)
  unfolding flat_map
  flat-intro f x [] y m n = absurd (Memᴰ.not-nil m)
  flat-intro f x (z ∷ zs) y m n = go (Memᴰ.cases_cons m) (λ p. flat-intro f x zs y p n)
    where
      go : (x ≡ z) ⊎ Memᴰ x zs → (Memᴰ x zs → Memᴰ y (flat_map f zs)) → Memᴰ y (f z ++ flat_map f zs)
      go (inl p) rest = Memᴰ.append_left (flat_map f zs) (subst (λ (w : A). Memᴰ y (f w)) p n)
      go (inr p) rest = Memᴰ.append_right (f z) (rest p)

  pub flat-elim : (f : A → List B) (xs : List A) (y : B) → Memᴰ y (flat_map f xs) → (x : A) × Memᴰ x xs × Memᴰ y (f x)
  unfolding flat_map
  flat-elim f [] y m = absurd (Memᴰ.not-nil m)
  flat-elim f (z ∷ zs) y m = go (Memᴰ.append_cases (f z) m) (λ p. flat-elim f zs y p)
    where
      go : Memᴰ y (f z) ⊎ Memᴰ y (flat_map f zs) → (Memᴰ y (flat_map f zs) → (x : A) × Memᴰ x zs × Memᴰ y (f x))
          → (x : A) × Memᴰ x (z ∷ zs) × Memᴰ y (f x)
      go (inl p) rest = (z, Memᴰ.head refl, p)
      go (inr p) rest = let r = rest p in (r.0, Memᴰ.tail r.1, r.2)
