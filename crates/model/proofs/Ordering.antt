-- Laws of lists compared at the first difference, and of lists put in order: what is put in order does not depend on the order in which it
-- came. Assumes nothing.
use Prim.Native.Nat.{ℕ, suc, ◌+◌, ◌≤◌, ◌<◌}
use mathlib.Core.Path.{◌≡◌, refl, sym, ap, ap₂, ◌∙◌, subst}
use mathlib.Core.Bool.{Bool, true, false, true≢false, false≢true}
use mathlib.Core.Logic.{◌⊎◌, inl, inr, ◌↔◌}
use mathlib.Core.List.Memᴰ
use mathlib.Core.List.{List, [], ◌∷◌, ◌++◌, map, flat_map, flatten, Memᴰ, map-append, head-eq_of_cons-eq, tail-eq_of_cons-eq, nil≢cons}
use native.Mathlib.Omega.{arith}
use lib.Dec.{eqb, ltb}
use lib.ListN.{length}
use borrow.Author.Tests.{eqb-true, eqb-false, eq-eqb, ne_eqb, ltb-true, ltb-false, lt-ltb, le-ltb}
use Rattle.model.specs.Lists.{Ascending, count_of}
use Rattle.model.specs.Normal.{not_after, NotAfter, goes_on, differs, placed, ordered, Entry, entry_numbers, by_subtree}
use Rattle.model.proofs.ListLaws.{by_bool, not-both}
use Rattle.model.proofs.KeepLaws.{no-members}
use Rattle.model.proofs.CountLaws.{count-append}

-- ---- comparing at the first difference

-- what not_after says of two lists that begin
module _ (x y : ℕ) (xs ys : List ℕ) where
  pub after_same : x ≡ y → not_after (x ∷ xs) (y ∷ ys) ≡ not_after xs ys
  unfolding not_after
  after_same e = rw (eq-eqb x y e, not_after) refl

  pub after_less : x < y → not_after (x ∷ xs) (y ∷ ys) ≡ true
  unfolding not_after
  after_less h = rw (ne_eqb x y (λ e. omega arith), not_after) (lt-ltb x y h)

  pub after-greater : y < x → not_after (x ∷ xs) (y ∷ ys) ≡ false
  unfolding not_after
  after-greater h = rw (ne_eqb x y (λ e. omega arith), not_after) (le-ltb x y (omega arith))

  -- it holds where the first is less, or the same and the rest does not come after
  pub after-cases : not_after (x ∷ xs) (y ∷ ys) ≡ true → (x < y) ⊎ ((x ≡ y) × (not_after xs ys ≡ true))
  unfolding not_after
  after-cases e = go (eqb x y) refl e
    where
      go : (t : Bool) → eqb x y ≡ t → (elim t as (λ _. Bool) [ true ↦ not_after xs ys | false ↦ ltb x y ]) ≡ true → (x < y) ⊎ ((x ≡ y) × (not_after xs ys ≡ true))
      go true q e' = inr (eqb-true x y q, e')
      go false q e' = inl (ltb-true x y e')

  -- it fails where the first is greater, or the same and the rest comes after
  pub after-fails : not_after (x ∷ xs) (y ∷ ys) ≡ false → (y < x) ⊎ ((x ≡ y) × (not_after xs ys ≡ false))
  unfolding not_after
  after-fails e = go (eqb x y) refl e
    where
      go : (t : Bool) → eqb x y ≡ t → (elim t as (λ _. Bool) [ true ↦ not_after xs ys | false ↦ ltb x y ]) ≡ false → (y < x) ⊎ ((x ≡ y) × (not_after xs ys ≡ false))
      go true q e' = inr (eqb-true x y q, e')
      go false q e' = let l : y ≤ x = ltb-false x y e' in let ne : (x ≡ y) → ⊥ = eqb-false x y q in inl (omega arith)

-- the test says what it is to say
pub after-exact : (xs ys : List ℕ) → (not_after xs ys ≡ true) ↔ NotAfter xs ys
unfolding not_after
after-exact xs ys = (sound xs ys, complete xs ys)
  where
    next : (x y : ℕ) (us vs : List ℕ) → x ≡ y → NotAfter us vs → NotAfter (x ∷ us) (y ∷ vs)
    next x y us vs e (goes_on rest q) = goes_on rest (cc (sym e, q))
    next x y us vs e (differs front k l ks ls p q h) = differs (x ∷ front) k l ks ls (ap (λ (zs : List ℕ). x ∷ zs) p) (cc (sym e, q)) h

    sound : (us vs : List ℕ) → not_after us vs ≡ true → NotAfter us vs
    sound [] vs e = goes_on vs refl
    sound (x ∷ us) [] e = absurd (false≢true e)
    sound (x ∷ us) (y ∷ vs) e = go (after-cases x y us vs e) (λ p. sound us vs p)
      where
        go : (x < y) ⊎ ((x ≡ y) × (not_after us vs ≡ true)) → (not_after us vs ≡ true → NotAfter us vs) → NotAfter (x ∷ us) (y ∷ vs)
        go (inl h) rest = differs [] x y us vs refl refl h
        go (inr p) rest = next x y us vs p.0 (rest p.1)

    before : (us rest : List ℕ) → not_after us (us ++ rest) ≡ true
    before [] rest = refl
    before (x ∷ us) rest = after_same x x us (us ++ rest) refl ∙ before us rest

    less : (front : List ℕ) (x y : ℕ) (us vs : List ℕ) → x < y → not_after (front ++ x ∷ us) (front ++ y ∷ vs) ≡ true
    less [] x y us vs h = after_less x y us vs h
    less (z ∷ front) x y us vs h = after_same z z (front ++ x ∷ us) (front ++ y ∷ vs) refl ∙ less front x y us vs h

    complete : (us vs : List ℕ) → NotAfter us vs → not_after us vs ≡ true
    complete us vs (goes_on rest q) = ap (not_after us) q ∙ before us rest
    complete us vs (differs front x y ks ls p q h) = ap₂ not_after p q ∙ less front x y ks ls h

-- of two lists one does not come after the other
pub after-total : (xs ys : List ℕ) → not_after xs ys ≡ false → not_after ys xs ≡ true
unfolding not_after
after-total [] ys e = absurd (true≢false e)
after-total (x ∷ xs) [] e = refl
after-total (x ∷ xs) (y ∷ ys) e = go (after-fails x y xs ys e) (λ p. after-total xs ys p)
  where
    go : (y < x) ⊎ ((x ≡ y) × (not_after xs ys ≡ false)) → (not_after xs ys ≡ false → not_after ys xs ≡ true) → not_after (y ∷ ys) (x ∷ xs) ≡ true
    go (inl h) rest = after_less y x ys xs h
    go (inr p) rest = after_same y x ys xs (sym p.0) ∙ rest p.1

-- two lists neither of which comes after the other are one
pub after_both : (xs ys : List ℕ) → not_after xs ys ≡ true → not_after ys xs ≡ true → xs ≡ ys
unfolding not_after
after_both [] [] e f = refl
after_both [] (y ∷ ys) e f = absurd (false≢true f)
after_both (x ∷ xs) [] e f = absurd (false≢true e)
after_both (x ∷ xs) (y ∷ ys) e f = go (after-cases x y xs ys e) (after-cases y x ys xs f) (λ p q. after_both xs ys p q)
  where
    go : (x < y) ⊎ ((x ≡ y) × (not_after xs ys ≡ true)) → (y < x) ⊎ ((y ≡ x) × (not_after ys xs ≡ true)) → (not_after xs ys ≡ true → not_after ys xs ≡ true → xs ≡ ys) → x ∷ xs ≡ y ∷ ys
    go (inl h) (inl k) rest = absurd (omega arith)
    go (inl h) (inr k) rest = let e' = k.0 in absurd (omega arith)
    go (inr h) (inl k) rest = let e' = h.0 in absurd (omega arith)
    go (inr h) (inr k) rest = cc (h.0, rest h.1 k.1)

pub after-trans : (xs ys zs : List ℕ) → not_after xs ys ≡ true → not_after ys zs ≡ true → not_after xs zs ≡ true
unfolding not_after
after-trans [] ys zs e f = refl
after-trans (x ∷ xs) [] zs e f = absurd (false≢true e)
after-trans (x ∷ xs) (y ∷ ys) [] e f = absurd (false≢true f)
after-trans (x ∷ xs) (y ∷ ys) (z ∷ zs) e f = go (after-cases x y xs ys e) (after-cases y z ys zs f) (λ p q. after-trans xs ys zs p q)
  where
    go : (x < y) ⊎ ((x ≡ y) × (not_after xs ys ≡ true)) → (y < z) ⊎ ((y ≡ z) × (not_after ys zs ≡ true)) → (not_after xs ys ≡ true → not_after ys zs ≡ true → not_after xs zs ≡ true)
        → not_after (x ∷ xs) (z ∷ zs) ≡ true
    go (inl h) (inl k) rest = after_less x z xs zs (omega arith)
    go (inl h) (inr k) rest = let e' = k.0 in after_less x z xs zs (omega arith)
    go (inr h) (inl k) rest = let e' = h.0 in after_less x z xs zs (omega arith)
    go (inr h) (inr k) rest = after_same x z xs zs (h.0 ∙ k.0) ∙ rest h.1 k.1

-- ---- an order in which two that do not come after each other are one

pub record Order {A : Type 0} (by : A → A → Bool) : Type 0 where
  pub total : (x y : A) → by x y ≡ false → by y x ≡ true
  pub both : (x y : A) → by x y ≡ true → by y x ≡ true → x ≡ y
  pub trans : (x y z : A) → by x y ≡ true → by y z ≡ true → by x z ≡ true

-- the numbers of entries decide the entries
numbers-same : (a b : List Entry) → flat_map entry_numbers a ≡ flat_map entry_numbers b → a ≡ b
unfolding flat_map
numbers-same [] [] e = refl
numbers-same [] (y ∷ ys) e = absurd (nil≢cons e)
numbers-same (x ∷ xs) [] e = absurd (nil≢cons (sym e))
numbers-same (x ∷ xs) (y ∷ ys) e =
    let e1 = tail-eq_of_cons-eq e in
    let e2 = tail-eq_of_cons-eq e1 in
    let e3 = tail-eq_of_cons-eq e2 in
    let e4 = tail-eq_of_cons-eq e3 in
    let head : x ≡ y = λ k. record { depth = head-eq_of_cons-eq e k; label = head-eq_of_cons-eq e1 k; edge = head-eq_of_cons-eq e2 k; position = head-eq_of_cons-eq e3 k; figure = head-eq_of_cons-eq e4 k } in
    cc (head, numbers-same xs ys (tail-eq_of_cons-eq e4))

-- subtrees by what is written of them
pub subtree-order : Order by_subtree
unfolding by_subtree
subtree-order =
    record {
      total = λ a b e. after-total (flat_map entry_numbers a) (flat_map entry_numbers b) e;
      both = λ a b e f. numbers-same a b (after_both (flat_map entry_numbers a) (flat_map entry_numbers b) e f);
      trans = λ a b c e f. after-trans (flat_map entry_numbers a) (flat_map entry_numbers b) (flat_map entry_numbers c) e f;
    }

-- ---- put in order

module _ {A : Type 0} (by : A → A → Bool) where
  placed_end : {x : A} → placed by x [] ≡ x ∷ []
  unfolding placed
  placed_end = refl

  pub placed_first : (x y : A) (ys : List A) → by x y ≡ true → placed by x (y ∷ ys) ≡ x ∷ y ∷ ys
  unfolding placed
  placed_first x y ys e = rw (e, placed) refl

  pub placed-later : (x y : A) (ys : List A) → by x y ≡ false → placed by x (y ∷ ys) ≡ y ∷ placed by x ys
  unfolding placed
  placed-later x y ys e = rw (e, placed) refl

  -- what stands in a list into which x was put
  pub placed-elim : (x y : A) (ys : List A) → Memᴰ y (placed by x ys) → (y ≡ x) ⊎ Memᴰ y ys
  unfolding placed
  placed-elim x y [] m = go (Memᴰ.cases_cons m)
    where
      go : (y ≡ x) ⊎ Memᴰ y [] → (y ≡ x) ⊎ Memᴰ y []
      go s = s
  placed-elim x y (z ∷ zs) m = go (by x z) m (λ p. placed-elim x y zs p)
    where
      at : (y ≡ z) ⊎ Memᴰ y (placed by x zs) → (Memᴰ y (placed by x zs) → (y ≡ x) ⊎ Memᴰ y zs) → (y ≡ x) ⊎ Memᴰ y (z ∷ zs)
      at (inl e) rest = inr (Memᴰ.head e)
      at (inr n) rest = later (rest n)
        where
          later : (y ≡ x) ⊎ Memᴰ y zs → (y ≡ x) ⊎ Memᴰ y (z ∷ zs)
          later (inl e) = inl e
          later (inr n') = inr (Memᴰ.tail n')

      go : (t : Bool) → Memᴰ y (elim t as (λ _. List A) [ true ↦ x ∷ z ∷ zs | false ↦ z ∷ placed by x zs ]) → (Memᴰ y (placed by x zs) → (y ≡ x) ⊎ Memᴰ y zs)
          → (y ≡ x) ⊎ Memᴰ y (z ∷ zs)
      go true n rest = Memᴰ.cases_cons n
      go false n rest = at (Memᴰ.cases_cons n) rest

  -- and in one that was put in order
  pub ordered-elim : (y : A) (xs : List A) → Memᴰ y (ordered by xs) → Memᴰ y xs
  unfolding ordered
  ordered-elim y [] m = m
  ordered-elim y (x ∷ xs) m = go (placed-elim x y (ordered by xs) m) (λ p. ordered-elim y xs p)
    where
      go : (y ≡ x) ⊎ Memᴰ y (ordered by xs) → (Memᴰ y (ordered by xs) → Memᴰ y xs) → Memᴰ y (x ∷ xs)
      go (inl e) rest = Memᴰ.head e
      go (inr n) rest = Memᴰ.tail (rest n)

  -- and what stood in it, and x, still stand
  placed-intro : (x y : A) (ys : List A) → (y ≡ x) ⊎ Memᴰ y ys → Memᴰ y (placed by x ys)
  unfolding placed
  placed-intro x y [] (inl e) = Memᴰ.head e
  placed-intro x y [] (inr m) = absurd (Memᴰ.not-nil m)
  placed-intro x y (z ∷ zs) s = go (by x z) s (λ q. placed-intro x y zs q)
    where
      at : (y ≡ x) ⊎ Memᴰ y (z ∷ zs) → Memᴰ y (x ∷ z ∷ zs)
      at (inl e) = Memᴰ.head e
      at (inr m) = Memᴰ.tail m

      among : (y ≡ z) ⊎ Memᴰ y zs → ((y ≡ x) ⊎ Memᴰ y zs → Memᴰ y (placed by x zs)) → Memᴰ y (z ∷ placed by x zs)
      among (inl e) rest = Memᴰ.head e
      among (inr m) rest = Memᴰ.tail (rest (inr m))

      later : (y ≡ x) ⊎ Memᴰ y (z ∷ zs) → ((y ≡ x) ⊎ Memᴰ y zs → Memᴰ y (placed by x zs)) → Memᴰ y (z ∷ placed by x zs)
      later (inl e) rest = Memᴰ.tail (rest (inl e))
      later (inr m) rest = among (Memᴰ.cases_cons m) rest

      go : (t : Bool) → (y ≡ x) ⊎ Memᴰ y (z ∷ zs) → ((y ≡ x) ⊎ Memᴰ y zs → Memᴰ y (placed by x zs))
          → Memᴰ y (elim t as (λ _. List A) [ true ↦ x ∷ z ∷ zs | false ↦ z ∷ placed by x zs ])
      go true q rest = at q
      go false q rest = later q rest

  pub ordered-intro : (y : A) (xs : List A) → Memᴰ y xs → Memᴰ y (ordered by xs)
  unfolding ordered
  ordered-intro y [] m = m
  ordered-intro y (x ∷ xs) m = placed-intro x y (ordered by xs) (go (Memᴰ.cases_cons m) (λ p. ordered-intro y xs p))
    where
      go : (y ≡ x) ⊎ Memᴰ y xs → (Memᴰ y xs → Memᴰ y (ordered by xs)) → (y ≡ x) ⊎ Memᴰ y (ordered by xs)
      go (inl e) rest = inl e
      go (inr n) rest = inr (rest n)

  -- what ascends already stays as it is
  pub ordered-already : (xs : List A) → Ascending (λ x y. by x y ≡ true) xs → ordered by xs ≡ xs
  unfolding ordered
  ordered-already [] a = refl
  ordered-already (x ∷ xs) a = ap (placed by x) (ordered-already xs a.1) ∙ first xs a.0
    where
      first : (ys : List A) → ((y : A) → Memᴰ y ys → by x y ≡ true) → placed by x ys ≡ x ∷ ys
      first [] h = placed_end
      first (y ∷ ys) h = placed_first x y ys (h y (Memᴰ.head refl))

  -- it is neither more nor less
  placed-length : (x : A) (ys : List A) → length (placed by x ys) ≡ suc (length ys)
  unfolding placed
  placed-length x [] = refl
  placed-length x (y ∷ ys) = go (by x y) (placed-length x ys)
    where
      go : (t : Bool) → length (placed by x ys) ≡ suc (length ys) → length {A = A} (elim t as (λ _. List A) [ true ↦ x ∷ y ∷ ys | false ↦ y ∷ placed by x ys ]) ≡ suc (suc (length ys))
      go true e = refl
      go false e = ap suc e

  pub ordered-length : (xs : List A) → length (ordered by xs) ≡ length xs
  unfolding ordered
  ordered-length [] = refl
  ordered-length (x ∷ xs) = placed-length x (ordered by xs) ∙ ap suc (ordered-length xs)

  -- and ascends
  module _ (total : (x y : A) → by x y ≡ false → by y x ≡ true) (trans : (x y z : A) → by x y ≡ true → by y z ≡ true → by x z ≡ true) where
    abbrev Goes : A → A → Type 0
    Goes x y = by x y ≡ true

    placed-ascends : (x : A) (ys : List A) → Ascending Goes ys → Ascending Goes (placed by x ys)
    unfolding placed
    placed-ascends x [] a = (λ y m. absurd (Memᴰ.not-nil m), tt)
    placed-ascends x (y ∷ ys) a = go (by x y) refl (placed-ascends x ys a.1)
      where
        first : by x y ≡ true → (z : A) → (z ≡ y) ⊎ Memᴰ z ys → Goes x z
        first q z (inl e) = ap (by x) e ∙ q
        first q z (inr m) = trans x y z q (a.0 z m)

        later : by x y ≡ false → (z : A) → (z ≡ x) ⊎ Memᴰ z ys → Goes y z
        later q z (inl e) = ap (by y) e ∙ total x y q
        later q z (inr m) = a.0 z m

        go : (t : Bool) → by x y ≡ t → Ascending Goes (placed by x ys) → Ascending Goes (elim t as (λ _. List A) [ true ↦ x ∷ y ∷ ys | false ↦ y ∷ placed by x ys ])
        go true q rest = (λ z m. first q z (Memᴰ.cases_cons m), a)
        go false q rest = (λ z m. later q z (placed-elim x z ys m), rest)

    pub ordered-ascends : (xs : List A) → Ascending Goes (ordered by xs)
    unfolding ordered
    ordered-ascends [] = tt
    ordered-ascends (x ∷ xs) = placed-ascends x (ordered by xs) (ordered-ascends xs)

  -- two that are put in one after the other, in either order
  module _ (o : Order by) where
    -- where each would stand first
    both_first : (x y : A) (l : List A) → placed by x l ≡ x ∷ l → placed by y l ≡ y ∷ l → placed by x (y ∷ l) ≡ placed by y (x ∷ l)
    both_first x y l p q = go (by x y) refl (by y x) refl
      where
        go : (t : Bool) → by x y ≡ t → (s : Bool) → by y x ≡ s → placed by x (y ∷ l) ≡ placed by y (x ∷ l)
        go true e true f = let g : x ≡ y = o.both x y e f in cc (g)
        go true e false f = placed_first x y l e ∙ ap (λ (m : List A). x ∷ m) (sym q) ∙ sym (placed-later y x l f)
        go false e true f = placed-later x y l e ∙ ap (λ (m : List A). y ∷ m) p ∙ sym (placed_first y x l f)
        go false e false f = absurd (not-both (by x y) (o.total y x f) e)

    -- where x stands before z and y after it
    one-first : (x y z : A) (zs : List A) → by x z ≡ true → by y z ≡ false → placed by x (placed by y (z ∷ zs)) ≡ placed by y (placed by x (z ∷ zs))
    one-first x y z zs p q =
        let later : by y x ≡ false = by_bool (λ b. by y x ≡ b → by y x ≡ false) (by y x) (λ e. absurd (not-both (by y z) (o.trans y x z e p) q)) (λ e. e) refl in
        ap (placed by x) (placed-later y z zs q) ∙ placed_first x z (placed by y zs) p ∙ ap (λ (m : List A). x ∷ m) (sym (placed-later y z zs q))
        ∙ sym (placed-later y x (z ∷ zs) later) ∙ sym (ap (placed by y) (placed_first x z zs p))

    pub placed-commute : (x y : A) (zs : List A) → placed by x (placed by y zs) ≡ placed by y (placed by x zs)
    unfolding placed
    placed-commute x y [] = both_first x y [] refl refl
    placed-commute x y (z ∷ zs) = go (by x z) refl (by y z) refl (placed-commute x y zs)
      where
        go : (t : Bool) → by x z ≡ t → (s : Bool) → by y z ≡ s → placed by x (placed by y zs) ≡ placed by y (placed by x zs)
            → placed by x (placed by y (z ∷ zs)) ≡ placed by y (placed by x (z ∷ zs))
        go true p true q rest =
            ap (placed by x) (placed_first y z zs q) ∙ both_first x y (z ∷ zs) (placed_first x z zs p) (placed_first y z zs q)
            ∙ sym (ap (placed by y) (placed_first x z zs p))
        go true p false q rest = one-first x y z zs p q
        go false p true q rest = sym (one-first y x z zs q p)
        go false p false q rest =
            ap (placed by x) (placed-later y z zs q) ∙ placed-later x z (placed by y zs) p ∙ ap (λ (m : List A). z ∷ m) rest
            ∙ sym (placed-later y z (placed by x zs) q) ∙ sym (ap (placed by y) (placed-later x z zs p))

    -- an element is put into what the others come to, wherever it stands among them
    pub ordered-among : (us : List A) (x : A) (vs : List A) → ordered by (us ++ x ∷ vs) ≡ placed by x (ordered by (us ++ vs))
    unfolding ordered
    ordered-among [] x vs = refl
    ordered-among (u ∷ us) x vs = ap (placed by u) (ordered-among us x vs) ∙ placed-commute u x (ordered by (us ++ vs))

-- what passes a test is neither more nor less
pub count-placed : {A : Type 0} (test : A → Bool) (by : List A → List A → Bool) (x : List A) (ls : List (List A)) → count_of test (flatten (placed by x ls)) ≡ count_of test x + count_of test (flatten ls)
unfolding placed flatten
count-placed test by x [] = count-append test x []
count-placed {A} test by x (l ∷ ls) = go (by x l) (count-placed test by x ls)
  where
    go : (t : Bool) → count_of test (flatten (placed by x ls)) ≡ count_of test x + count_of test (flatten ls)
        → count_of test (flatten (elim t as (λ _. List (List A)) [ true ↦ x ∷ l ∷ ls | false ↦ l ∷ placed by x ls ])) ≡ count_of test x + count_of test (l ++ flatten ls)
    go true e = count-append test x (l ++ flatten ls)
    go false e =
        let a : count_of test (l ++ flatten (placed by x ls)) ≡ count_of test l + count_of test (flatten (placed by x ls)) = count-append test l (flatten (placed by x ls)) in
        let b : count_of test (l ++ flatten ls) ≡ count_of test l + count_of test (flatten ls) = count-append test l (flatten ls) in
        omega arith

-- two ways of comparing that agree on each element and every later one
module _ {A : Type 0} (by like : A → A → Bool) where
  placed-agree : (x : A) (ys : List A) → ((y : A) → Memᴰ y ys → by x y ≡ like x y) → placed by x ys ≡ placed like x ys
  unfolding placed
  placed-agree x [] h = refl
  placed-agree x (y ∷ ys) h =
      ap (λ (b : Bool). elim b as (λ _. List A) [ true ↦ x ∷ y ∷ ys | false ↦ y ∷ placed by x ys ]) (h y (Memᴰ.head refl))
      ∙ ap (λ (l : List A). elim (like x y) as (λ _. List A) [ true ↦ x ∷ y ∷ ys | false ↦ y ∷ l ]) (placed-agree x ys (λ z m. h z (Memᴰ.tail m)))

  pub ordered-agree : (xs : List A) → Ascending (λ x y. by x y ≡ like x y) xs → ordered by xs ≡ ordered like xs
  unfolding ordered
  ordered-agree [] a = refl
  ordered-agree (x ∷ xs) a =
      placed-agree x (ordered by xs) (λ y m. a.0 y (ordered-elim by y xs m)) ∙ ap (placed like x) (ordered-agree xs a.1)

-- keys in place of elements
module _ {A B : Type 0} (key : A → B) (by : B → B → Bool) where
  pub placed-map : (x : A) (ys : List A) → map key (placed (λ a b. by (key a) (key b)) x ys) ≡ placed by (key x) (map key ys)
  unfolding placed
  placed-map x [] = refl
  placed-map x (y ∷ ys) = go (by (key x) (key y)) (placed-map x ys)
    where
      go : (t : Bool) → map key (placed (λ a b. by (key a) (key b)) x ys) ≡ placed by (key x) (map key ys)
          → map key (elim t as (λ _. List A) [ true ↦ x ∷ y ∷ ys | false ↦ y ∷ placed (λ a b. by (key a) (key b)) x ys ])
          ≡ (elim t as (λ _. List B) [ true ↦ key x ∷ key y ∷ map key ys | false ↦ key y ∷ placed by (key x) (map key ys) ])
      go true rest = refl
      go false rest = ap (λ (m : List B). key y ∷ m) rest

  pub ordered-map : (xs : List A) → map key (ordered (λ a b. by (key a) (key b)) xs) ≡ ordered by (map key xs)
  unfolding ordered
  ordered-map [] = refl
  ordered-map (x ∷ xs) = placed-map x (ordered (λ a b. by (key a) (key b)) xs) ∙ ap (placed by (key x)) (ordered-map xs)

-- ---- two lists whose elements correspond, each once, come to the same

-- each element is unlike every later one
abbrev pub Unlike : {A : Type 0} → List A → Type 0
Unlike {A} xs = Ascending (λ (x y : A). x ≡ y → ⊥) xs

-- a member parts its list
part : {A : Type 0} (x : A) (xs : List A) → Memᴰ x xs → (us : List A) × (vs : List A) × (xs ≡ us ++ x ∷ vs)
part x [] m = absurd (Memᴰ.not-nil m)
part {A} x (y ∷ ys) m = go (Memᴰ.cases_cons m) (λ p. part x ys p)
  where
    go : (x ≡ y) ⊎ Memᴰ x ys → (Memᴰ x ys → (us : List A) × (vs : List A) × (ys ≡ us ++ x ∷ vs)) → (us : List A) × (vs : List A) × (y ∷ ys ≡ us ++ x ∷ vs)
    go (inl e) rest = ([], ys, ap (λ (z : A). z ∷ ys) (sym e))
    go (inr p) rest = let r = rest p in (y ∷ r.0, r.1, ap (λ (zs : List A). y ∷ zs) r.2)

module _ {A : Type 0} where
  -- a member of the list without one element, and the other way round
  among-other : (us : List A) (x : A) (vs : List A) (y : A) → Memᴰ y (us ++ x ∷ vs) → (y ≡ x) ⊎ Memᴰ y (us ++ vs)
  among-other us x vs y m = go (Memᴰ.append_cases us m)
    where
      after : (y ≡ x) ⊎ Memᴰ y vs → (y ≡ x) ⊎ Memᴰ y (us ++ vs)
      after (inl e) = inl e
      after (inr n) = inr (Memᴰ.append_right us n)

      go : Memᴰ y us ⊎ Memᴰ y (x ∷ vs) → (y ≡ x) ⊎ Memᴰ y (us ++ vs)
      go (inl n) = inr (Memᴰ.append_left vs n)
      go (inr n) = after (Memᴰ.cases_cons n)

  other-among : (us : List A) (x : A) (vs : List A) (y : A) → Memᴰ y (us ++ vs) → Memᴰ y (us ++ x ∷ vs)
  other-among us x vs y m = go (Memᴰ.append_cases us m)
    where
      go : Memᴰ y us ⊎ Memᴰ y vs → Memᴰ y (us ++ x ∷ vs)
      go (inl n) = Memᴰ.append_left (x ∷ vs) n
      go (inr n) = Memᴰ.append_right us (Memᴰ.tail n)

  -- of distinct elements one is none of the others, which are distinct
  unlike-without : (us : List A) (x : A) (vs : List A) → Unlike (us ++ x ∷ vs) → Unlike (us ++ vs) × ((y : A) → Memᴰ y (us ++ vs) → y ≡ x → ⊥)
  unlike-without [] x vs d = (d.1, λ y m e. d.0 y m (sym e))
  unlike-without (u ∷ us) x vs d =
      let r = unlike-without us x vs d.1 in
      ((λ y m. d.0 y (other-among us x vs y m), r.0), λ y m e. go y (Memᴰ.cases_cons m) e (r.1 y))
    where
      go : (y : A) → (y ≡ u) ⊎ Memᴰ y (us ++ vs) → y ≡ x → (Memᴰ y (us ++ vs) → y ≡ x → ⊥) → ⊥
      go y (inl f) e rest = d.0 x (Memᴰ.append_right us (Memᴰ.head refl)) (sym f ∙ e)
      go y (inr n) e rest = rest n e

-- ys are the images of xs under f, each once
pub record Matched {A B : Type 0} (f : A → B) (xs : List A) (ys : List B) : Type 0 where
  pub into : (x : A) → Memᴰ x xs → Memᴰ (f x) ys
  pub onto : (y : B) → Memᴰ y ys → (x : A) × Memᴰ x xs × (f x ≡ y)
  pub apart : (x z : A) → Memᴰ x xs → Memᴰ z xs → f x ≡ f z → x ≡ z
  pub distinct : Unlike xs
  pub images : Unlike ys

module _ {A B C : Type 0} (f : A → B) (g : A → C) (h : B → C) {by : C → C → Bool} (o : Order by) where
  pub ordered-matched : (xs : List A) (ys : List B) → Matched f xs ys → ((x : A) → Memᴰ x xs → g x ≡ h (f x)) → ordered by (map g xs) ≡ ordered by (map h ys)
  unfolding ordered
  ordered-matched [] ys m same = ap (λ (l : List B). ordered by (map h l)) (sym (no-members ys (λ y n. Memᴰ.not-nil (m.onto y n).1)))
  ordered-matched (x ∷ xs) ys m same = go (part (f x) ys (m.into x (Memᴰ.head refl))) (λ us vs p. ordered-matched xs (us ++ vs) p (λ z n. same z (Memᴰ.tail n)))
    where
      rest : (us vs : List B) → ys ≡ us ++ f x ∷ vs → Matched f xs (us ++ vs)
      rest us vs e =
          let d = unlike-without us (f x) vs (subst (λ (l : List B). Unlike l) e m.images) in
          record {
            into = λ z n. into z n (among-other us (f x) vs (f z) (subst (λ (l : List B). Memᴰ (f z) l) e (m.into z (Memᴰ.tail n))));
            onto = λ y n. (let w = m.onto y (subst (λ (l : List B). Memᴰ y l) (sym e) (other-among us (f x) vs y n)) in onto y (d.1 y n) w.0 (Memᴰ.cases_cons w.1) w.2);
            apart = λ z w n k q. m.apart z w (Memᴰ.tail n) (Memᴰ.tail k) q;
            distinct = m.distinct.1;
            images = d.0;
          }
        where
          into : (z : A) → Memᴰ z xs → (f z ≡ f x) ⊎ Memᴰ (f z) (us ++ vs) → Memᴰ (f z) (us ++ vs)
          into z n (inl q) = absurd (m.distinct.0 z n (m.apart x z (Memᴰ.head refl) (Memᴰ.tail n) (sym q)))
          into z n (inr k) = k

          onto : (y : B) → (y ≡ f x → ⊥) → (z : A) → (z ≡ x) ⊎ Memᴰ z xs → f z ≡ y → (w : A) × Memᴰ w xs × (f w ≡ y)
          onto y ne z (inl q) k = absurd (ne (sym k ∙ ap f q))
          onto y ne z (inr n) k = (z, n, k)

      go : ((us : List B) × (vs : List B) × (ys ≡ us ++ f x ∷ vs)) → ((us vs : List B) → Matched f xs (us ++ vs) → ordered by (map g xs) ≡ ordered by (map h (us ++ vs)))
          → ordered by (map g (x ∷ xs)) ≡ ordered by (map h ys)
      go (us, vs, e) again =
          ap (placed by (g x)) (again us vs (rest us vs e)) ∙ ap (λ (c : C). placed by c (ordered by (map h (us ++ vs)))) (same x (Memᴰ.head refl))
          ∙ ap (λ (l : List C). placed by (h (f x)) (ordered by l)) (map-append h us vs)
          ∙ sym (ordered-among by o (map h us) (h (f x)) (map h vs))
          ∙ ap (ordered by) (sym (map-append h us (f x ∷ vs))) ∙ ap (λ (l : List B). ordered by (map h l)) (sym e)
