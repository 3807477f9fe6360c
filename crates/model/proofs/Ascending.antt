-- Strictly ascending lists, over any relation: each element stands in the relation to every later one. A list that ascends in
-- an asymmetric relation repeats nothing, and its members alone decide it. Assumes nothing.
use Prim.Native.Nat.{ℕ, zero, suc, ◌<◌}
use mathlib.Core.Path.{◌≡◌, refl, sym, ◌∙◌, subst}
use mathlib.Core.Bool.{Bool, true, false}
use mathlib.Core.Logic.{◌⊎◌, inl, inr, ◌↔◌}
use mathlib.Core.List.Memᴰ
use mathlib.Core.List.{List, [], ◌∷◌, ◌++◌, map, flat_map, Memᴰ}
use Rattle.model.specs.Lists.{up_from, keep, Ascending}
use Rattle.model.proofs.ListLaws.{up_from-mem, keep-elim, flat-elim}

module _ {A : Type 0} (R : A → A → Type 0) where
  -- two ascending lists with the same members are equal
  pub ascending-unique : ((x y : A) → R x y → R y x → ⊥) → (xs ys : List A) → Ascending R xs → Ascending R ys
      → ((x : A) → Memᴰ x xs ↔ Memᴰ x ys) → xs ≡ ys
  ascending-unique asym [] [] a b same = refl
  ascending-unique asym [] (y ∷ ys) a b same = absurd (Memᴰ.not-nil ((same y).1 (Memᴰ.head refl)))
  ascending-unique asym (x ∷ xs) [] a b same = absurd (Memᴰ.not-nil ((same x).0 (Memᴰ.head refl)))
  ascending-unique asym (x ∷ xs) (y ∷ ys) a b same =
      let rest : xs ≡ ys = ascending-unique asym xs ys a.1 b.1 (λ z. (
        λ m. later x xs y ys a.0 first z m (Memᴰ.cases_cons ((same z).0 (Memᴰ.tail m))),
        λ m. later y ys x xs b.0 (sym first) z m (Memᴰ.cases_cons ((same z).1 (Memᴰ.tail m))),
      )) in
      cc (first, rest)
    where
      -- either head is the other, or each stands later than the other
      heads : (x ≡ y) ⊎ Memᴰ x ys → (y ≡ x) ⊎ Memᴰ y xs → x ≡ y
      heads (inl e) n = e
      heads (inr m) (inl e) = sym e
      heads (inr m) (inr n) = absurd (asym x y (a.0 y n) (b.0 x m))

      first : x ≡ y
      first = heads (Memᴰ.cases_cons ((same x).0 (Memᴰ.head refl))) (Memᴰ.cases_cons ((same y).1 (Memᴰ.head refl)))

      -- what is later than the one head is not the other head
      later : (u : A) (us : List A) (w : A) (ws : List A) → ((z : A) → Memᴰ z us → R u z) → u ≡ w → (z : A) → Memᴰ z us → (z ≡ w) ⊎ Memᴰ z ws → Memᴰ z ws
      later u us w ws f e z m (inl q) = let h : R u u = subst (R u) (q ∙ sym e) (f z m) in absurd (asym u u h h)
      later u us w ws f e z m (inr n) = n

  pub ascending-append : (xs ys : List A) → Ascending R xs → Ascending R ys → ((x y : A) → Memᴰ x xs → Memᴰ y ys → R x y) → Ascending R (xs ++ ys)
  ascending-append [] ys a b h = b
  ascending-append (x ∷ xs) ys a b h = (λ y m. go y (Memᴰ.append_cases xs m), ascending-append xs ys a.1 b (λ u w m n. h u w (Memᴰ.tail m) n))
    where
      go : (y : A) → Memᴰ y xs ⊎ Memᴰ y ys → R x y
      go y (inl m) = a.0 y m
      go y (inr m) = h x y (Memᴰ.head refl) m

  pub ascending-keep : (test : A → Bool) (xs : List A) → Ascending R xs → Ascending R (keep test xs)
  unfolding keep
  ascending-keep test [] a = tt
  ascending-keep test (x ∷ xs) a = go (test x) (ascending-keep test xs a.1)
    where
      go : (t : Bool) → Ascending R (keep test xs) → Ascending R (elim t as (λ _. List A) [ true ↦ x ∷ keep test xs | false ↦ keep test xs ])
      go true b = (λ y m. a.0 y (keep-elim test y xs m).0, b)
      go false b = b

pub ascending-up_from : (a n : ℕ) → Ascending ◌<◌ (up_from a n)
unfolding up_from
ascending-up_from a zero = tt
ascending-up_from a (suc n) = (λ y m. (up_from-mem (suc a) n y m).0, ascending-up_from (suc a) n)

-- lists that ascend one by one and one after the other
pub ascending-flat : {A B : Type 0} (R : A → A → Type 0) (Q : B → B → Type 0) (f : A → List B) (xs : List A) → Ascending R xs → ((x : A) → Ascending Q (f x))
    → ((x y : A) (b c : B) → R x y → Memᴰ b (f x) → Memᴰ c (f y) → Q b c) → Ascending Q (flat_map f xs)
unfolding flat_map
ascending-flat R Q f [] a each across = tt
ascending-flat {A} {B} R Q f (x ∷ xs) a each across =
    ascending-append Q (f x) (flat_map f xs) (each x) (ascending-flat R Q f xs a.1 each across) (λ b c m n. after b c m (flat-elim f xs c n))
  where
    after : (b c : B) → Memᴰ b (f x) → (y : A) × Memᴰ y xs × Memᴰ c (f y) → Q b c
    after b c m r = across x r.0 b c (a.0 r.0 r.1) m r.2

-- images of what ascends
pub ascending-map : {A B : Type 0} (R : A → A → Type 0) (Q : B → B → Type 0) (f : A → B) (xs : List A) → ((x y : A) → Memᴰ x xs → Memᴰ y xs → R x y → Q (f x) (f y)) → Ascending R xs → Ascending Q (map f xs)
ascending-map R Q f [] h a = tt
ascending-map {A} {B} R Q f (x ∷ xs) h a = (
  λ y m. (let w = Memᴰ.of_map f xs m in subst (Q (f x)) w.2 (h x w.0 (Memᴰ.head refl) (Memᴰ.tail w.1) (a.0 w.0 w.1))),
  ascending-map R Q f xs (λ u v m n r. h u v (Memᴰ.tail m) (Memᴰ.tail n) r) a.1,
)
