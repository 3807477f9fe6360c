-- Laws of a range and of what it is mapped to, by recursion over the range: one number more stands at its end, and functions that
-- agree on the range give the same. Assumes nothing.
use Prim.Native.Nat.{ℕ, zero, suc, ◌+◌, ◌<◌}
use mathlib.Core.Path.{◌≡◌, refl, sym, ap, ap₂, ◌∙◌}
use mathlib.Core.List.{List, [], ◌∷◌, ◌++◌, map, map-append}
use native.Mathlib.Omega.{arith}
use native.Mathlib.Nat.{add-zero, add-suc, suc-add, zero-add}
use native.Mathlib.Numerals.{add-one}
use lib.ListN.{get_or}
use Rattle.model.specs.Lists.{up_from}
use Rattle.model.proofs.ListLaws.{get_or-map-up_from}

up_from-suc : (a n : ℕ) → up_from a (suc n) ≡ up_from a n ++ ((a + n) ∷ [])
unfolding up_from
up_from-suc a zero = ap (λ (k : ℕ). k ∷ []) (sym (add-zero a))
up_from-suc a (suc n) = ap (λ (r : List ℕ). a ∷ r) (up_from-suc (suc a) n ∙ ap (λ (k : ℕ). up_from (suc a) n ++ (k ∷ [])) (suc-add a n ∙ sym (add-suc a n)))

pub up_from-last : (a n : ℕ) → up_from a (n + 1) ≡ up_from a n ++ ((a + n) ∷ [])
up_from-last a n = ap (up_from a) (add-one n) ∙ up_from-suc a n

module _ {A : Type 0} (f : ℕ → A) where
  pub map_last : (n : ℕ) → map f (up_from 0 (n + 1)) ≡ map f (up_from 0 n) ++ (f n ∷ [])
  map_last n =
      ap (map f) (up_from-last 0 n) ∙ map-append f (up_from 0 n) ((0 + n) ∷ []) ∙ ap (λ (k : ℕ). map f (up_from 0 n) ++ (f k ∷ [])) (zero-add n)

  pub get_or-map-below : (n i : ℕ) (d : A) → i < n → get_or (map f (up_from 0 n)) i d ≡ f i
  get_or-map-below n i d h = get_or-map-up_from f 0 n i d h ∙ ap f (zero-add i)

map-up_from-ext : {A : Type 0} (f g : ℕ → A) (a n : ℕ) → ((i : ℕ) → i < n → f (a + i) ≡ g (a + i)) → map f (up_from a n) ≡ map g (up_from a n)
unfolding up_from
map-up_from-ext f g a zero h = refl
map-up_from-ext f g a (suc n) h =
    let move : (i : ℕ) → suc a + i ≡ a + suc i = λ i. suc-add a i ∙ sym (add-suc a i) in
    let here : f a ≡ g a = ap f (sym (add-zero a)) ∙ h 0 (omega arith) ∙ ap g (add-zero a) in
    ap₂ (λ (x : _) (xs : List _). x ∷ xs) here
    (map-up_from-ext f g (suc a) n (λ i k. ap f (move i) ∙ h (suc i) (omega arith) ∙ ap g (sym (move i))))

pub map-below-ext : {A : Type 0} (f g : ℕ → A) (n : ℕ) → ((i : ℕ) → i < n → f i ≡ g i) → map f (up_from 0 n) ≡ map g (up_from 0 n)
map-below-ext f g n h = map-up_from-ext f g 0 n (λ i k. ap f (zero-add i) ∙ h i k ∙ ap g (sym (zero-add i)))
