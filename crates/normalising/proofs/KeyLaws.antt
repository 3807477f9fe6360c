-- Comparing the numbers of entries is comparing entries. Assumes nothing.
use Prim.Native.Nat.{ℕ, suc, ◌+◌, ◌*◌, ◌/◌, ◌%◌, ◌≤◌, ◌<◌}
use mathlib.Core.Path.{◌≡◌, refl, sym, ap, ap₂, ◌∙◌}
use mathlib.Core.Bool.{Bool, true, false}
use mathlib.Core.Logic.{⊎_elim}
use mathlib.Core.List.{List, [], ◌∷◌, flat_map}
use native.Mathlib.Omega.{arith}
use native.Mathlib.Numerals.{add-one}
use lib.Dec.{ltb}
use lib.ListN.{length, get_or, drop, drop_of_length-le}
use lib.Seq.{drop-cons}
use borrow.Author.Tests.{ne_eqb, lt-ltb, le-ltb, ltb-true, ltb-false}
use Rattle.model.specs.Normal.{Entry, no_entry, not_after, entry_numbers, by_subtree}
use Rattle.model.proofs.ListLaws.{true-or-false}
use Rattle.model.proofs.Ordering.{after_same}
use Rattle.normalising.specs.Keys.{entry_of, key_of}
use Rattle.normalising.specs.Back.{key_parts}
use Rattle.normalising.proofs.TreeLaws.{same-or-other}

-- the number made of its parts
abbrev sum_of : ℕ → ℕ → ℕ → ℕ → ℕ → ℕ
sum_of d l g p f = d * 72057594037927936 + l * 1099511627776 + g * 16777216 + p * 65536 + f

pub packed : (d l g p f : ℕ) → l < 65536 → g < 65536 → p < 256 → f < 65536 → entry_of (sum_of d l g p f) ≡ record { depth = d; label = l; edge = g; position = p; figure = f }
packed d l g p f hl hg hp hf =
    let k : ℕ = sum_of d l g p f in
    let ed : k / 72057594037927936 ≡ d = omega arith in
    let el : k / 1099511627776 % 65536 ≡ l = omega arith in
    let eg : k / 16777216 % 65536 ≡ g = omega arith in
    let ep : k / 65536 % 256 ≡ p = omega arith in
    let ef : k % 65536 ≡ f = omega arith in
    λ i. record { depth = ed i; label = el i; edge = eg i; position = ep i; figure = ef i }

-- ---- comparing

other-head : (x y : ℕ) (r s : List ℕ) → (x ≡ y → ⊥) → not_after (x ∷ r) (y ∷ s) ≡ ltb x y
unfolding not_after
other-head x y r s f = ap (λ (t : Bool). elim t as (λ _. Bool) [ true ↦ not_after r s | false ↦ ltb x y ]) (ne_eqb x y f)

-- by a number of each, where these are not equal
ltb-agree : (a b x y : ℕ) → (a < b → x < y) → (b ≤ a → y ≤ x) → ltb a b ≡ ltb x y
ltb-agree a b x y f g =
    ⊎_elim
    (λ (t : ltb a b ≡ true). t ∙ sym (lt-ltb x y (f (ltb-true a b t))))
    (λ (t : ltb a b ≡ false). t ∙ sym (le-ltb x y (g (ltb-false a b t))))
    (true-or-false (ltb a b))

-- one number after another decides
head-decides : (x y : ℕ) (r s : List ℕ) (t : Bool) → ((x ≡ y → ⊥) → ltb x y ≡ t) → (x ≡ y → not_after r s ≡ t) → not_after (x ∷ r) (y ∷ s) ≡ t
head-decides x y r s t f g = same-or-other x y (λ e. after_same x y r s e ∙ g e) (λ n. other-head x y r s n ∙ f n)

module _ (d l g p f d' l' g' p' f' x y : ℕ)
    (ex : x ≡ sum_of d l g p f) (hl : l < 65536) (hg : g < 65536) (hp : p < 256) (hf : f < 65536)
    (ey : y ≡ sum_of d' l' g' p' f') (hl' : l' < 65536) (hg' : g' < 65536) (hp' : p' < 256) (hf' : f' < 65536) where
  parts-decide : (x ≡ y → ⊥) → (r s : List ℕ) → not_after (d ∷ l ∷ g ∷ p ∷ f ∷ r) (d' ∷ l' ∷ g' ∷ p' ∷ f' ∷ s) ≡ ltb x y
  parts-decide ne r s =
      head-decides d d' (l ∷ g ∷ p ∷ f ∷ r) (l' ∷ g' ∷ p' ∷ f' ∷ s) (ltb x y)
      (λ n. ltb-agree d d' x y (λ h. omega arith) (λ h. let m : d' < d = omega arith in omega arith))
      (λ ed. head-decides l l' (g ∷ p ∷ f ∷ r) (g' ∷ p' ∷ f' ∷ s) (ltb x y)
      (λ n. ltb-agree l l' x y (λ h. omega arith) (λ h. let m : l' < l = omega arith in omega arith))
      (λ el. head-decides g g' (p ∷ f ∷ r) (p' ∷ f' ∷ s) (ltb x y)
      (λ n. ltb-agree g g' x y (λ h. omega arith) (λ h. let m : g' < g = omega arith in omega arith))
      (λ eg. head-decides p p' (f ∷ r) (f' ∷ s) (ltb x y)
      (λ n. ltb-agree p p' x y (λ h. omega arith) (λ h. let m : p' < p = omega arith in omega arith))
      (λ ep. head-decides f f' r s (ltb x y)
      (λ n. ltb-agree f f' x y (λ h. omega arith) (λ h. let m : f' < f = omega arith in omega arith))
      (λ ef. absurd (ne (omega arith)))))))

numbers_of : List Entry → List ℕ
numbers_of es = flat_map entry_numbers es

module _ (x y : ℕ) (es fs : List Entry) where
  -- equal numbers: the rest decides
  key-same : x ≡ y → by_subtree (entry_of x ∷ es) (entry_of y ∷ fs) ≡ by_subtree es fs
  unfolding by_subtree flat_map numbers_of
  key-same e =
      let d : ℕ = (entry_of x).depth in
      let l : ℕ = (entry_of x).label in
      let g : ℕ = (entry_of x).edge in
      let p : ℕ = (entry_of x).position in
      let f : ℕ = (entry_of x).figure in
      ap (λ (k : ℕ). by_subtree (entry_of x ∷ es) (entry_of k ∷ fs)) (sym e)
      ∙ after_same d d (l ∷ g ∷ p ∷ f ∷ numbers_of es) (l ∷ g ∷ p ∷ f ∷ numbers_of fs) refl
      ∙ after_same l l (g ∷ p ∷ f ∷ numbers_of es) (g ∷ p ∷ f ∷ numbers_of fs) refl
      ∙ after_same g g (p ∷ f ∷ numbers_of es) (p ∷ f ∷ numbers_of fs) refl
      ∙ after_same p p (f ∷ numbers_of es) (f ∷ numbers_of fs) refl
      ∙ after_same f f (numbers_of es) (numbers_of fs) refl

  -- others: the smaller comes first
  key-other : (x ≡ y → ⊥) → by_subtree (entry_of x ∷ es) (entry_of y ∷ fs) ≡ ltb x y
  unfolding by_subtree flat_map numbers_of
  key-other f =
      parts-decide (x / 72057594037927936) (x / 1099511627776 % 65536) (x / 16777216 % 65536) (x / 65536 % 256) (x % 65536)
      (y / 72057594037927936) (y / 1099511627776 % 65536) (y / 16777216 % 65536) (y / 65536 % 256) (y % 65536) x y
      (key_parts x) (omega arith) (omega arith) (omega arith) (omega arith) (key_parts y) (omega arith) (omega arith) (omega arith) (omega arith) f (numbers_of es) (numbers_of fs)

-- ---- the loop that compares two rows: they agree before place i, and the rest decides

pub record Comparing (a b : List Entry) (i : ℕ) : Type 0 where
  pub turns : i ≤ length a
  pub both : i ≤ length b
  pub rest : by_subtree a b ≡ by_subtree (drop i a) (drop i b)

module _ {a b : List Entry} where
  pub comparing-start : Comparing a b 0
  comparing-start = record { turns = omega arith; both = omega arith; rest = refl }

  module _ {i : ℕ} (w : Comparing a b i) where
    pub comparing-short : i < length a → length b ≤ i → false ≡ by_subtree a b
    unfolding by_subtree flat_map not_after
    comparing-short h k =
        sym (w.rest ∙ ap₂ (λ (x y : List Entry). by_subtree x y) (drop-cons a i no_entry h) (drop_of_length-le b k))

    pub comparing-end : length a ≤ i → true ≡ by_subtree a b
    unfolding by_subtree flat_map not_after
    comparing-end h = sym (w.rest ∙ ap (λ (x : List Entry). by_subtree x (drop i b)) (drop_of_length-le a h))

    module _ (h : i < length a) (k : i < length b) (x y : ℕ) (ex : entry_of x ≡ get_or a i no_entry) (ey : entry_of y ≡ get_or b i no_entry) where
      heads : by_subtree (drop i a) (drop i b) ≡ by_subtree (entry_of x ∷ drop (suc i) a) (entry_of y ∷ drop (suc i) b)
      heads =
          ap₂ (λ (u v : List Entry). by_subtree u v) (drop-cons a i no_entry h ∙ ap (λ (e : Entry). e ∷ drop (suc i) a) (sym ex))
          (drop-cons b i no_entry k ∙ ap (λ (e : Entry). e ∷ drop (suc i) b) (sym ey))

      pub comparing-step : x ≡ y → Comparing a b (i + 1)
      comparing-step e =
          record {
            turns = omega arith;
            both = omega arith;
            rest =
                w.rest ∙ heads ∙ key-same x y (drop (suc i) a) (drop (suc i) b) e
                ∙ ap (λ (j : ℕ). by_subtree (drop j a) (drop j b)) (sym (add-one i));
          }

      pub comparing-other : (x ≡ y → ⊥) → ltb x y ≡ by_subtree a b
      comparing-other f = sym (w.rest ∙ heads ∙ key-other x y (drop (suc i) a) (drop (suc i) b) f)
