-- Chains whose closure changes nothing and answers as a test does: `(a..b).all(|x| ..)` and `members.all(|p| ..)` answer what the test says
-- of all together, and `(0..n).filter(|i| ..).count()` how many pass it. Assumes nothing.
use Prim.Native.Nat.{ℕ, zero, suc, ◌+◌, ◌-◌, ◌<◌}
use mathlib.Core.Path.{◌≡◌, refl, sym, ap, ◌∙◌}
use mathlib.Core.Bool.{Bool, true, false, cond}
use mathlib.Core.List.{List, [], ◌∷◌}
use native.Mathlib.Omega.{arith}
use native.Mathlib.Nat.{add-zero, zero-add, add_assoc}
use native.Mathlib.Numerals.{add-one, one-add}
use lib.ListN.{length, get_or}
use denote.Ref.{Bor}
use denote.Param.Members.{Mut}
use Rattle.std.specs.declared.ops.Range.{Range}
use Rattle.std.specs.declared.iter.Filter.{Filter}
use Rattle.std.specs.Iterator.{ChecksAll, YieldsFirst, Drains}
use Rattle.std.specs.Iterator.Adapters.{filter_source, filter_callee, filter_steps}
use Rattle.std.specs.List.{range_with_len, filter, AllWithin, HoldsAt}
use Rattle.std.specs.Fn.{Called, CalledAt}
use Rattle.std.specs.Bool.{MatchBool}
use Rattle.std.proofs.iter.Yields.{nat_range_steps}
use Rattle.std.proofs.lemmas.Iterator.{cases_from_all, YieldsList-from_range}
use Rattle.std.proofs.lemmas.Iterator.Consumers.{YieldsList-from_first, YieldsList-from_filter, count_from_yields_List}
use Rattle.model.specs.Lists.{up_from, all_of, count_of}

-- ---- all

module _ {A : Type 0} (test : A → Bool) where
  abbrev Told : Bool → List A → Type 0
  Told r xs = MatchBool r (AllWithin (λ x. test x ≡ true) xs 0 (length xs)) ((k : ℕ) × (k < length xs) × HoldsAt (λ x. test x ≡ false) xs k)

  by_items : (r : Bool) (xs : List A) → Told r xs → r ≡ all_of test xs
  unfolding all_of
  by_items true [] h = refl
  by_items true (x ∷ xs) h = rw (h 0 x (omega arith) (omega arith), all_of) (by_items true xs (λ k d l u. h (suc k) d (omega arith) (omega arith)))
  by_items false [] (k, l, f) = absurd (omega arith)
  by_items false (x ∷ xs) (zero, l, f) = rw (f x, all_of) refl
  by_items false (x ∷ xs) (suc k, l, f) = go (test x) (by_items false xs (k, omega arith, f))
    where
      go : (t : Bool) → false ≡ all_of test xs → false ≡ (elim t as (λ _. Bool) [ true ↦ all_of test xs | false ↦ false ])
      go true e = e
      go false e = refl

  -- of what an iterator lists that shows what it has left
  pub all_listed : {F : Type 0} {g : Mut F (A × Unit {0}) Bool} {s u : List A} {f : F} (r : Bool) → ((x : A) (t : Bool) (q : F) → Called g f (x, tt) t q → (q ≡ f) × (t ≡ test x))
      → ChecksAll (YieldsFirst (λ m. m)) g s f r u → r ≡ all_of test s
  all_listed {s = s} {u = u} {f = f} r told d =
      by_items r s
      (cases_from_all u f r (λ x. test x ≡ true) (λ x. test x ≡ false) d (YieldsList-from_first (λ x. x) (λ m. m) s refl) (λ x q k. ((told x true q k).0, sym (told x true q k).1))
      (λ x q k. sym (told x false q k).1))

same_range : (a n : ℕ) → range_with_len a n ≡ up_from a n
unfolding up_from
same_range a zero = refl
same_range a (suc n) = ap (λ (ks : List ℕ). a ∷ ks) (same_range (a + 1) n ∙ ap (λ (b : ℕ). up_from b n) (add-one a))

-- of the numbers of a range
pub all_range : (test : ℕ → Bool) (a n : ℕ) {F : Type 0} {g : Mut F (ℕ × Unit {0}) Bool} {s u : Range ℕ} {f : F} (b : ℕ) (r : Bool) → s ≡ record { start = a; end = b } → b - a ≡ n
    → ((x : ℕ) (t : Bool) (q : F) → Called g f (x, tt) t q → (q ≡ f) × (t ≡ test x)) → ChecksAll nat_range_steps g s f r u → r ≡ all_of test (up_from a n)
all_range test a n {u = u} {f = f} b r e size told d =
    by_items test r (range_with_len a n)
    (cases_from_all u f r (λ x. test x ≡ true) (λ x. test x ≡ false) d (YieldsList-from_range a b n e size) (λ x q k. ((told x true q k).0, sym (told x true q k).1))
    (λ x q k. sym (told x false q k).1))
    ∙ ap (all_of test) (same_range a n)

-- ---- how many

module _ {A : Type 0} (test : A → Bool) (d : A) where
  by_numbers : (xs : List A) (a : ℕ) (at : ℕ → Bool) → ((k : ℕ) → k < length xs → at (a + k) ≡ test (get_or xs k d)) → length (filter at (range_with_len a (length xs))) ≡ count_of test xs
  unfolding count_of
  by_numbers [] a at e = refl
  by_numbers (x ∷ xs) a at e =
      ap (λ (t : Bool). length (cond t (a ∷ rest) rest)) (ap at (sym (add-zero a)) ∙ e 0 (omega arith))
      ∙ go (test x) (by_numbers xs (a + 1) at (λ k h. ap at (add_assoc a 1 k ∙ ap (λ (j : ℕ). a + j) (one-add k)) ∙ e (suc k) (omega arith)))
    where
      rest : List ℕ
      rest = filter at (range_with_len (a + 1) (length xs))

      go : (t : Bool) → length rest ≡ count_of test xs → length (cond t (a ∷ rest) rest) ≡ (elim t as (λ _. ℕ) [ true ↦ suc (count_of test xs) | false ↦ count_of test xs ])
      go true e = ap suc e
      go false e = e

  -- of a table's records, by their numbers
  pub count_range : {F : Type 0} {g : Mut F (Bor ℕ × Unit {0}) Bool} {s : Filter (Range ℕ) F} {f : F} (xs : List A) (n : ℕ) (r : ℕ) → n ≡ length xs
      → filter_source s ≡ record { start = 0; end = n } → filter_callee s ≡ f → ((k : ℕ) (t : Bool) (q : F) → CalledAt g f k t q → (q ≡ f) × (t ≡ test (get_or xs k d)))
      → ((ns : List ℕ) × Drains (filter_steps nat_range_steps g) s ns × (r ≡ length ns)) → r ≡ count_of test xs
  count_range {g = g} {s = s} xs n r size e c told ran =
      count_from_yields_List s r ran (YieldsList-from_filter g (λ k. test (get_or xs k d)) (YieldsList-from_range 0 n (length xs) e (omega arith)) c told)
      ∙ by_numbers xs 0 (λ k. test (get_or xs k d)) (λ k h. ap (λ (j : ℕ). test (get_or xs j d)) (zero-add k))
