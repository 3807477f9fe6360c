-- The loop that seeks the first number that passes a test: none before it passes, so the first is the first from there on. Assumes
-- nothing.
use Prim.Native.Nat.{ℕ, suc, ◌+◌, ◌-◌, ◌≤◌, ◌<◌}
use mathlib.Core.Path.{◌≡◌, sym, ap, ◌∙◌}
use mathlib.Core.Bool.{Bool, true, false}
use native.Mathlib.Omega.{arith}
use native.Mathlib.Numerals.{add-one}
use Rattle.model.specs.Lists.{up_from, first_of}

pub record Seeking (test : ℕ → Bool) (m i : ℕ) : Type 0 where
  pub turns : i ≤ m
  pub same : first_of test m (up_from i (m - i)) ≡ first_of test m (up_from 0 m)

module _ (test : ℕ → Bool) (m : ℕ) where
  first_next : (i : ℕ) → i < m → (b : Bool) → test i ≡ b
      → first_of test m (up_from i (m - i)) ≡ (elim b as (λ _. ℕ) [ true ↦ i | false ↦ first_of test m (up_from (suc i) (m - suc i)) ])
  unfolding first_of up_from
  first_next i h b e =
      let k : m - i ≡ suc (m - suc i) = omega arith in
      ap (λ (n : ℕ). first_of test m (up_from i n)) k ∙ rw (e, first_of)

module _ {test : ℕ → Bool} {m : ℕ} where
  pub seeking-start : Seeking test m 0
  seeking-start = record { turns = omega arith; same = ap (λ (n : ℕ). first_of test m (up_from 0 n)) (omega arith) }

  pub seeking-step : {i : ℕ} → Seeking test m i → i < m → test i ≡ false → Seeking test m (i + 1)
  seeking-step {i} s h e =
      record {
        turns = omega arith;
        same = ap (λ (k : ℕ). first_of test m (up_from k (m - k))) (add-one i) ∙ sym (first_next test m i h false e) ∙ s.same;
      }

  pub seeking-found : {i : ℕ} → Seeking test m i → i < m → test i ≡ true → i ≡ first_of test m (up_from 0 m)
  seeking-found {i} s h e = sym (first_next test m i h true e) ∙ s.same

  pub seeking-end : {i : ℕ} → Seeking test m i → m ≤ i → m ≡ first_of test m (up_from 0 m)
  unfolding first_of up_from
  seeking-end {i} s h = let k : m - i ≡ 0 = omega arith in sym (ap (λ (n : ℕ). first_of test m (up_from i n)) k) ∙ s.same
