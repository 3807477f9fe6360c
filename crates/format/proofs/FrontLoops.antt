-- The loop that fills a table from the front, one store a turn. Assumes nothing.
use Prim.Native.Nat.{ℕ, ◌+◌, ◌≤◌, ◌<◌}
use mathlib.Core.Path.{◌≡◌, sym, ap, ap₂, ◌∙◌}
use mathlib.Core.List.{List, map}
use native.Mathlib.Omega.{arith}
use lib.ListN.{length, set, length-set}
use Rattle.model.specs.Lists.{up_from}
use Rattle.model.specs.Bytes.{written_at_front}
use Rattle.format.proofs.FrontLaws.{fill_none, fill_more}

-- t, which was b, holds f's values at the places before i, of n that are to come
pub record FilledUpTo {A : Type 0} (f : ℕ → A) (n : ℕ) (b t : List A) (i : ℕ) : Type 0 where
  pub turns : i ≤ n
  pub long : length t ≡ length b
  pub table : t ≡ written_at_front (map f (up_from 0 i)) b

module _ {A : Type 0} {f : ℕ → A} {n : ℕ} {b t : List A} where
  pub filled-start : t ≡ b → FilledUpTo f n b t 0
  filled-start e = record { turns = omega arith; long = ap length e; table = e ∙ sym (fill_none f b) }

  pub filled-step : {i : ℕ} {x : A} → FilledUpTo f n b t i → i < n → n ≤ length b → x ≡ f i → FilledUpTo f n b (set t i x) (i + 1)
  filled-step {i} {x} v h room e =
      record { turns = omega arith; long = length-set t i x ∙ v.long; table = ap₂ (λ (l : List A) (y : A). set l i y) v.table e ∙ fill_more f b i (omega arith) }

  pub filled-end : {i : ℕ} → FilledUpTo f n b t i → n ≤ i → t ≡ written_at_front (map f (up_from 0 n)) b
  filled-end {i} v h =
      let l = v.turns in
      v.table ∙ ap (λ (k : ℕ). written_at_front (map f (up_from 0 k)) b) (let e : i ≡ n = omega arith in e)
