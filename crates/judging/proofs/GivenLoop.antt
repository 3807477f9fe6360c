-- The loop that gathers from the last node down to node 1. Assumes nothing.
use Prim.Native.Nat.{ℕ, zero, suc, ◌-◌, ◌≤◌, ◌<◌}
use mathlib.Core.Path.{◌≡◌, refl, sym, ap, ap₂, ◌∙◌}
use mathlib.Core.List.{List}
use native.Mathlib.Omega.{arith}
use lib.Bits.{bit_or}
use lib.ListN.{length, get_or, set}
use Rattle.judging.specs.Judging.{join_up, gather}

-- one node's turn
pub gather-turn : (parent : ℕ → ℕ) (F : ℕ → ℕ → ℕ) (k : ℕ) (t : List ℕ) → 0 < k → gather parent F k t ≡ gather parent F (k - 1) (join_up parent F k t)
unfolding gather
gather-turn parent F zero t h = absurd (omega arith)
gather-turn parent F (suc k) t h = let e : k ≡ suc k - 1 = omega arith in ap (λ (i : ℕ). gather parent F i (join_up parent F (suc k) t)) e

pub gather_none : (parent : ℕ → ℕ) (F : ℕ → ℕ → ℕ) (k : ℕ) (t : List ℕ) → k ≡ 0 → gather parent F k t ≡ t
unfolding gather
gather_none parent F k t e = ap (λ (i : ℕ). gather parent F i t) e

-- a set joined into the parent's entry
pub join-turn : (parent : ℕ → ℕ) (F : ℕ → ℕ → ℕ) (d j e : ℕ) (t s : List ℕ) → j ≡ parent d → e ≡ F d (get_or t d 0) → s ≡ set t j (bit_or (get_or t j 0) e) → s ≡ join_up parent F d t
unfolding join_up
join-turn parent F d j e t s p q r = r ∙ ap₂ (λ (i k : ℕ). set t i (bit_or (get_or t i 0) k)) p q

-- the nodes from c on had their turn, and going on from t gives the whole
pub record Gathering (parent : ℕ → ℕ) (F : ℕ → ℕ → ℕ) (m : ℕ) (start : List ℕ) (c : ℕ) (t : List ℕ) : Type 0 where
  pub low : 0 < c
  pub top : c ≤ m
  pub long : length t ≡ length start
  pub same : gather parent F (c - 1) t ≡ gather parent F (m - 1) start

module _ {parent : ℕ → ℕ} {F : ℕ → ℕ → ℕ} {m : ℕ} {start : List ℕ} where
  pub gathering-start : {c : ℕ} → c ≡ m → 0 < m → Gathering parent F m start c start
  gathering-start {c} e h = record { low = omega arith; top = omega arith; long = refl; same = ap (λ (k : ℕ). gather parent F (k - 1) start) e }

  pub gathering-step : {c : ℕ} {t : List ℕ} (d : ℕ) (s : List ℕ) → Gathering parent F m start c t → 1 < c → d ≡ c - 1 → s ≡ join_up parent F d t → length s ≡ length t
      → Gathering parent F m start d s
  gathering-step {c} {t} d s v h e p l =
      record {
        low = omega arith;
        top = let k : c ≤ m = v.top in omega arith;
        long = l ∙ v.long;
        same = ap (gather parent F (d - 1)) p ∙ sym (gather-turn parent F d t (omega arith)) ∙ ap (λ (i : ℕ). gather parent F i t) e ∙ v.same;
      }

  pub gathering-end : {c : ℕ} {t : List ℕ} → Gathering parent F m start c t → c ≤ 1 → t ≡ gather parent F (m - 1) start
  gathering-end {c} {t} v h = let l : 0 < c = v.low in sym (gather_none parent F (c - 1) t (omega arith)) ∙ v.same
