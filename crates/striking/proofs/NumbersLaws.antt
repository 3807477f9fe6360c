-- The list of numbers in fixed memory: the first n of a range, and what is left of a list without one item. Assumes nothing.
use Prim.Native.Nat.{ℕ, zero, suc, ◌-◌, ◌≤◌, ◌<◌}
use mathlib.Core.Path.{◌≡◌, refl, sym, ap, ◌∙◌, subst}
use mathlib.Core.List.{List, ◌∷◌, map}
use native.Mathlib.Omega.{arith}
use native.Mathlib.Nat.{not-suc-le-zero, le_of_suc-le-suc}
use lib.ListN.{length, get_or, take, replicate, length-replicate}
use lib.Seq.{length-take-le, get_or-take, ext_get_or}
use Rattle.model.specs.Lists.{up_from}
use Rattle.model.specs.Bytes.{written_at_front}
use Rattle.model.specs.Striking.{raised, removed}
use Rattle.model.proofs.Bytes.{front_length}
use Rattle.model.proofs.ListLaws.{length-map-up_from}
use Rattle.model.proofs.Removing.{raised-inside, length_removed, get_or-removed}
use Rattle.format.proofs.FrontLaws.{front-get_or}
use Rattle.format.proofs.RangeLaws.{get_or-map-below}

-- the first n of a longer range
pub take-up_from : (a n m : ℕ) → n ≤ m → take n (up_from a m) ≡ up_from a n
unfolding up_from
take-up_from a zero m h = refl
take-up_from a (suc n) zero h = absurd (not-suc-le-zero h)
take-up_from a (suc n) (suc m) h = ap (λ (l : List ℕ). a ∷ l) (take-up_from (suc a) n m (le_of_suc-le-suc h))

-- without item q, of the first n
pub left-removed : (q n : ℕ) (old new : List ℕ) → q < n → n ≤ 16 → length old ≡ 16 → new ≡ written_at_front (map (λ i. get_or old (raised q i) 0) (up_from 0 15)) (replicate 16 0)
    → take (n - 1) new ≡ removed q (take n old)
left-removed q n old new h few size e = ext_get_or 0 (take (n - 1) new) (removed q (take n old)) same each
  where
    f : ℕ → ℕ
    f i = get_or old (raised q i) 0

    long : length new ≡ 16
    long = ap (λ (l : List ℕ). length l) e ∙ front_length (map f (up_from 0 15)) (replicate 16 0) (omega (arith, length-map-up_from f 0 15, length-replicate {A = ℕ} 16 0)) ∙ length-replicate {A = ℕ} 16 0

    front : length (take n old) ≡ n
    front = length-take-le n old (omega arith)

    left : length (take (n - 1) new) ≡ n - 1
    left = length-take-le (n - 1) new (omega (arith, long))

    same : length (take (n - 1) new) ≡ length (removed q (take n old))
    same = omega (arith, left, front, length_removed q (take n old) (omega (arith, front)))

    each : (i : ℕ) → i < length (take (n - 1) new) → get_or (take (n - 1) new) i 0 ≡ get_or (removed q (take n old)) i 0
    each i k =
        let j : i < n - 1 = omega (arith, left) in
        get_or-take (n - 1) new i 0 j
        ∙ ap (λ (l : List ℕ). get_or l i 0) e
        ∙ front-get_or (map f (up_from 0 15)) (replicate 16 0) i 0 (omega (arith, length-map-up_from f 0 15))
        ∙ get_or-map-below f 15 i 0 (omega arith)
        ∙ sym (get_or-take n old (raised q i) 0 (subst (λ (m : ℕ). raised q i < m) (let g : suc (n - 1) ≡ n = omega arith in g) (raised-inside q i (n - 1) j)))
        ∙ sym (get_or-removed q (take n old) i 0)
