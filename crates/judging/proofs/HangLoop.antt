-- The loop that climbs a chain: where it stands, and that each turn keeps it. Assumes nothing.
use Prim.Native.Nat.{ℕ, ◌≤◌, ◌<◌}
use mathlib.Core.Path.{◌≡◌, sym, ap, ◌∙◌, subst₂}
use mathlib.Core.Logic.{◌⊎◌, inl, inr}
use native.Mathlib.Omega.{arith}
use native.Mathlib.Nat.{eq-zero-or-pos}
use Rattle.model.specs.Tree.{Rooted}
use Rattle.judging.specs.Judging.{nobody, Sets, node_by, hang_by}
use Rattle.judging.proofs.ChainLaws.{Climbing, climbing-start, climbing-step, climbing-end}

-- a parent is no greater
pub rooted-le : {n : ℕ} {parent : ℕ → ℕ} → Rooted n parent → (x : ℕ) → x < n → parent x ≤ x
rooted-le {n} {parent} t x h = go (eq-zero-or-pos x)
  where
    go : (x ≡ 0) ⊎ (0 < x) → parent x ≤ x
    go (inl z) = let e : parent x ≡ 0 = ap parent z ∙ t.root in omega arith
    go (inr p) = let l : parent x < x = t.earlier x p h in omega arith

-- h is offered to x, which stands on the way up from x₀, to which h₀ was offered
pub record HangInv (T : Sets) (a h₀ x₀ h x : ℕ) : Type 0 where
  pub inside : x < 64
  pub climbs : (whole : ℕ) → Climbing T a whole x₀ h₀ → Climbing T a whole x h

module _ {T : Sets} {a : ℕ} (R : Rooted 64 T.up) where
  pub hang-step : {h₀ x₀ h x i y : ℕ} → HangInv T a h₀ x₀ h x → a < x → i ≡ node_by T x nobody h → y ≡ T.up x → HangInv T a h₀ x₀ i y
  hang-step {h₀} {x₀} {h} {x} {i} {y} v l p q =
      let k : T.up x < x = R.earlier x (omega arith) v.inside in
      let m : x < 64 = v.inside in
      record {
        inside = omega arith;
        climbs = λ whole c. subst₂ (Climbing T a whole) (sym q) (sym p) (climbing-step T a whole x h l k (v.climbs whole c));
      }

  -- the climb began above b, which n holds and from which g hangs
  pub hang-end : {b h₀ x₀ h x : ℕ} (n g : ℕ) → HangInv T a h₀ x₀ h x → x ≤ a → b < 64 → h₀ ≡ node_by T b n g → x₀ ≡ T.up b → h ≡ hang_by T a b n g
  hang-end {b} {h₀} {x₀} {h} {x} n g v l d p q =
      climbing-end T a (hang_by T a b n g) x h l
      (v.climbs (hang_by T a b n g) (subst₂ (Climbing T a (hang_by T a b n g)) (sym q) (sym p) (climbing-start T a b n g (rooted-le R b d))))
