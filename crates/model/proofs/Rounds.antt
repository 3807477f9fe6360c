-- Rounds of striking out: what a round over leaves comes to, and what the verdicts of a round try together. Assumes nothing.
use Prim.Native.Nat.{ℕ, ◌+◌, ◌-◌, ◌*◌, ◌≤◌}
use mathlib.Core.Path.{◌≡◌, refl, sym, ap, ◌∙◌, subst}
use mathlib.Core.Logic.{◌⊎◌, inl, inr}
use mathlib.Core.Option.{none, some, some-injective, none-ne-some, some-ne-none}
use mathlib.Core.List.Memᴰ
use mathlib.Core.List.{List, [], ◌∷◌, ◌++◌, Memᴰ}
use native.Mathlib.Omega.{arith}
use lib.ListN.{length, length-append}
use Rattle.model.specs.Lists.{total}
use Rattle.model.specs.Verdict.{Verdict, included, not_included, stopped, tried_of}
use Rattle.model.specs.Striking.{Round, judged, round}
use Rattle.model.proofs.Verdict.{IsIncluded, included-or-not, included-or-stopped}

-- ---- sums

pub total-append : (ms ns : List ℕ) → total (ms ++ ns) ≡ total ms + total ns
total-append [] ns = omega arith
total-append (m ∷ ms) ns = let e = total-append ms ns in omega arith

-- each is at most L
abbrev pub Each : ℕ → List ℕ → Type 0
Each L ns = total ns ≤ length ns * L

each-cons : (L n : ℕ) (ns : List ℕ) → n ≤ L → Each L ns → Each L (n ∷ ns)
each-cons L n ns h k = omega arith

pub each_append : (L : ℕ) (ms ns : List ℕ) → Each L ms → Each L ns → Each L (ms ++ ns)
each_append L ms ns h k =
    let e = total-append ms ns in
    let l : length (ms ++ ns) ≡ length ms + length ns = length-append ms ns in
    let d : length (ms ++ ns) * L ≡ length ms * L + length ns * L = ap (λ (n : ℕ). n * L) l ∙ omega arith in
    omega arith

pub each-limited : (L : ℕ) (ns : List ℕ) (m : ℕ) → length ns ≤ m → Each L ns → total ns ≤ m * L
each-limited L ns m h k =
    let e : length ns + (m - length ns) ≡ m = omega arith in
    let d : m * L ≡ length ns * L + (m - length ns) * L = ap (λ (n : ℕ). n * L) (sym e) ∙ omega arith in
    omega arith

-- ---- a round

-- what a round over the leaves qs comes to, by the verdict on each, of which tried is at most L
pub record RoundFacts (verdict_on : ℕ → Verdict) (L : ℕ) (qs : List ℕ) (r : Round) : Type 0 where
  pub strikes : (q : ℕ) → r.struck ≡ some q → Memᴰ q qs × IsIncluded (verdict_on q)
  pub keeps : r.struck ≡ none → (q : ℕ) → Memᴰ q qs → IsIncluded (verdict_on q) → ⊥
  pub few : length r.tried ≤ length qs
  pub each : Each L r.tried

module _ (verdict_on : ℕ → Verdict) (L : ℕ) (bound : (q : ℕ) → tried_of (verdict_on q) ≤ L) where
  -- a leaf that is kept
  kept-facts : (q : ℕ) (qs : List ℕ) (n : ℕ) {rest : Round} → (IsIncluded (verdict_on q) → ⊥) → n ≤ L → RoundFacts verdict_on L qs rest
      → RoundFacts verdict_on L (q ∷ qs) (record { struck = rest.struck; tried = n ∷ rest.tried })
  kept-facts q qs n {rest} not-it h f =
      record {
        strikes = λ p e. (let k = f.strikes p e in (Memᴰ.tail k.0, k.1));
        keeps = λ e p m i. at p i (f.keeps e) (Memᴰ.cases_cons m);
        few = let l = f.few in omega arith;
        each = each-cons L n rest.tried h f.each;
      }
    where
      at : (p : ℕ) → IsIncluded (verdict_on p) → ((x : ℕ) → Memᴰ x qs → IsIncluded (verdict_on x) → ⊥) → (p ≡ q) ⊎ Memᴰ p qs → ⊥
      at p i g (inl e) = not-it (subst (λ (x : ℕ). IsIncluded (verdict_on x)) e i)
      at p i g (inr m) = g p m i

  pub round-facts : (qs : List ℕ) → RoundFacts verdict_on L qs (round verdict_on qs)
  unfolding round judged tried_of
  round-facts [] = record { strikes = λ q e. absurd (none-ne-some q e); keeps = λ e q m i. Memᴰ.not-nil m; few = omega arith; each = omega arith }
  round-facts (q ∷ qs) = by-verdict (verdict_on q) refl (round-facts qs)
    where
      by-verdict : (v : Verdict) → verdict_on q ≡ v → RoundFacts verdict_on L qs (round verdict_on qs) → RoundFacts verdict_on L (q ∷ qs) (judged q v (round verdict_on qs))
      by-verdict (included n) e f =
          let h : n ≤ L = subst (λ (v : Verdict). tried_of v ≤ L) e (bound q) in
          record {
            strikes = λ p s. (
                let same : q ≡ p = some-injective q p s in
                (Memᴰ.head (sym same), subst (λ (x : ℕ). IsIncluded (verdict_on x)) same (n, e))
                );
            keeps = λ s. absurd (some-ne-none q s);
            few = omega arith;
            each = omega arith;
          }
      by-verdict (not_included n es) e f = kept-facts q qs n (λ i. included-or-not (verdict_on q) i (n, es, e)) (subst (λ (v : Verdict). tried_of v ≤ L) e (bound q)) f
      by-verdict (stopped n) e f = kept-facts q qs n (λ i. included-or-stopped (verdict_on q) i (n, e)) (subst (λ (v : Verdict). tried_of v ≤ L) e (bound q)) f
