-- Laws of tests on numbers and of their conjunctions. Assumes nothing.
use Prim.Native.Nat.{ℕ, zero, suc, ◌+◌, ◌-◌, ◌≤◌, ◌<◌}
use mathlib.Core.Path.{◌≡◌, refl, sym, ap, ◌∙◌}
use mathlib.Core.Bool.{Bool, true, false, ◌&&◌, not}
use native.Mathlib.Omega.{arith}
use lib.Dec.{leb, ltb, eqb}
use borrow.Author.Rules.{rules}
use borrow.Author.Tests.{eq-eqb, eqb-true, le-leb, leb-true, lt-leb, not-true, not-false}
use Rattle.model.specs.Fitting.{parent_rule}
use Rattle.model.proofs.ListLaws.{bool-ext}

-- what a branch on `!answer` tells of the test that the answer equals
pub said-no : (answer test : Bool) → answer ≡ test → not answer ≡ true → test ≡ false
said-no answer test e n = sym e ∙ not-true answer n

pub said-yes : (answer test : Bool) → answer ≡ test → not answer ≡ false → test ≡ true
said-yes answer test e n = sym e ∙ not-false answer n

-- a conjunction whose second part fails
pub and_no : (a : Bool) → (a && false) ≡ false
and_no true = refl
and_no false = refl

pub and_assoc : (a b c : Bool) → (a && b && c) ≡ (a && (b && c))
and_assoc true b c = refl
and_assoc false b c = refl

pub eqb-sym : (a b : ℕ) → eqb a b ≡ eqb b a
eqb-sym a b = bool-ext (eqb a b) (eqb b a) (λ e. eq-eqb b a (sym (eqb-true a b e))) (λ e. eq-eqb a b (sym (eqb-true b a e)))

-- ---- tests that are joined, each asked by `if !answer { return false; }`: `search joined`

pub told-no : (answer test : Bool) → answer ≡ test → not answer ≡ true → false ≡ test
told-no answer test e f = sym (said-no answer test e f)

pub told-yes : (answer test : Bool) → answer ≡ test → not answer ≡ false → true ≡ test
told-yes answer test e t = sym (said-yes answer test e t)

pub and-no-left : (a b : Bool) → false ≡ a → false ≡ (a && b)
and-no-left a b e = ap (λ (t : Bool). t && b) e

pub and-yes-left : (r a b : Bool) → true ≡ a → r ≡ b → r ≡ (a && b)
and-yes-left r a b e g = g ∙ ap (λ (t : Bool). t && b) e

pub ruleset joined = (rules, told-no, told-yes, and-no-left, and-yes-left)

-- a sum is at most m exactly when one part is at most what the other leaves
pub sum-at-most : (t l m : ℕ) → l ≤ m → leb t (m - l) ≡ leb (t + l) m
sum-at-most t l m h = bool-ext (leb t (m - l)) (leb (t + l) m) forth back
  where
    forth : leb t (m - l) ≡ true → leb (t + l) m ≡ true
    forth e = let k = leb-true t (m - l) e in le-leb (t + l) m (omega arith)

    back : leb (t + l) m ≡ true → leb t (m - l) ≡ true
    back e = let k = leb-true (t + l) m e in le-leb t (m - l) (omega arith)

-- a sum one part of which is more than m is more than m
pub sum_more : (t l m : ℕ) → m < l → leb (t + l) m ≡ false
sum_more t l m h = lt-leb (t + l) m (omega arith)

-- the rule for parents, by the two kinds of record
pub parent-of-root : (i p : ℕ) → i ≡ 0 → parent_rule i p ≡ eqb p 0
unfolding parent_rule
parent-of-root zero p e = refl
parent-of-root (suc i) p e = absurd (omega arith)

pub parent-of-other : (i p : ℕ) → (i ≡ 0 → ⊥) → parent_rule i p ≡ ltb p i
unfolding parent_rule
parent-of-other zero p n = absurd (n refl)
parent-of-other (suc i) p n = refl
