-- The sections of a case by the fields where they begin. Assumes nothing.
use Prim.Native.Nat.{ℕ, ◌+◌, ◌*◌, ◌≤◌, ◌<◌}
use mathlib.Core.Path.{◌≡◌, sym, ap, subst⁻¹}
use mathlib.Core.Bool.{true}
use mathlib.Core.List.{List}
use native.Mathlib.Omega.{arith}
use lib.ListN.{length}
use borrow.Author.Rules.{rules}
use Rattle.model.specs.Limits.{summary_width, pattern_width}
use Rattle.model.specs.Bytes.{first_at, set_at, set_of, case_of, WholeSection, WholeSet, is_whole_case}
use Rattle.model.proofs.Bytes.{whole-case}
use Rattle.format.specs.Given.{pattern_at}

-- the patterns
pub first-pattern : (b : List ℕ) (at : ℕ) → at ≡ first_at b → (case_of b).first ≡ pattern_at b at
unfolding case_of
first-pattern b at e = ap (pattern_at b) (sym e)

pub set-members : (b : List ℕ) (on : ℕ) → on ≡ set_at b → (case_of b).members ≡ set_of b on
unfolding case_of
set-members b on e = ap (set_of b) (sym e)

-- the sections of a whole case are whole
pub whole-summary : (b : List ℕ) → is_whole_case b ≡ true → WholeSection summary_width b 0
whole-summary b w = ((whole-case b).0 w).summary

pub first-section : (b : List ℕ) (at : ℕ) → is_whole_case b ≡ true → at ≡ first_at b → WholeSection pattern_width b at
first-section b at w e = subst⁻¹ (WholeSection pattern_width b) e ((whole-case b).0 w).first

pub set-sections : (b : List ℕ) (on : ℕ) → is_whole_case b ≡ true → on ≡ set_at b → WholeSet b on
set-sections b on w e = subst⁻¹ (WholeSet b) e ((whole-case b).0 w).members

-- a whole case has its first count and the set's
pub whole-count : (b : List ℕ) → is_whole_case b ≡ true → 1 < length b
whole-count b w = let s = ((whole-case b).0 w).summary.count in omega arith

pub whole-set-count : (b : List ℕ) (on : ℕ) → is_whole_case b ≡ true → on ≡ set_at b → 2 * (on + 1) ≤ length b
whole-set-count b on w e = (set-sections b on w e).count

pub ruleset sections = (rules, whole-summary, first-section, set-sections, whole-count, whole-set-count)
