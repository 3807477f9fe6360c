-- Questions 3 and 4 of the old form by the fields that the code reads: bytes that are cut before a count are not whole, since the end
-- lies after every count. Assumes nothing.
use Prim.Native.Nat.{ℕ, ◌+◌, ◌*◌, ◌/◌, ◌<◌}
use mathlib.Core.Path.{◌≡◌, sym, ap, ap₂, ◌∙◌}
use mathlib.Core.Bool.{Bool, true, false, ◌&&◌}
use mathlib.Core.List.{List}
use native.Mathlib.Omega.{arith}
use lib.Dec.{eqb}
use lib.ListN.{length}
use borrow.Author.Rules.{rules}
use Rattle.model.specs.Limits.{max_summary, max_pattern, summary_width}
use Rattle.model.specs.Bytes.{field, summary_record_at, section_end, first_at}
use Rattle.model.specs.Questions.{between}
use Rattle.model.specs.OldForm.{old_width, old_record_at, second_at, old_end, old_case_of, old_whole, old_counts_in_range}
use Rattle.model.proofs.WriteBack.{old-whole-facts}
use Rattle.format.proofs.SectionLaws.{section-length}
use Rattle.std.proofs.Common.{Option, Some, None, MatchOption}
use Rattle.questions.specs.Front.{front_end}
use Rattle.questions.proofs.CaseLaws.{found, none, by-fields}

-- ---- 3

module _ (b : List ℕ) where
  pub second-inside : (second : ℕ) → Some second ≡ front_end old_width b → 2 * second + 1 < length b
  second-inside second e = let s = found old_width b second e in let w = s.whole in omega arith

  -- `front_end(b, ..).is_some_and(..)`
  pub by_front : (front : Option ℕ) (r : Bool) → front ≡ front_end old_width b → MatchOption front (r ≡ false) (λ second. r ≡ eqb (length b / 2) (section_end old_width b second)) → r ≡ old_whole b
  unfolding old_whole
  by_front None r e m = m ∙ none old_width b e (old_end b) (omega arith)
  by_front (Some second) r e m =
      m ∙ by-fields old_width b second (found old_width b second e) (section_end old_width b second) (old_end b) (ap (section_end old_width b) (found old_width b second e).here)

-- ---- the counts of a whole old case

pub old-count : (b : List ℕ) → old_whole b ≡ true → 1 < length b
old-count b w = let f = old-whole-facts b w in omega arith

pub old-first-count : (b : List ℕ) (at : ℕ) → old_whole b ≡ true → at ≡ first_at b → 2 * at + 1 < length b
old-first-count b at w e = let f = old-whole-facts b w in omega arith

pub old-second-count : (b : List ℕ) (at : ℕ) → old_whole b ≡ true → at ≡ second_at b → 2 * at + 1 < length b
old-second-count b at w e = let f = old-whole-facts b w in omega arith

pub ruleset old_sections = (rules, old-count, old-first-count, old-second-count)

-- ---- 4

-- by the tables
pub old-counts-asked : (b : List ℕ) (first second : ℕ) (r : Bool) → first ≡ first_at b → second ≡ second_at b
    → r ≡ (between 1 max_summary (field b 0) && between 1 max_pattern (field b first) && between 1 max_pattern (field b second))
    → r ≡ old_counts_in_range (old_case_of b)
unfolding old_counts_in_range old_case_of
old-counts-asked b first second r p q e =
    e ∙ ap₂ (λ (x y : ℕ). between 1 max_summary (field b 0) && between 1 max_pattern (field b x) && between 1 max_pattern (field b y)) p q
    ∙ sym (λ i. between 1 max_summary (section-length summary_record_at summary_width b 0 i) && between 1 max_pattern (section-length old_record_at old_width b (first_at b) i)
    && between 1 max_pattern (section-length old_record_at old_width b (second_at b) i))

-- a count that is asked, by the test's answer
pub count-told : (n x v : ℕ) (answer told : Bool) → answer ≡ between 1 n x → x ≡ v → answer ≡ told → told ≡ between 1 n v
count-told n x v answer told a e t = sym t ∙ a ∙ ap (between 1 n) e
