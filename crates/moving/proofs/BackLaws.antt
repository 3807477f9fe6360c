-- Question 15 by what the code reads: the set's count, then the figures of the first pattern and of the one member. Assumes nothing.
use Prim.Native.Nat.{ℕ, zero, suc, ◌+◌}
use mathlib.Core.Path.{◌≡◌, refl, sym, ap, ap₂, ◌∙◌, subst}
use mathlib.Core.Bool.{Bool, true, false, ◌&&◌}
use mathlib.Core.List.{List, [], ◌∷◌}
use native.Mathlib.Omega.{arith}
use native.Mathlib.Numerals.{add-one}
use lib.Dec.{eqb}
use lib.ListN.{length, get_or}
use borrow.Author.Tests.{ne_eqb}
use Rattle.std.specs.List.{range_with_len, list_all}
use Rattle.model.specs.Lists.{up_from, all_of}
use Rattle.model.specs.Limits.{pattern_width}
use Rattle.model.specs.Pattern.{PatternRecord, Pattern, no_pattern_record, pattern_figure}
use Rattle.model.specs.Bytes.{first_at, set_at, member_at, set_of, case_of, is_whole_case, WholeSection, WholeSet}
use Rattle.model.specs.Moving.{figureless, goes_back}
use Rattle.model.proofs.ListLaws.{bool-ext, all-intro, all-elim, all-below, below_all, mem-at, at_mem}
use Rattle.model.proofs.Bytes.{whole-case, member-first}
use Rattle.format.specs.Given.{pattern_at}
use Rattle.format.proofs.SectionLaws.{set-member, member-section}
use Rattle.questions.proofs.SectionLaws.{first-pattern, set-members}

-- ---- one pattern

abbrev pub no_figure : Pattern → ℕ → Bool
no_figure P q = eqb (pattern_figure P q) 0

-- its records by their numbers
pub by_number : (P : Pattern) → figureless P ≡ all_of (no_figure P) (up_from 0 (length P))
unfolding figureless
by_number P = bool-ext (all_of test P) (all_of (no_figure P) (up_from 0 (length P))) forth back
  where
    test : PatternRecord → Bool
    test r = eqb r.figure 0

    forth : all_of test P ≡ true → all_of (no_figure P) (up_from 0 (length P)) ≡ true
    forth e = below_all (no_figure P) (length P) (λ q h. all-elim test P e (get_or P q no_pattern_record) (mem-at P q no_pattern_record h))

    back : all_of (no_figure P) (up_from 0 (length P)) ≡ true → all_of test P ≡ true
    back e = all-intro test P (λ r m. let k = at_mem P r no_pattern_record m in subst (λ (x : PatternRecord). test x ≡ true) k.2 (all-below (no_figure P) (length P) e k.0 k.1))
