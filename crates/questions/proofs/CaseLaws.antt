-- Questions 3, 4 and 14 by the fields that the code reads: a case, in whichever form, that is cut before one of its counts is not
-- whole, since the end lies after every count. Assumes nothing.
use Prim.Native.Nat.{ℕ, ◌+◌, ◌*◌, ◌/◌, ◌%◌, ◌≤◌, ◌<◌}
use mathlib.Core.Path.{◌≡◌, refl, sym, ap, ◌∙◌, subst}
use mathlib.Core.Bool.{Bool, true, false, ◌&&◌}
use mathlib.Core.Logic.{◌⊎◌, inl, inr}
use mathlib.Core.List.{List}
use native.Mathlib.Omega.{arith}
use lib.Dec.{leb, eqb}
use lib.ListN.{length}
use Rattle.std.proofs.Common.{Option, Some, None, unwrap_or, ltb, MatchOption}
use Rattle.std.proofs.lemmas.Option.{none-some}
use Rattle.std.specs.Bool.{then_some}
use borrow.Author.Rules.{rules}
use borrow.Author.Tests.{ne_eqb, le-leb, lt-leb, leb-true, eqb-true, eq-eqb, lt-ltb, le-ltb, ltb-true}
use Rattle.model.specs.Limits.{max_case_bytes, pattern_width}
use Rattle.model.specs.Bytes.{section_end, first_at, set_at, set_end, case_end, ends_at, is_whole_case}
use Rattle.model.specs.Questions.{case_whole}
use Rattle.model.proofs.ListLaws.{bool-ext, true-or-false, and_intro, and_left, and_right}
use Rattle.model.proofs.Bytes.{set-starts}
use Rattle.questions.specs.Front.{after_first, front_whole, front_end}
use Rattle.questions.proofs.TestLaws.{and_no}

-- ---- what stands before the sections after the first pattern

module _ (width : ℕ) (b : List ℕ) where
  abbrev where_whole : Bool → Option ℕ
  where_whole t = elim t [ true ↦ Some (after_first width b) | false ↦ None ]

  not-front : front_whole width b ≡ false → None ≡ front_end width b
  unfolding front_end
  not-front e = sym (ap where_whole e)

  is_front : front_whole width b ≡ true → Some (after_first width b) ≡ front_end width b
  unfolding front_end
  is_front e = sym (ap where_whole e)

  pub front_long : max_case_bytes < length b → None ≡ front_end width b
  front_long h = not-front (rw (lt-leb (length b) max_case_bytes h) refl)

  pub front-half : (length b % 2 ≡ 0 → ⊥) → None ≡ front_end width b
  front-half n = not-front (rw (ne_eqb (length b % 2) 0 n, and_no (leb (length b) max_case_bytes)) refl)

  -- the field lies at or past the end
  cut : length b / 2 ≤ after_first width b → None ≡ front_end width b
  cut h = not-front (rw (le-ltb (after_first width b) (length b / 2) h) (and_no (leb (length b) max_case_bytes && eqb (length b % 2) 0)))

  pub front-empty : length b / 2 ≡ 0 → None ≡ front_end width b
  front-empty z = cut (omega arith)

  pub front-first : (first : ℕ) → first ≡ first_at b → length b / 2 ≤ first → None ≡ front_end width b
  front-first first p h = cut (omega arith)

  pub front_last : (r : Option ℕ) (first end : ℕ) → first ≡ first_at b → end ≡ section_end width b first → length b ≤ max_case_bytes → length b % 2 ≡ 0
      → r ≡ then_some (ltb end (length b / 2)) end → r ≡ front_end width b
  unfolding front_end
  front_last r first end p q l z e =
      let at : end ≡ after_first width b = q ∙ ap (section_end width b) p in
      let decides : front_whole width b ≡ ltb (after_first width b) (length b / 2) = rw (le-leb (length b) max_case_bytes l, eq-eqb (length b % 2) 0 z) refl in
      e ∙ ap (λ (n : ℕ). then_some (ltb n (length b / 2)) n) at ∙ go (ltb (after_first width b) (length b / 2)) ∙ ap where_whole (sym decides)
    where
      go : (t : Bool) → then_some t (after_first width b) ≡ where_whole t
      go true = refl
      go false = refl

pub ruleset front = (rules, front_long, front-half, front-empty, front-first, front_last)

-- what is found, and that no end is the bytes' where nothing is
pub record Found (width : ℕ) (b : List ℕ) (at : ℕ) : Type 0 where
  pub here : at ≡ after_first width b
  pub size : length b ≤ max_case_bytes
  pub fields : length b % 2 ≡ 0
  pub whole : at < length b / 2

module _ (width : ℕ) (b : List ℕ) where
  whole_found : front_whole width b ≡ true → Found width b (after_first width b)
  whole_found y =
      record {
        here = refl;
        size = leb-true (length b) max_case_bytes (and_left _ _ (and_left _ _ y));
        fields = eqb-true (length b % 2) 0 (and_right (leb (length b) max_case_bytes) _ (and_left _ _ y));
        whole = ltb-true (after_first width b) (length b / 2) (and_right (leb (length b) max_case_bytes && eqb (length b % 2) 0) _ y);
      }

  pub found : (at : ℕ) → Some at ≡ front_end width b → Found width b at
  found at e = go (true-or-false (front_whole width b))
    where
      go : (front_whole width b ≡ true) ⊎ (front_whole width b ≡ false) → Found width b at
      go (inl y) = subst (Found width b) (ap (λ (o : Option ℕ). unwrap_or o 0) (is_front width b y ∙ sym e)) (whole_found y)
      go (inr n) = absurd (none-some at (not-front width b n ∙ sym e))

  -- where nothing is found, the bytes end at no field after it
  pub none : None ≡ front_end width b → (end : ℕ) → after_first width b < end → false ≡ ends_at b end
  none e end h = go (true-or-false (ends_at b end))
    where
      go : (ends_at b end ≡ true) ⊎ (ends_at b end ≡ false) → false ≡ ends_at b end
      go (inl y) =
          let l : length b ≤ max_case_bytes = leb-true (length b) max_case_bytes (and_left _ _ y) in
          let q : length b ≡ 2 * end = eqb-true (length b) (2 * end) (and_right (leb (length b) max_case_bytes) _ y) in
          let w : front_whole width b ≡ true =
          and_intro (and_intro (le-leb (length b) max_case_bytes l) (eq-eqb (length b % 2) 0 (omega arith))) (lt-ltb (after_first width b) (length b / 2) (omega arith)) in
          absurd (none-some _ (e ∙ sym (is_front width b w)))
      go (inr n) = sym n

  -- where it is found, the number of fields decides
  pub by-fields : (at : ℕ) → Found width b at → (n end : ℕ) → n ≡ end → eqb (length b / 2) n ≡ ends_at b end
  by-fields at s n end p = rw (p, le-leb (length b) max_case_bytes s.size) (bool-ext (eqb (length b / 2) end) (eqb (length b) (2 * end)) forth back)
    where
      forth : eqb (length b / 2) end ≡ true → eqb (length b) (2 * end) ≡ true
      forth t = let q = eqb-true (length b / 2) end t in let z = s.fields in eq-eqb (length b) (2 * end) (omega arith)

      back : eqb (length b) (2 * end) ≡ true → eqb (length b / 2) end ≡ true
      back t = let q = eqb-true (length b) (2 * end) t in eq-eqb (length b / 2) end (omega arith)

-- ---- 3

module _ (b : List ℕ) where
  pub no-set : None ≡ front_end pattern_width b → false ≡ case_whole b
  unfolding case_whole is_whole_case
  no-set e = none pattern_width b e (case_end b) (let k = set-starts b (set_at b) in omega arith)

  module _ (on : ℕ) (e : Some on ≡ front_end pattern_width b) where
    pub set-inside : 2 * (on + 1) ≤ length b
    set-inside = let s = found pattern_width b on e in let w = s.whole in omega arith

    pub whole-by-fields : (r : Bool) → r ≡ eqb (length b / 2) (set_end b on) → r ≡ case_whole b
    unfolding case_whole is_whole_case
    whole-by-fields r a = a ∙ by-fields pattern_width b on (found pattern_width b on e) (set_end b on) (case_end b) (ap (set_end b) (found pattern_width b on e).here)

  -- `front_end(b, ..).is_some_and(..)`
  pub by_front : (front : Option ℕ) (r : Bool) → front ≡ front_end pattern_width b → MatchOption front (r ≡ false) (λ on. r ≡ eqb (length b / 2) (set_end b on)) → r ≡ case_whole b
  by_front None r e m = m ∙ no-set e
  by_front (Some on) r e m = whole-by-fields on e r m
