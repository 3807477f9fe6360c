-- Where a set ends, by a walk over its sections, which carries along the field of the present member: it stops where a count is not whole,
-- since later members stand further on. Assumes nothing.
use Prim.Native.Nat.{ℕ, ◌+◌, ◌-◌, ◌/◌, ◌≤◌, ◌<◌}
use mathlib.Core.Path.{◌≡◌, sym, ap, ◌∙◌}
use mathlib.Core.Bool.{false}
use mathlib.Core.List.{List}
use native.Mathlib.Omega.{arith}
use lib.Dec.{eqb}
use lib.ListN.{length}
use borrow.Author.Rules.{rules}
use borrow.Author.Tests.{ne_eqb}
use Rattle.model.specs.Limits.{pattern_width}
use Rattle.model.specs.Bytes.{field, section_end, member_at, set_end, set_of}
use Rattle.model.proofs.Bytes.{member-first, member-later}
use Rattle.format.proofs.SectionLaws.{set-count, member-step}

-- the walk has come to member i, of n, at field `at`
pub record Walked (b : List ℕ) (on n at i : ℕ) : Type 0 where
  pub here : at ≡ member_at b on i
  pub inside : i ≤ n

pub walk_none : (b : List ℕ) (on n : ℕ) → Walked b on n (on + 1) 0
walk_none b on n = record { here = sym (member-first b on); inside = omega arith }

pub walk_more : (b : List ℕ) (on n at i end : ℕ) → Walked b on n at i → i < n → end ≡ section_end pattern_width b at → Walked b on n end (i + 1)
walk_more b on n at i end w h e = record { here = member-step b on i w.here e; inside = omega arith }

module _ (b : List ℕ) (on n at i : ℕ) (w : Walked b on n at i) (e : n ≡ length (set_of b on)) where
  pub walk-cut : i < n → length b / 2 ≤ at → false ≡ eqb (length b / 2) (set_end b on)
  walk-cut h k =
      let c : length (set_of b on) ≡ field b on = set-count b on in
      let l : member_at b on i + (field b on - i) ≤ member_at b on (i + (field b on - i)) = member-later b on i (field b on - i) in
      let s : member_at b on (i + (field b on - i)) ≡ member_at b on (field b on) = ap (member_at b on) (omega arith) in
      let p : at ≡ member_at b on i = w.here in
      sym (ne_eqb (length b / 2) (set_end b on) (λ q. omega arith))

  pub walk_ends : n ≤ i → eqb (length b / 2) at ≡ eqb (length b / 2) (set_end b on)
  walk_ends h =
      let k = w.inside in
      let c = set-count b on in
      ap (eqb (length b / 2)) (w.here ∙ ap (member_at b on) (omega arith))

pub ruleset walked = (rules, walk_none, walk_more, walk-cut, walk_ends)
