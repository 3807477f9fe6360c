-- The positions that a pattern's nodes hold, as masks with room for those below 64.
use Rattle.std.specs.Prelude.{ℕ, ◌+◌, ◌<◌, ◌≡◌, ◌&&◌, ◌||◌, eqb, leb, ltb}
use Rattle.std.specs.Int.{from_bool}
use Rattle.model.specs.Lists.{has}
use Rattle.model.specs.Pattern.{Pattern, arity}
use Rattle.questions.specs.Positions.{holders_of}
use Rattle.questions.specs.declared.positions.Seen.{Seen}

-- one more node, with position p or, by 0, none
pub record Sees (before : Seen) (p : ℕ) (after : Seen) : Type 0 where
  pub once : (i : ℕ) → i < 64 → has after.once i ≡ (has before.once i || eqb i p)
  pub twice : (i : ℕ) → i < 64 → has after.twice i ≡ (has before.twice i || (has before.once i && eqb i p))
  pub count : after.count ≡ before.count + from_bool (ltb 0 p)

-- what the pattern's nodes hold, once at least and twice at least, and how many hold a position
pub record SeenIn (P : Pattern) (h : Seen) : Type 0 where
  pub once : (i : ℕ) → i < 64 → has h.once i ≡ leb 1 (holders_of P i)
  pub twice : (i : ℕ) → i < 64 → has h.twice i ≡ leb 2 (holders_of P i)
  pub count : h.count ≡ arity P
