-- Where a walk over a set's members stands.
use Rattle.std.specs.Prelude.{ℕ, ◌≤◌, ◌≡◌, List}
use Rattle.model.specs.Bytes.{field, member_at, WholeSet}

-- of the whole set whose count is field `on`, that many members are passed, and field `at` holds the next one's count
pub record Passed (b : List ℕ) (on at passed : ℕ) : Type 0 where
  pub whole : WholeSet b on
  pub inside : passed ≤ field b on
  pub here : at ≡ member_at b on passed
