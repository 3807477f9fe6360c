-- A set of members, by what is known of each, ts, and a row for each of them: an embedding passes if it does by at least one member.
use Rattle.std.specs.Prelude.{ℕ, ◌<◌, ◌≡◌, Bool, List, [], length, get_or}
use Rattle.model.specs.Lists.{up_from, any_of}
use Rattle.model.specs.Pattern.{Pattern}
use Rattle.judging.specs.declared.member.Member.{Member}
use Rattle.judging.specs.declared.masks.Masks.{Masks}
use Rattle.judging.specs.Blocks.{no_member, last_in, sets_in}
use Rattle.judging.specs.Judging.{root_by, judge_by}
use Rattle.judging.specs.Settling.{folded_row, Settled}

-- so says the test for at least one of the members
abbrev pub by_some : (Member → ℕ → Bool) → List Member → Bool
by_some test ts = any_of (λ i. test (get_or ts i no_member) i) (up_from 0 (length ts))

-- a whole embedding passes
unfoldable pub judged_by_some : List Member → Pattern → List ℕ → Bool
judged_by_some ts P es = by_some (λ t i. judge_by (sets_in t) P es) ts

-- each member's row is settled
pub record RowsSettled (ts : List Member) (m : Masks) (P : Pattern) (q : ℕ) (es : List ℕ) (rows : List (List ℕ)) : Type 0 where
  pub each : (i : ℕ) → i < length ts → Settled (get_or ts i no_member) m P q es (get_or rows i [])

-- what ends with node q is folded into each
pub record RowsFolded (ts : List Member) (m : Masks) (P : Pattern) (q : ℕ) (es : List ℕ) (before after : List (List ℕ)) : Type 0 where
  pub each : (i : ℕ) → i < length ts → get_or after i [] ≡ folded_row (sets_in (get_or ts i no_member)) P (last_in m) q es (get_or before i [])

-- a whole embedding passes by a member exactly when the member's root meets by what hangs from it in its row
pub record RowsWhole (ts : List Member) (P : Pattern) (es : List ℕ) (rows : List (List ℕ)) : Type 0 where
  pub each : (i : ℕ) → i < length ts → judge_by (sets_in (get_or ts i no_member)) P es ≡ root_by (sets_in (get_or ts i no_member)) (get_or (get_or rows i []) 0 0)
