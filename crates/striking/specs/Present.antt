-- The present pattern: in bytes of its own, and what it keeps while leaves are struck.
use Rattle.std.specs.Prelude.{ℕ, ◌≤◌, ◌<◌, List, length, get_or}
use Rattle.model.specs.Limits.{max_limit, max_position}
use Rattle.model.specs.Summary.{Summary}
use Rattle.model.specs.Pattern.{Pattern, no_pattern_record, arity}
use Rattle.model.specs.Facts.{SummaryFacts, PatternFacts, FewFigures, RecordFits}
use Rattle.format.specs.Given.{pattern_at, PatternGiven, SummaryKept, PatternKept}

-- it stands at their front, and its numbers fit fields
pub record StandsAlone (b : List ℕ) : Type 0 where
  pub given : PatternGiven b 0
  pub fits : (i : ℕ) → i < length (pattern_at b 0) → RecordFits (get_or (pattern_at b 0) i no_pattern_record)

-- it keeps what an accepted case has of its first, beside the case's summary, and the limit is one
pub record Strikable (S : Summary) (P : Pattern) (limit : ℕ) : Type 0 where
  pub summary : SummaryKept S
  pub outline : SummaryFacts S
  pub pattern : PatternKept P
  pub facts : PatternFacts P
  pub some_arity : 1 ≤ arity P
  pub arity_bound : arity P ≤ max_position
  pub figures : FewFigures P
  pub limited : limit ≤ max_limit
