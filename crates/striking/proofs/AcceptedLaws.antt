-- From an accepted case to what striking asks for, and from what striking comes to to what is told. Assumes nothing.
use Prim.Native.Nat.{ℕ, ◌≤◌}
use mathlib.Core.Path.{◌≡◌, ap, ap₂, ◌∙◌}
use mathlib.Core.List.{List, ◌++◌}
use lib.ListN.{length}
use Rattle.model.specs.Limits.{max_limit}
use Rattle.model.specs.Pattern.{Pattern}
use Rattle.model.specs.Bytes.{Case, case_of, encode_pattern, encode_counted, written_at_front}
use Rattle.model.specs.Facts.{AcceptedCase}
use Rattle.model.specs.Striking.{strike_all}
use Rattle.format.specs.Given.{SummaryKept}
use Rattle.striking.specs.Present.{Strikable}
use Rattle.striking.specs.Strikes.{StruckBy}
use Rattle.striking.specs.Outcome.{Told}
use Rattle.striking.specs.declared.strike.Strikes.{Strikes}

module _ {b : List ℕ} (A : AcceptedCase b) where
  pub summary-kept : SummaryKept (case_of b).summary
  summary-kept = record { tree = A.facts.summary.tree; few = A.facts.summary_size }

  -- the case's first pattern
  pub first-strikable : {limit : ℕ} → limit ≤ max_limit → Strikable (case_of b).summary (case_of b).first limit
  first-strikable l =
      record {
        summary = summary-kept;
        outline = A.facts.summary;
        pattern = record { tree = A.facts.first.tree; few = A.facts.first_size };
        facts = A.facts.first;
        some_arity = A.facts.some_arity;
        arity_bound = A.facts.arity_bound;
        figures = A.facts.first_figures;
        limited = l;
      }

pub struck-told : {c : Case} {limit : ℕ} {before after struck : List ℕ} {present : Pattern} {r : Strikes} → StruckBy (strike_all c.summary limit c.first) present r → struck ≡ r.struck
    → after ≡ written_at_front (encode_pattern present ++ encode_counted struck) before → Told c limit before after (record { struck = length struck; tried = r.tried })
struck-told {c} {limit} {before} {after} {struck} {present} {r} u f w =
    let numbers : struck ≡ (strike_all c.summary limit c.first).struck = f ∙ u.struck in
    record {
      struck = ap length numbers;
      tried = u.tried;
      buffer = w ∙ ap₂ (λ (Q : Pattern) (ns : List ℕ). written_at_front (encode_pattern Q ++ encode_counted ns) before) u.pattern numbers;
    }
