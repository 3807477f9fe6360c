-- The verdict as the code answers it.
use Rattle.std.specs.Prelude.{ℕ, ◌<◌, ◌≡◌, List, [], length, get_or}
use Rattle.model.specs.Summary.{Summary}
use Rattle.model.specs.Pattern.{Pattern}
use Rattle.model.specs.Bytes.{Case}
use Rattle.model.specs.Facts.{CaseFacts}
use Rattle.model.specs.Verdict.{Verdict, included, not_included, stopped, verdict}
use Rattle.format.specs.Given.{SummaryKept, PatternKept, SetKept}
use Rattle.containment.specs.declared.Containment.{Containment}
use Rattle.containment.specs.declared.Containment.TheVariants.{Contained, NotContained, Stopped}

-- the variant of each verdict, with tried
abbrev pub answer_of : Verdict → Containment
answer_of (included n) = Contained n
answer_of (not_included n es) = NotContained n
answer_of (stopped n) = Stopped n

-- the embedding whose canonical document is to be shown
abbrev pub shown_of : Verdict → List ℕ
shown_of (included n) = []
shown_of (not_included n es) = es
shown_of (stopped n) = []

-- the case of a summary, a first pattern and a set
abbrev pub case_by : Summary → Pattern → List Pattern → Case
case_by S P Qs = record { summary = S; first = P; members = Qs }

abbrev pub verdict_of : Case → ℕ → Verdict
verdict_of c limit = verdict c.summary c.first c.members limit

-- an accepted case
pub record CaseKept (S : Summary) (P : Pattern) (Qs : List Pattern) : Type 0 where
  pub summary : SummaryKept S
  pub first : PatternKept P
  pub members : SetKept Qs
  pub facts : CaseFacts (case_by S P Qs)

-- an image for each node of the first pattern, each a summary node
pub record FreshImages (P : Pattern) (images : List ℕ) : Type 0 where
  pub placed : length images ≡ length P
  pub inside : (c : ℕ) → c < length images → get_or images c 0 < 64
