-- The base's form of a case: one second selection in place of a set, and selection records of four fields, whatever today's have. How it
-- is read, written and asked about; the case of today that it is, and the old one that a set of one goes back to; the base's verdict.
-- The rules that records keep are asked of the case that it is, so no request touches this form but by what the tools of #102 give and
-- require. Only they take it.
use Rattle.std.specs.Prelude.{ℕ, ◌+◌, ◌≡◌, Bool, true, false, ◌&&◌, List, [], ◌∷◌, ◌++◌, map, eqb, length, get_or}
use Rattle.model.specs.Limits.{max_summary, max_pattern, summary_width}
use Rattle.model.specs.Summary.{Summary}
use Rattle.model.specs.Pattern.{PatternRecord, Pattern, arity}
use Rattle.model.specs.Embeddings.{summary_embeddings}
use Rattle.model.specs.Canonical.{passes}
use Rattle.model.specs.Verdict.{Verdict, judge}
use Rattle.model.specs.Bytes.{field, summary_record_at, section, section_end, first_at, Case, case_of, ends_at, is_whole_case, summary_fields, section_fields, bytes_of}
use Rattle.model.specs.Questions.{between, limit_in_range, buffer_large_enough, summary_kept, siblings_differ, pattern_kept, positions_once, tally_in_range, Question, ask, refusal}
use Rattle.model.specs.Calls.{VerdictOutcome, outcome_by, verdict_refused}

-- a record of a selection: parent, label, edge, position
pub record OldRecord : Type 0 where
  pub parent : ℕ
  pub label : ℕ
  pub edge : ℕ
  pub position : ℕ

abbrev pub OldPattern : Type 0
OldPattern = List OldRecord

-- its fields, and the record that begins at field `at`
abbrev pub old_width : ℕ
old_width = 4

abbrev pub old_record_fields : OldRecord → List ℕ
old_record_fields r = r.parent ∷ r.label ∷ r.edge ∷ r.position ∷ []

abbrev pub old_record_at : List ℕ → ℕ → OldRecord
old_record_at b at = record { parent = field b at; label = field b (at + 1); edge = field b (at + 2); position = field b (at + 3) }

-- an outline, the first selection, the second selection
pub record OldCase : Type 0 where
  pub summary : Summary
  pub first : OldPattern
  pub second : OldPattern

-- where the second selection's section begins, and where the case ends
abbrev pub second_at : List ℕ → ℕ
second_at b = section_end old_width b (first_at b)

abbrev pub old_end : List ℕ → ℕ
old_end b = section_end old_width b (second_at b)

-- the tables of an old case; fields past the end read as 0
unfoldable pub old_case_of : List ℕ → OldCase
old_case_of b =
    record {
      summary = section summary_record_at summary_width b 0;
      first = section old_record_at old_width b (first_at b);
      second = section old_record_at old_width b (second_at b);
    }

-- its fields, and its bytes
unfoldable pub old_fields : OldCase → List ℕ
old_fields c = section_fields summary_fields c.summary ++ (section_fields old_record_fields c.first ++ section_fields old_record_fields c.second)

unfoldable pub encode_old_case : OldCase → List ℕ
encode_old_case c = bytes_of (old_fields c)

-- ---- between the two forms

-- the record of today that an old one is, with figure 0, and the selection
abbrev pub new_record : OldRecord → PatternRecord
new_record r = record { parent = r.parent; label = r.label; edge = r.edge; position = r.position; figure = 0 }

abbrev pub new_pattern : OldPattern → Pattern
new_pattern P = map new_record P

-- the same case with a set of one
abbrev pub one_of : OldCase → Case
one_of c = record { summary = c.summary; first = new_pattern c.first; members = new_pattern c.second ∷ [] }

-- the old record that one of today goes back to, the selection, and the case, whose second selection is the set's first
abbrev pub old_record : PatternRecord → OldRecord
old_record r = record { parent = r.parent; label = r.label; edge = r.edge; position = r.position }

abbrev pub old_pattern : Pattern → OldPattern
old_pattern P = map old_record P

abbrev pub old_of : Case → OldCase
old_of c = record { summary = c.summary; first = old_pattern c.first; second = old_pattern (get_or c.members 0 []) }

-- ---- the base's questions

-- 3. Has the case at most 65,536 bytes, every count and announced record whole, and nothing after?
unfoldable pub old_whole : List ℕ → Bool
old_whole b = ends_at b (old_end b)

-- 4. Are the counts 1 to 64, 1 to 16 and 1 to 16?
unfoldable pub old_counts_in_range : OldCase → Bool
old_counts_in_range c = between 1 max_summary (length c.summary) && between 1 max_pattern (length c.first) && between 1 max_pattern (length c.second)

-- 7. Do all records of both selections keep the rules for parent and edge, with positions at most 8?
unfoldable pub old_patterns_kept : OldCase → Bool
old_patterns_kept c = pattern_kept (new_pattern c.first) && pattern_kept (new_pattern c.second)

-- 8. Has each selection the positions 1 to k once each, k at least 1, the same k in both?
unfoldable pub old_positions_kept : OldCase → Bool
old_positions_kept c =
    positions_once (new_pattern c.first) && positions_once (new_pattern c.second) && eqb (arity (new_pattern c.first)) (arity (new_pattern c.second))

-- 3 to 8
unfoldable pub old_questions : List ℕ → List Question
old_questions b =
    ask 3 (old_whole b) ∷ ask 4 (old_counts_in_range (old_case_of b)) ∷ ask 5 (summary_kept (old_case_of b).summary)
    ∷ ask 6 (siblings_differ (old_case_of b).summary) ∷ ask 7 (old_patterns_kept (old_case_of b)) ∷ ask 8 (old_positions_kept (old_case_of b)) ∷ []

-- a is an old case and b the same case with a set of one
pub record SetOfOne (a b : List ℕ) : Type 0 where
  pub old : old_whole a ≡ true
  pub new : is_whole_case b ≡ true
  pub same : case_of b ≡ one_of (old_case_of a)

-- ---- the base's verdict

-- Verdict: 1 to 9
unfoldable pub old_verdict_refusal : List ℕ → ℕ → ℕ → ℕ → ℕ
old_verdict_refusal b L tally buffer_bytes =
    refusal (ask 1 (limit_in_range L) ∷ ask 2 (buffer_large_enough buffer_bytes) ∷ old_questions b ++ ask 9 (tally_in_range tally L) ∷ [])

-- the verdict with limit L: a trial passes if its result is a result of the second selection
unfoldable pub old_verdict : Summary → Pattern → Pattern → ℕ → Verdict
old_verdict S P Q L = judge (passes S P Q) L (summary_embeddings S P)

unfoldable pub old_accepted : OldCase → ℕ → ℕ → List ℕ → VerdictOutcome
old_accepted c L tally buffer =
    outcome_by c.summary (new_pattern c.first) (old_verdict c.summary (new_pattern c.first) (new_pattern c.second) L) tally buffer

-- the base's verdict call: case, limit, tally, answer buffer
unfoldable pub old_verdict_call : List ℕ → ℕ → ℕ → List ℕ → VerdictOutcome
old_verdict_call b L tally buffer =
    let number : ℕ = old_verdict_refusal b L tally (length buffer) in
    elim (eqb number 0) [ true ↦ old_accepted (old_case_of b) L tally buffer | false ↦ verdict_refused number tally buffer ]
