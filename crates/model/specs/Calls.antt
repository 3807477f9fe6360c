-- The whole outcome of each of document 01's six calls: answer, buffer or table afterwards, tallies afterwards. A refusal holds its
-- number and zero in every other field, and alters no lent byte, record or tally.
use Rattle.std.specs.Prelude.{ℕ, ◌+◌, Bool, true, false, List, [], ◌++◌, map, eqb, length, get_or, set, replicate}
use Rattle.model.specs.Lists.{up_from}
use Rattle.model.specs.Limits.{max_pattern}
use Rattle.model.specs.Summary.{Summary, summary_label}
use Rattle.model.specs.Pattern.{Pattern}
use Rattle.model.specs.Embeddings.{is_result, nodes_at, path_mask, path_count}
use Rattle.model.specs.Fitting.{fits}
use Rattle.model.specs.Canonical.{Spot, spot_parent, spot_at, canonical, canonical_spots, own_nodes, own_figure, own_result}
use Rattle.model.specs.Verdict.{Verdict, included, not_included, stopped, verdict, tried_of}
use Rattle.model.specs.Bytes.{Case, case_of, document_of, list_of, encode_document, encode_counted, written_at_front}
use Rattle.model.specs.Questions.{selected, verdict_refusal, fits_refusal, result_refusal, nodes_refusal, paths_refusal, layout_refusal}

-- the kinds of a verdict; 0 is a refusal's
abbrev pub kind_included : ℕ
kind_included = 1

abbrev pub kind_not_included : ℕ
kind_not_included = 2

abbrev pub kind_stopped : ℕ
kind_stopped = 3

unfoldable pub kind_of : Verdict → ℕ
kind_of (included n) = kind_included
kind_of (not_included n es) = kind_not_included
kind_of (stopped n) = kind_stopped

-- the answer of the verdict call
pub record VerdictAnswer : Type 0 where
  pub refused : ℕ
  pub kind : ℕ
  pub tried : ℕ

-- its number and values in each case: a refusal, included, not included, stopped
abbrev pub refused_answer : ℕ → VerdictAnswer
refused_answer number = record { refused = number; kind = 0; tried = 0 }

abbrev pub included_answer : ℕ → VerdictAnswer
included_answer n = record { refused = 0; kind = kind_included; tried = n }

abbrev pub not_included_answer : ℕ → VerdictAnswer
not_included_answer n = record { refused = 0; kind = kind_not_included; tried = n }

abbrev pub stopped_answer : ℕ → VerdictAnswer
stopped_answer n = record { refused = 0; kind = kind_stopped; tried = n }

-- what a caller receives of a call that goes to its tally: the answer, of the call's own type, the buffer and its own tally afterwards
pub record Received (Answer : Type 0) : Type 0 where
  pub answer : Answer
  pub buffer : List ℕ
  pub tally : ℕ

abbrev pub VerdictOutcome : Type 0
VerdictOutcome = Received VerdictAnswer

-- "not included" writes the volume's section, then the result as a count and k node numbers; the others write nothing
unfoldable pub shown : Summary → Pattern → Verdict → List ℕ
shown S P (included n) = []
shown S P (not_included n es) = encode_document (canonical S P es) ++ encode_counted (own_result S P es)
shown S P (stopped n) = []

-- the outcome of an accepted call whose verdict is v
abbrev pub outcome_by : Summary → Pattern → Verdict → ℕ → List ℕ → VerdictOutcome
outcome_by S P v tally buffer =
    record { answer = record { refused = 0; kind = kind_of v; tried = tried_of v }; buffer = written_at_front (shown S P v) buffer; tally = tally + tried_of v }

unfoldable pub verdict_accepted : Case → ℕ → ℕ → List ℕ → VerdictOutcome
verdict_accepted c L tally buffer = outcome_by c.summary c.first (verdict c.summary c.first c.members L) tally buffer

unfoldable pub verdict_refused : ℕ → ℕ → List ℕ → VerdictOutcome
verdict_refused number tally buffer = record { answer = refused_answer number; buffer = buffer; tally = tally }

-- Verdict: case, limit, caller, that caller's tally, answer buffer
unfoldable pub verdict_call : List ℕ → ℕ → ℕ → ℕ → List ℕ → VerdictOutcome
verdict_call b L caller tally buffer =
    let number : ℕ = verdict_refusal b L caller tally (length buffer) in
    elim (eqb number 0) [ true ↦ verdict_accepted (case_of b) L tally buffer | false ↦ verdict_refused number tally buffer ]

-- of the eight tallies, a caller's; whoever is not 0 to 7 has none, which counts as 0
abbrev pub tally_of : List ℕ → ℕ → ℕ
tally_of tallies caller = get_or tallies caller 0

-- the outcome on all eight
pub record OnEight (Answer : Type 0) : Type 0 where
  pub answer : Answer
  pub buffer : List ℕ
  pub tallies : List ℕ

abbrev pub TalliedOutcome : Type 0
TalliedOutcome = OnEight VerdictAnswer

-- the caller's own tally is as the outcome has it, every other as it was
abbrev pub charged : {Answer : Type 0} → List ℕ → ℕ → Received Answer → OnEight Answer
charged tallies caller o = record { answer = o.answer; buffer = o.buffer; tallies = set tallies caller o.tally }

-- Verdict: case, limit, caller, the eight tallies, answer buffer
unfoldable pub tallied_call : List ℕ → ℕ → ℕ → List ℕ → List ℕ → TalliedOutcome
tallied_call b L caller tallies buffer = charged tallies caller (verdict_call b L caller (tally_of tallies caller) buffer)

-- an answer that is yes (1) or no (0)
pub record TestAnswer : Type 0 where
  pub refused : ℕ
  pub holds : ℕ

-- the two that an accepted call gives
abbrev pub yes_answer : TestAnswer
yes_answer = record { refused = 0; holds = 1 }

abbrev pub no_answer : TestAnswer
no_answer = record { refused = 0; holds = 0 }

unfoldable pub test_answer : ℕ → Bool → TestAnswer
test_answer number test =
    elim (eqb number 0) [
      | true ↦ record { refused = 0; holds = elim test [ true ↦ 1 | false ↦ 0 ] }
      | false ↦ record { refused = number; holds = 0 }
    ]

-- Fits: case, volume
unfoldable pub fits_call : List ℕ → List ℕ → TestAnswer
fits_call b w = test_answer (fits_refusal b w) (fits (case_of b).summary (document_of w))

-- Is it a result: case, selection, volume, list
unfoldable pub result_call : List ℕ → ℕ → List ℕ → List ℕ → TestAnswer
result_call b s w r = test_answer (result_refusal b s w r) (is_result (selected (case_of b) s) (document_of w) (list_of r))

-- an answer that is a count
pub record CountAnswer : Type 0 where
  pub refused : ℕ
  pub count : ℕ

-- and the answer buffer afterwards
pub record CountOutcome : Type 0 where
  pub answer : CountAnswer
  pub buffer : List ℕ

unfoldable pub count_refused : ℕ → List ℕ → CountOutcome
count_refused number buffer = record { answer = record { refused = number; count = 0 }; buffer = buffer }

unfoldable pub nodes_accepted : List ℕ → List ℕ → CountOutcome
nodes_accepted nodes buffer = record { answer = record { refused = 0; count = length nodes }; buffer = written_at_front (encode_counted nodes) buffer }

-- Nodes at a position in any result, written ascending after their count: case, selection, volume, position, answer buffer
unfoldable pub nodes_call : List ℕ → ℕ → List ℕ → ℕ → List ℕ → CountOutcome
nodes_call b s w p buffer =
    let number : ℕ = nodes_refusal b s w p (length buffer) in
    elim (eqb number 0) [ true ↦ nodes_accepted (nodes_at (selected (case_of b) s) (document_of w) p) buffer | false ↦ count_refused number buffer ]

-- sixteen masks, bit i for outline node i, and for each how many paths the node may take
pub record PathsAnswer : Type 0 where
  pub refused : ℕ
  pub masks : List ℕ
  pub counts : List ℕ

unfoldable pub paths_accepted : Summary → Pattern → PathsAnswer
paths_accepted S P = record { refused = 0; masks = map (path_mask S P) (up_from 0 max_pattern); counts = map (path_count S P) (up_from 0 max_pattern) }

unfoldable pub paths_refused : ℕ → PathsAnswer
paths_refused number = record { refused = number; masks = replicate max_pattern 0; counts = replicate max_pattern 0 }

-- Paths of each node: case, selection
unfoldable pub paths_call : List ℕ → ℕ → PathsAnswer
paths_call b s =
    let number : ℕ = paths_refusal b s in
    elim (eqb number 0) [ true ↦ paths_accepted (case_of b).summary (selected (case_of b) s) | false ↦ paths_refused number ]

-- a record of the lent table: parent, outline node, label, figure
pub record LaidRecord : Type 0 where
  pub parent : ℕ
  pub summary_node : ℕ
  pub label : ℕ
  pub figure : ℕ

abbrev pub laid_record : Summary → (ℕ → ℕ) → List Spot → ℕ → LaidRecord
laid_record S figure spots i =
    record { parent = spot_parent spots i; summary_node = spot_at spots i; label = summary_label S (spot_at spots i); figure = figure i }

-- the records of a trial volume
unfoldable pub laid_records : Summary → Pattern → List ℕ → List LaidRecord
laid_records S P es =
    let spots : List Spot = canonical_spots S P es in
    map (laid_record S (own_figure P (own_nodes S P es)) spots) (up_from 0 (length spots))

pub record LayoutOutcome : Type 0 where
  pub answer : CountAnswer
  pub table : List LaidRecord

unfoldable pub layout_accepted : Summary → Pattern → List ℕ → List LaidRecord → LayoutOutcome
layout_accepted S P es table =
    record { answer = record { refused = 0; count = length (laid_records S P es) }; table = written_at_front (laid_records S P es) table }

unfoldable pub layout_refused : ℕ → List LaidRecord → LayoutOutcome
layout_refused number table = record { answer = record { refused = number; count = 0 }; table = table }

-- Lay out a trial: case, selection, placement list, lent table; the volume fills the front, the node count is the result
unfoldable pub layout_call : List ℕ → ℕ → List ℕ → List LaidRecord → LayoutOutcome
layout_call b s l table =
    let number : ℕ = layout_refusal b s l (length table) in
    elim (eqb number 0) [ true ↦ layout_accepted (case_of b).summary (selected (case_of b) s) (list_of l) table | false ↦ layout_refused number table ]
