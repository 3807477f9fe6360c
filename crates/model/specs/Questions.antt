-- Questions 1 to 14, 16 and 17, one definition each, and the refusal of each of document 01's six calls in the call's own order.
use Rattle.std.specs.Prelude.{ℕ, ◌+◌, ◌-◌, ◌*◌, Bool, true, false, ◌&&◌, ◌||◌, not, List, [], ◌∷◌, ◌++◌, eqb, leb, ltb, length, get_or}
use Rattle.model.specs.Lists.{up_from, any_of, all_of, count_of, same_list}
use Rattle.model.specs.Limits.{max_limit, max_tally, max_verdicts, callers, min_buffer, min_table, max_summary, max_pattern, max_members, max_document, max_position, max_figure}
use Rattle.model.specs.Tree.{Document, parent_of, label_of, figure_of}
use Rattle.model.specs.Summary.{Summary, no_summary_record, summary_parent, summary_label}
use Rattle.model.specs.Pattern.{PatternRecord, Pattern, no_pattern_record, pattern_parent, position, pattern_figure, arity}
use Rattle.model.specs.Embeddings.{summary_embeddings}
use Rattle.model.specs.Fitting.{parent_rule}
use Rattle.model.specs.Bytes.{Case, case_of, document_of, list_of, is_whole_case, is_whole_document, is_whole_list}

-- a number from low to high
abbrev pub between : ℕ → ℕ → ℕ → Bool
between low high n = leb low n && leb n high

-- 1. Is the limit 1 to 1,000,000?
unfoldable pub limit_in_range : ℕ → Bool
limit_in_range L = between 1 max_limit L

-- 2. Has the answer buffer 8,192 bytes or more, or the lent table 1,024 records or more?
unfoldable pub buffer_large_enough : ℕ → Bool
buffer_large_enough bytes = leb min_buffer bytes

unfoldable pub table_large_enough : ℕ → Bool
table_large_enough records = leb min_table records

-- 3. Has the case at most 65,536 bytes, every count and announced record whole, and nothing after?
unfoldable pub case_whole : List ℕ → Bool
case_whole b = is_whole_case b

-- 4. Are the counts 1 to 64, 1 to 16 and, of each member, 1 to 16?
abbrev pub count_in_range : Pattern → Bool
count_in_range P = between 1 max_pattern (length P)

unfoldable pub counts_in_range : Case → Bool
counts_in_range c = between 1 max_summary (length c.summary) && count_in_range c.first && all_of count_in_range c.members

-- 14. Is the set's count 1 to 8?
unfoldable pub set_in_range : Case → Bool
set_in_range c = between 1 max_members (length c.members)

-- 5. Do all outline records keep the rules for parent, label and strong?
unfoldable pub summary_record_kept : Summary → ℕ → Bool
summary_record_kept S i =
    parent_rule i (get_or S i no_summary_record).parent && ltb 0 (get_or S i no_summary_record).label
    && leb (get_or S i no_summary_record).strong 1 && (ltb 0 i || eqb (get_or S i no_summary_record).strong 0)

unfoldable pub summary_kept : Summary → Bool
summary_kept S = all_of (summary_record_kept S) (up_from 0 (length S))

-- 6. Do siblings in the outline have different labels?
unfoldable pub alike : Summary → ℕ → ℕ → Bool
alike S i j = ltb 0 i && eqb (summary_parent S i) (summary_parent S j) && eqb (summary_label S i) (summary_label S j)

unfoldable pub siblings_differ : Summary → Bool
siblings_differ S = all_of (λ j. all_of (λ i. not (alike S i j)) (up_from 0 j)) (up_from 0 (length S))

-- 7. Do all records of all selections keep the rules for parent and edge, with positions at most 8?
unfoldable pub pattern_record_kept : Pattern → ℕ → Bool
pattern_record_kept P q =
    parent_rule q (pattern_parent P q) && leb (get_or P q no_pattern_record).edge 1
    && (ltb 0 q || eqb (get_or P q no_pattern_record).edge 0) && leb (position P q) max_position

unfoldable pub pattern_kept : Pattern → Bool
pattern_kept P = all_of (pattern_record_kept P) (up_from 0 (length P))

unfoldable pub patterns_kept : Case → Bool
patterns_kept c = pattern_kept c.first && all_of pattern_kept c.members

-- 17. Is every figure at most 2,000, of all records of all selections, and of a volume?
unfoldable pub figure_in_range : ℕ → Bool
figure_in_range figure = leb figure max_figure

unfoldable pub pattern_figures : Pattern → Bool
pattern_figures P = all_of (λ q. figure_in_range (pattern_figure P q)) (up_from 0 (length P))

unfoldable pub figures_kept : Case → Bool
figures_kept c = pattern_figures c.first && all_of pattern_figures c.members

unfoldable pub document_figures : Document → Bool
document_figures W = all_of (λ i. figure_in_range (figure_of W i)) (up_from 0 (length W))

-- 8. Has each selection the positions 1 to k once each, k at least 1, the same k in all?
unfoldable pub positions_once : Pattern → Bool
positions_once P = leb 1 (arity P) && all_of (λ p. eqb (count_of (λ (r : PatternRecord). eqb r.position p) P) 1) (up_from 1 (arity P))

unfoldable pub positions_kept : Case → Bool
positions_kept c = positions_once c.first && all_of (λ Q. positions_once Q && eqb (arity c.first) (arity Q)) c.members

-- 16. Is the caller 0 to 7?
unfoldable pub caller_in_range : ℕ → Bool
caller_in_range caller = ltb caller callers

-- 9. Is the tally plus the most that may be tried, of a verdict the limit, at most 1,000,000,000,000?
unfoldable pub tally_in_range : ℕ → ℕ → Bool
tally_in_range tally most = leb (tally + most) max_tally

-- 10. Is the volume whole, nothing after, with 1 to 1,024 nodes, parents by the rule and labels not 0?
unfoldable pub document_record_kept : Document → ℕ → Bool
document_record_kept W i = parent_rule i (parent_of W i) && ltb 0 (label_of W i)

unfoldable pub document_kept : List ℕ → Bool
document_kept b =
    is_whole_document b && between 1 max_document (length (document_of b))
    && all_of (document_record_kept (document_of b)) (up_from 0 (length (document_of b)))

-- 11. Is the list k fields, each below the volume's count?
unfoldable pub list_in_range : ℕ → ℕ → List ℕ → Bool
list_in_range k n b = is_whole_list b && eqb (length (list_of b)) k && all_of (λ v. ltb v n) (list_of b)

-- 12. Is the selection 1 to one more than the set's count and, where given, the position 1 to k?
unfoldable pub pattern_given : Case → ℕ → Bool
pattern_given c s = between 1 (length c.members + 1) s

-- the selection that a number gives: 1 the first, 2 and on the members
abbrev pub selected : Case → ℕ → Pattern
selected c s = elim (eqb s 1) [ true ↦ c.first | false ↦ get_or c.members (s - 2) [] ]

unfoldable pub position_given : Case → ℕ → ℕ → Bool
position_given c s p = pattern_given c s && between 1 (arity (selected c s)) p

-- 13. Is the list a placement of that selection?
unfoldable pub is_summary_embedding : Case → ℕ → List ℕ → Bool
is_summary_embedding c s b = is_whole_list b && any_of (same_list (list_of b)) (summary_embeddings c.summary (selected c s))

-- a question: its number, which a refusal holds, and its answer
pub record Question : Type 0 where
  pub number : ℕ
  pub answer : Bool

abbrev pub ask : ℕ → Bool → Question
ask n a = record { number = n; answer = a }

-- the refusal that a list of questions leads to: the number of the first whose answer is no; 0 where there is none
unfoldable pub refusal : List Question → ℕ
refusal [] = 0
refusal (q ∷ qs) = elim q.answer [ true ↦ refusal qs | false ↦ q.number ]

-- 3 to 8, with 14 right after 4 and 17 right after 7
unfoldable pub case_questions : List ℕ → List Question
case_questions b =
    ask 3 (case_whole b) ∷ ask 4 (counts_in_range (case_of b)) ∷ ask 14 (set_in_range (case_of b)) ∷ ask 5 (summary_kept (case_of b).summary)
    ∷ ask 6 (siblings_differ (case_of b).summary) ∷ ask 7 (patterns_kept (case_of b)) ∷ ask 17 (figures_kept (case_of b)) ∷ ask 8 (positions_kept (case_of b)) ∷ []

-- of a volume: 10, with 17 right after it
abbrev pub document_questions : List ℕ → List Question
document_questions w = ask 10 (document_kept w) ∷ ask 17 (document_figures (document_of w)) ∷ []

-- after the limit, of a call that goes to its caller's own tally and tries at most `most`: 2 to 9, with 16 just before 9
abbrev pub charged_questions : List ℕ → ℕ → ℕ → ℕ → ℕ → List Question
charged_questions b most caller tally buffer_bytes =
    ask 2 (buffer_large_enough buffer_bytes) ∷ case_questions b ++ ask 16 (caller_in_range caller) ∷ ask 9 (tally_in_range tally most) ∷ []

-- Verdict: 1 to 9; it tries at most the limit
unfoldable pub verdict_refusal : List ℕ → ℕ → ℕ → ℕ → ℕ → ℕ
verdict_refusal b L caller tally buffer_bytes = refusal (ask 1 (limit_in_range L) ∷ charged_questions b L caller tally buffer_bytes)

-- Striking out: as the verdict, with 120 times the limit in 9
unfoldable pub minimise_refusal : List ℕ → ℕ → ℕ → ℕ → ℕ → ℕ
minimise_refusal b L caller tally buffer_bytes = refusal (ask 1 (limit_in_range L) ∷ charged_questions b (max_verdicts * L) caller tally buffer_bytes)

-- Fits: 3 to 8, 10, 17
unfoldable pub fits_refusal : List ℕ → List ℕ → ℕ
fits_refusal b w = refusal (case_questions b ++ document_questions w)

-- Is it a result: 3 to 8, 10, 17, 12, 11
unfoldable pub result_refusal : List ℕ → ℕ → List ℕ → List ℕ → ℕ
result_refusal b s w r =
    refusal
    (case_questions b ++ (document_questions w ++ ask 12 (pattern_given (case_of b) s)
    ∷ ask 11 (list_in_range (arity (selected (case_of b) s)) (length (document_of w)) r) ∷ []))

-- Nodes at a position: 2 to 8, 10, 17, 12
unfoldable pub nodes_refusal : List ℕ → ℕ → List ℕ → ℕ → ℕ → ℕ
nodes_refusal b s w p buffer_bytes =
    refusal (ask 2 (buffer_large_enough buffer_bytes) ∷ case_questions b ++ (document_questions w ++ ask 12 (position_given (case_of b) s p) ∷ []))

-- Paths of each node: 3 to 8, 12
unfoldable pub paths_refusal : List ℕ → ℕ → ℕ
paths_refusal b s = refusal (case_questions b ++ ask 12 (pattern_given (case_of b) s) ∷ [])

-- Lay out a trial: 2 to 8, 12, 13
unfoldable pub layout_refusal : List ℕ → ℕ → List ℕ → ℕ → ℕ
layout_refusal b s l table_records =
    refusal
    (ask 2 (table_large_enough table_records) ∷ case_questions b ++ ask 12 (pattern_given (case_of b) s) ∷ ask 13 (is_summary_embedding (case_of b) s l) ∷ [])
