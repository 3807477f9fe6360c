-- What the questions establish of an accepted case, of a volume and of a list: the facts that the theorems need.
use Rattle.std.specs.Prelude.{ℕ, ◌≤◌, ◌<◌, ◌≡◌, true, length}
use mathlib.Core.List.{List, Memᴰ}
use Rattle.model.specs.Limits.{max_summary, max_pattern, max_members, max_position, max_figure, max_document}
use Rattle.model.specs.Tree.{IsTree, Child, label_of, figure_of}
use Rattle.model.specs.Summary.{Summary, as_document, summary_label}
use Rattle.model.specs.Pattern.{PatternRecord, Pattern, IsPatternTree, arity, position, pattern_figure, node_at}
use Rattle.model.specs.Bytes.{Case, case_of, document_of, list_of, WholeCase, is_whole_document, is_whole_list}

-- an outline by the rules: a tree whose siblings have different labels
pub record SummaryFacts (S : Summary) : Type 0 where
  pub tree : IsTree (as_document S)
  pub siblings : (s t u : ℕ) → Child (as_document S) s t → Child (as_document S) s u → summary_label S t ≡ summary_label S u → t ≡ u

-- a selection by the rules: a tree with the positions 1 to k once each
pub record PatternFacts (P : Pattern) : Type 0 where
  pub tree : IsPatternTree P
  pub holds : (p : ℕ) → 1 ≤ p → p ≤ arity P → node_at P p < length P
  pub held : (p : ℕ) → 1 ≤ p → p ≤ arity P → position P (node_at P p) ≡ p
  pub once : (q : ℕ) → q < length P → 0 < position P q → node_at P (position P q) ≡ q
  pub range : (q : ℕ) → q < length P → position P q ≤ arity P

-- a selection record each of whose values fits the 16 bits of a field
pub record RecordFits (r : PatternRecord) : Type 0 where
  pub parent : r.parent < 65_536
  pub label : r.label < 65_536
  pub edge : r.edge < 65_536
  pub position : r.position < 65_536
  pub figure : r.figure < 65_536

-- a selection's least figures are at most 2,000
abbrev pub FewFigures : Pattern → Type 0
FewFigures P = (q : ℕ) → q < length P → pattern_figure P q ≤ max_figure

-- a member of the set, beside the first selection P
pub record MemberFacts (P Q : Pattern) : Type 0 where
  pub pattern : PatternFacts Q
  pub same_arity : arity P ≡ arity Q
  pub size : length Q ≤ max_pattern

-- an accepted case
pub record CaseFacts (c : Case) : Type 0 where
  pub summary : SummaryFacts c.summary
  pub first : PatternFacts c.first
  pub members : (Q : Pattern) → Memᴰ Q c.members → MemberFacts c.first Q
  pub some_members : 1 ≤ length c.members
  pub few_members : length c.members ≤ max_members
  pub some_arity : 1 ≤ arity c.first
  pub arity_bound : arity c.first ≤ max_position
  pub summary_size : length c.summary ≤ max_summary
  pub first_size : length c.first ≤ max_pattern
  pub first_figures : FewFigures c.first
  pub member_figures : (Q : Pattern) → Memᴰ Q c.members → FewFigures Q

-- the bytes of an accepted case: questions 3 to 8, with 14 and 17
pub record AcceptedCase (b : List ℕ) : Type 0 where
  pub whole : WholeCase b
  pub facts : CaseFacts (case_of b)

-- the bytes of a volume: questions 10 and 17
pub record DocumentFacts (w : List ℕ) : Type 0 where
  pub whole : is_whole_document w ≡ true
  pub some_nodes : 1 ≤ length (document_of w)
  pub size : length (document_of w) ≤ max_document
  pub tree : IsTree (document_of w)
  pub labels : (i : ℕ) → i < length (document_of w) → 0 < label_of (document_of w) i
  pub figures : (i : ℕ) → i < length (document_of w) → figure_of (document_of w) i ≤ max_figure

-- the bytes of a list of k nodes, of a volume with n: question 11
pub record ListFacts (k n : ℕ) (r : List ℕ) : Type 0 where
  pub whole : is_whole_list r ≡ true
  pub count : length (list_of r) ≡ k
  pub below : (v : ℕ) → Memᴰ v (list_of r) → v < n
