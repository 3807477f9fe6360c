-- Given data stay bytes: the tables that stand in them, and what a function that reads one asks of its bytes.
use Rattle.std.specs.Prelude.{ℕ, ◌≤◌, ◌<◌, List, [], length, get_or}
use Rattle.model.specs.Limits.{max_summary, max_pattern, max_members, max_document, summary_width, pattern_width, document_width}
use Rattle.model.specs.Tree.{Document, IsTree}
use Rattle.model.specs.Summary.{Summary, as_document}
use Rattle.model.specs.Pattern.{Pattern, IsPatternTree}
use Rattle.model.specs.Bytes.{pattern_record_at, section, member_at, set_of, case_of, document_of, WholeSection, WholeSet}

-- the summary of a case (document 01: outline)
abbrev pub summary_in : List ℕ → Summary
summary_in b = (case_of b).summary

-- the pattern whose count is field `at` (document 01: selection)
abbrev pub pattern_at : List ℕ → ℕ → Pattern
pattern_at b at = section pattern_record_at pattern_width b at

-- the section is whole and its table a tree of few enough nodes
pub record SummaryGiven (b : List ℕ) : Type 0 where
  pub whole : WholeSection summary_width b 0
  pub tree : IsTree (as_document (summary_in b))
  pub few : length (summary_in b) ≤ max_summary

pub record PatternGiven (b : List ℕ) (at : ℕ) : Type 0 where
  pub whole : WholeSection pattern_width b at
  pub tree : IsPatternTree (pattern_at b at)
  pub few : length (pattern_at b at) ≤ max_pattern

-- a set of patterns whose count is field `on`: few enough members, each of them given
pub record SetGiven (b : List ℕ) (on : ℕ) : Type 0 where
  pub whole : WholeSet b on
  pub few : length (set_of b on) ≤ max_members
  pub members : (i : ℕ) → i < length (set_of b on) → PatternGiven b (member_at b on i)

pub record DocumentGiven (w : List ℕ) : Type 0 where
  pub whole : WholeSection document_width w 0
  pub tree : IsTree (document_of w)
  pub few : length (document_of w) ≤ max_document

-- of a summary, a pattern, a document: a tree of few enough nodes
pub record SummaryKept (S : Summary) : Type 0 where
  pub tree : IsTree (as_document S)
  pub few : length S ≤ max_summary

pub record PatternKept (P : Pattern) : Type 0 where
  pub tree : IsPatternTree P
  pub few : length P ≤ max_pattern

pub record DocumentKept (W : Document) : Type 0 where
  pub tree : IsTree W
  pub few : length W ≤ max_document

-- of a set of patterns: few enough members, each of them kept
pub record SetKept (Qs : List Pattern) : Type 0 where
  pub few : length Qs ≤ max_members
  pub members : (i : ℕ) → i < length Qs → PatternKept (get_or Qs i [])
