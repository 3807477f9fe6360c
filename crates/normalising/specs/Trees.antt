-- A tree read as a selection, its nodes' entries in rows, and its section as it is written.
use Rattle.std.specs.Prelude.{ℕ, ◌+◌, ◌-◌, ◌≤◌, ◌<◌, ◌≡◌, List, [], ◌∷◌, ◌++◌, length, get_or, take, drop}
use Rattle.model.specs.Limits.{max_summary}
use Rattle.model.specs.Pattern.{PatternRecord, Pattern, IsPatternTree, no_pattern_record}
use Rattle.model.specs.Bytes.{Case, summary_fields, section_fields}
use Rattle.model.specs.Facts.{SummaryFacts}
use Rattle.model.specs.Normal.{Entry, no_entry, entry_at, read_back, as_pattern, normal_pattern}

-- an outline's fields of a record
abbrev pub outline_fields : PatternRecord → List ℕ
outline_fields r = summary_fields (read_back r)

-- an entry with a parent
abbrev pub record_with : ℕ → Entry → PatternRecord
record_with p e = record { parent = p; label = e.label; edge = e.edge; position = e.position; figure = e.figure }

-- what is written of a record's node at that depth
abbrev pub entry_with : ℕ → PatternRecord → Entry
entry_with d r = record { depth = d; label = r.label; edge = r.edge; position = r.position; figure = r.figure }

-- a tree of few enough nodes, whose edges fit a field and positions a byte
pub record TreeGiven (P : Pattern) : Type 0 where
  pub tree : IsPatternTree P
  pub few : length P ≤ max_summary
  pub edges : (i : ℕ) → i < length P → (get_or P i no_pattern_record).edge < 65_536
  pub positions : (i : ℕ) → i < length P → (get_or P i no_pattern_record).position < 256

-- the rows of the first n nodes are their entries alone
pub record Loaded (P : Pattern) (rows : List (List Entry)) (n : ℕ) : Type 0 where
  pub size : length P ≤ length rows
  pub own : (i : ℕ) → i < n → get_or rows i [] ≡ entry_at P i ∷ []

-- at most as many entries as a tree may have nodes, each at a depth below that
pub record Shallow (es : List Entry) : Type 0 where
  pub few : length es ≤ max_summary
  pub depths : (i : ℕ) → i < length es → (get_or es i no_entry).depth < max_summary

-- the fields of a tree's section as it is written, by those of its records
abbrev pub normal_fields : (PatternRecord → List ℕ) → Pattern → List ℕ
normal_fields fields P = section_fields fields (normal_pattern P)

-- a set each of whose members is such a tree
abbrev pub SetGiven : List Pattern → Type 0
SetGiven Qs = (i : ℕ) → i < length Qs → TreeGiven (get_or Qs i [])

-- a case of such trees, whose outline's siblings have different labels
pub record CaseGiven (c : Case) : Type 0 where
  pub outline : SummaryFacts c.summary
  pub summary : TreeGiven (as_pattern c.summary)
  pub first : TreeGiven c.first
  pub members : SetGiven c.members

-- a row put in at place `at` of a list of so many entries, what stood from there on behind it
abbrev pub put_at : List Entry → List Entry → ℕ → ℕ → List Entry
put_at r es at len = take at es ++ (r ++ (take (len - at) (drop at es) ++ drop (len + length r) es))
