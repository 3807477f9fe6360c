-- Renumbering (document 02, #106): the same tree under other numbers. Knows of no order among siblings.
use Rattle.std.specs.Prelude.{ℕ, ◌<◌, ◌≡◌, List, [], ◌∷◌, length, get_or}
use Rattle.model.specs.Summary.{SummaryRecord, Summary, no_summary_record}
use Rattle.model.specs.Pattern.{PatternRecord, Pattern, no_pattern_record}
use Rattle.model.specs.Bytes.{Case}

-- renumbering turns table P into Q: each node of P has a number in Q and each of Q one in P, there and back, and the root, parents and
-- every other field are kept
pub record Renumbering {A : Type 0} (none : A) (parent : A → ℕ) (others : A → List ℕ) (P Q : List A) : Type 0 where
  pub to : ℕ → ℕ
  pub from : ℕ → ℕ
  pub inside : (i : ℕ) → i < length P → to i < length Q
  pub inside_back : (j : ℕ) → j < length Q → from j < length P
  pub back : (i : ℕ) → i < length P → from (to i) ≡ i
  pub forth : (j : ℕ) → j < length Q → to (from j) ≡ j
  pub root : to 0 ≡ 0
  pub parents : (i : ℕ) → i < length P → parent (get_or Q (to i) none) ≡ to (parent (get_or P i none))
  pub fields : (i : ℕ) → i < length P → others (get_or Q (to i) none) ≡ others (get_or P i none)

-- every field but the parent, of an outline record and of a selection record
abbrev pub summary_others : SummaryRecord → List ℕ
summary_others r = r.label ∷ r.strong ∷ []

abbrev pub pattern_others : PatternRecord → List ℕ
pattern_others r = r.label ∷ r.edge ∷ r.position ∷ r.figure ∷ []

-- of outlines, and of selections
abbrev pub SummaryRenumbering : Summary → Summary → Type 0
SummaryRenumbering S T = Renumbering no_summary_record (λ (r : SummaryRecord). r.parent) summary_others S T

abbrev pub PatternRenumbering : Pattern → Pattern → Type 0
PatternRenumbering P Q = Renumbering no_pattern_record (λ (r : PatternRecord). r.parent) pattern_others P Q

-- of cases: of the outline, of the first selection, and of each member in its place
pub record CaseRenumbering (c d : Case) : Type 0 where
  pub summary : SummaryRenumbering c.summary d.summary
  pub first : PatternRenumbering c.first d.first
  pub count : length c.members ≡ length d.members
  pub members : (i : ℕ) → i < length c.members → PatternRenumbering (get_or c.members i []) (get_or d.members i [])
