-- The definitions of the table, at those who judge.
use Rattle.std.specs.Prelude.{ℕ, List}
use Rattle.judging.specs.Prepared.{Made}
use Rattle.alternatives.specs.declared.judges.Judges.{Judges}
use Rattle.alternatives.specs.declared.table.Table.{Table}
use Rattle.alternatives.specs.Alternatives.{Alternatives, IsRight, Covered, Fillable}

-- what is known of them is of a summary, of members of a set and of their pattern
abbrev pub MadeFor : Judges → Type 0
MadeFor J = Made J.members.now J.masks.now J.pattern.now

-- the table says what is so of them
abbrev pub RightFor : Judges → Table → Type 0
RightFor J t = IsRight J.members.now J.masks.now J.pattern.now t

-- these are alternatives of node c where a node above it stands on x
abbrev pub AlternativesFor : Judges → ℕ → ℕ → List (List ℕ) → Type 0
AlternativesFor J c x sets = Alternatives J.members.now J.masks.now J.pattern.now c x sets

-- the list covers what c offers on a parent of y, where `Here` says so
abbrev pub CoveredFor : Judges → ℕ → ℕ → (ℕ → Type 0) → List (List ℕ) → Type 0
CoveredFor J c y Here sets = Covered J.members.now J.masks.now J.pattern.now c y Here sets

-- what filling the cell of node c and x takes
abbrev pub FillableFor : Judges → Table → ℕ → ℕ → Type 0
FillableFor J t c x = Fillable J.members.now J.masks.now J.pattern.now t c x
