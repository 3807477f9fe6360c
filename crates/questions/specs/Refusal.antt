-- The number of a refusal, and what a call that asks questions in order leads to.
use Rattle.std.specs.Prelude.{ℕ, Result, Ok, Err}
use Rattle.questions.specs.declared.refusal.Refusal.{Refusal}
use Rattle.questions.specs.declared.refusal.Refusal.TheVariants.{Limit, Room, Bytes, Counts, SummaryRecords, Siblings, PatternRecords, Positions, Tally, Document, ResultList, PatternNumber, Embedding, SetCount, OldForm, Caller, Figure}

-- the number of the question
abbrev pub number_of : Refusal → ℕ
number_of Limit = 1
number_of Room = 2
number_of Bytes = 3
number_of Counts = 4
number_of SummaryRecords = 5
number_of Siblings = 6
number_of PatternRecords = 7
number_of Positions = 8
number_of Tally = 9
number_of Document = 10
number_of ResultList = 11
number_of PatternNumber = 12
number_of Embedding = 13
number_of SetCount = 14
number_of OldForm = 15
number_of Caller = 16
number_of Figure = 17

-- what was asked leads to: the number of the question that was answered no, or 0 where there was none
abbrev pub asked : {T : Type 0} → Result T Refusal → ℕ
asked (Ok x) = 0
asked (Err r) = number_of r
