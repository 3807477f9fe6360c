-- The call "lay out a trial" over a lent table of node records: its outcome as the model has it.
use Rattle.std.specs.Prelude.{ℕ, List, map, Result}
use Rattle.model.specs.Calls.{LaidRecord, LayoutOutcome}
use Rattle.questions.specs.declared.refusal.Refusal.{Refusal}
use Rattle.calls.specs.Answers.{counted_of}
use Rattle.laying.specs.Records.{record_of}
use Rattle.laying.specs.declared.laid.NodeRecord.{NodeRecord}

-- the table, as the model has it. Each record gives its own, so it settles the table whole
abbrev pub records_in : List NodeRecord → List LaidRecord
records_in table = map record_of table

-- the answer, and the table afterwards
abbrev pub layout_of : Result ℕ Refusal → List NodeRecord → LayoutOutcome
layout_of r after = record { answer = counted_of r; table = records_in after }
