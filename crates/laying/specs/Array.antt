-- An array of records with those of what is laid out at its front.
use Rattle.std.specs.Prelude.{ℕ, ◌≡◌, ◌≤◌, List, map, take}
use Rattle.model.specs.Limits.{min_table}
use Rattle.model.specs.Calls.{LaidRecord}
use Rattle.laying.specs.declared.laid.NodeRecord.{NodeRecord}
use Rattle.laying.specs.Records.{record_of, at_front}

-- the first ones, as the model has them
abbrev pub records_in : ℕ → List NodeRecord → List LaidRecord
records_in count nodes = map record_of (take count nodes)

-- they are as many, and nothing stands after them
pub record IsFilled (count : ℕ) (nodes : List NodeRecord) : Type 0 where
  pub few : count ≤ min_table
  pub front : nodes ≡ at_front (records_in count nodes)
