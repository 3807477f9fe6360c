-- The call "lay out a trial" over a lent table of records: the records, and the layout by value.
use Rattle.std.specs.Prelude.{ℕ, ◌≡◌, true, false, List, [], map, eqb, length, get_or, replicate, Result, Ok, Err}
use Rattle.model.specs.Lists.{up_from}
use Rattle.model.specs.Limits.{min_table}
use Rattle.model.specs.Tree.{Document, parent_of, label_of, figure_of}
use Rattle.model.specs.Canonical.{Spot, canonical_spots}
use Rattle.model.specs.Bytes.{case_of, list_of, written_at_front}
use Rattle.model.specs.Questions.{selected, layout_refusal}
use Rattle.model.specs.Calls.{LaidRecord, laid_records, LayoutOutcome}
use Rattle.model.specs.Demands.{LayoutAnswered}
use Rattle.laying.specs.declared.laid.NodeRecord.{NodeRecord}
use Rattle.questions.specs.declared.refusal.Refusal.{Refusal}
use Rattle.questions.specs.Refusal.{asked}

-- a record of the model as the table holds it, and back
abbrev pub node_record : LaidRecord → NodeRecord
node_record r = record { parent = record { 0 = r.parent }; at = record { 0 = r.summary_node }; label = r.label; figure = r.figure }

abbrev pub record_of : NodeRecord → LaidRecord
record_of r = record { parent = r.parent.0; summary_node = r.at.0; label = r.label; figure = r.figure }

-- the record of node i of a document, whose nodes' summary nodes are in `on`; and those of the first n
abbrev pub laid_at : Document → List ℕ → ℕ → LaidRecord
laid_at W on i = record { parent = parent_of W i; summary_node = get_or on i 0; label = label_of W i; figure = figure_of W i }

abbrev pub laid_in : Document → List ℕ → ℕ → List LaidRecord
laid_in W on n = map (laid_at W on) (up_from 0 n)

-- an array of 1,024 records in which nothing stands, and one with records at its front
unfoldable pub blank_nodes : List NodeRecord
blank_nodes = replicate min_table (node_record (record { parent = 0; summary_node = 0; label = 0; figure = 0 }))

unfoldable pub at_front : List LaidRecord → List NodeRecord
at_front rs = written_at_front (map node_record rs) blank_nodes

-- the nodes that an accepted call lays out
abbrev pub laid_nodes : List ℕ → ℕ → List ℕ → List Spot
laid_nodes b s l = canonical_spots (case_of b).summary (selected (case_of b) s) (list_of l)

-- the records that are laid out, for a table of n records; a refusal lays out none
unfoldable pub laid_for : List ℕ → ℕ → List ℕ → ℕ → List LaidRecord
laid_for b s l n = elim (eqb (layout_refusal b s l n) 0) [ true ↦ laid_records (case_of b).summary (selected (case_of b) s) (list_of l) | false ↦ [] ]

-- what is laid out; a refusal lays out nothing
abbrev pub laid : Result (List LaidRecord) Refusal → List LaidRecord
laid (Ok rs) = rs
laid (Err r) = []

-- the outcome for a lent table: the answer, and the nodes at the table's front
abbrev pub outcome_for : Result (List LaidRecord) Refusal → List LaidRecord → LayoutOutcome
outcome_for r before = record { answer = record { refused = asked r; count = length (laid r) }; table = written_at_front (laid r) before }

-- the layout by value, and what it is for any table of n records: the model's outcome, with its demands
pub record LaidBy (b : List ℕ) (s : ℕ) (l : List ℕ) (n : ℕ) (r : Result (List LaidRecord) Refusal) : Type 0 where
  pub refusal : asked r ≡ layout_refusal b s l n
  pub nodes : laid r ≡ laid_for b s l n
  pub answered : (before : List LaidRecord) → length before ≡ n → LayoutAnswered b s l before (outcome_for r before)
