-- Path summaries (document 01: outlines), and which documents fit one.
use Rattle.std.specs.Prelude.{ℕ, ◌<◌, ◌≡◌, List, map, length, get_or}
use Rattle.model.specs.Tree.{DocumentRecord, Document, IsTree, parent_of, label_of, Child, LabelPath}

-- an outline node: its parent's number, its label, and whether the edge from its parent is strong (1) or plain (0)
pub record SummaryRecord : Type 0 where
  pub parent : ℕ
  pub label : ℕ
  pub strong : ℕ

-- outline
abbrev pub Summary : Type 0
Summary = List SummaryRecord

-- what a number past the last node reads as
abbrev pub no_summary_record : SummaryRecord
no_summary_record = record { parent = 0; label = 0; strong = 0 }

abbrev pub without_strong : SummaryRecord → DocumentRecord
without_strong r = record { parent = r.parent; label = r.label; figure = 0 }

-- the outline read as a volume; nothing that reads it so regards figures
abbrev pub as_document : Summary → Document
as_document S = map without_strong S

abbrev pub summary_parent : Summary → ℕ → ℕ
summary_parent S = parent_of (as_document S)

abbrev pub summary_label : Summary → ℕ → ℕ
summary_label S = label_of (as_document S)

-- strong edge from s to t
pub record StrongEdge (S : Summary) (s t : ℕ) : Type 0 where
  pub child : Child (as_document S) s t
  pub strong : (get_or S t no_summary_record).strong ≡ 1

-- node i of the volume is on the path that outline node s stands for
pub record OnPath (S : Summary) (W : Document) (i s : ℕ) : Type 0 where
  pub labels : List ℕ
  pub of_document : LabelPath W i labels
  pub of_summary : LabelPath (as_document S) s labels

-- fits: the roots' labels are equal, every path of labels from the root is a path of the outline, and a node on a path s
-- has at least one child on path t for every strong edge from s to t
pub record Fits (S : Summary) (W : Document) : Type 0 where
  pub tree : IsTree W
  pub root : label_of W 0 ≡ summary_label S 0
  pub paths : (i : ℕ) → i < length W → (s : ℕ) × (s < length S) × OnPath S W i s
  pub strong : (i s t : ℕ) → i < length W → s < length S → OnPath S W i s → StrongEdge S s t → (j : ℕ) × Child W i j × OnPath S W j t
