-- What the steps of the test of fitting leave to one another. Two tables: `path` has each document node's summary node; a row of `kids`,
-- one for each document node, has the paths of its children. `strong` is the table of strong children.
use Rattle.std.specs.Prelude.{ℕ, ◌≤◌, ◌<◌, ◌≡◌, Bool, ◌&&◌, List, Option, MatchOption, eqb, length, get_or}
use Rattle.std.specs.Int.Bits.{bit_and}
use Rattle.model.specs.Lists.{up_from, any_of, has}
use Rattle.model.specs.Tree.{Document}
use Rattle.model.specs.Summary.{Summary, summary_parent, summary_label}
use Rattle.model.specs.Embeddings.{child_test}
use Rattle.model.specs.Fitting.{path_in}
use Rattle.format.specs.declared.nodes.SummaryNode.{SummaryNode}

-- summary node t has parent s and label l
abbrev pub labelled_at : Summary → ℕ → ℕ → ℕ → Bool
labelled_at S s l t = eqb (summary_parent S t) s && eqb (summary_label S t) l

-- r is summary node x, or none where x is the summary's count, which in the model stands for none
abbrev pub IsNode : Summary → ℕ → Option SummaryNode → Type 0
IsNode S x r = MatchOption r (x ≡ length S) (λ t. (t.0 ≡ x) × (t.0 < length S))

-- the table has the summary nodes of the document nodes below i
pub record OnPaths (S : Summary) (W : Document) (path : List ℕ) (i : ℕ) : Type 0 where
  pub same : (v : ℕ) → v < i → get_or path v 0 ≡ path_in S W v
  pub inside : (v : ℕ) → v < i → get_or path v 0 < length S

-- the table r has those of all, or some document node has none
abbrev pub PathsFilled : Summary → Document → Option (List ℕ) → Type 0
PathsFilled S W r = MatchOption r ((v : ℕ) × (v < length W) × (length S ≤ path_in S W v)) (λ path. OnPaths S W path (length W))

-- each node of a document but the root has put its path into its parent's row: bit t of row k says that some child of k is on t
pub record Gathered (W : Document) (path masks : List ℕ) : Type 0 where
  pub row : (k t : ℕ) → has (get_or masks k 0) t ≡ any_of (λ j. child_test W k j && eqb t (get_or path j 0)) (up_from 0 (length W))

-- what the path of document node v needs is among the paths of its children
abbrev pub strong_kept_in : List ℕ → List ℕ → List ℕ → ℕ → Bool
strong_kept_in path kids strong v = eqb (bit_and (get_or strong (get_or path v 0) 0) (get_or kids v 0)) (get_or strong (get_or path v 0) 0)
