-- One way of writing a case (document 02, #106): every tree in preorder, siblings in one order, and the whole outcome of the call that
-- writes it so.
use Rattle.std.specs.Prelude.{ℕ, zero, suc, ◌-◌, ◌<◌, ◌≡◌, Bool, true, false, ◌&&◌, eqb, leb, ltb, length, get_or}
use mathlib.Core.List.{List, [], ◌∷◌, ◌++◌, map, flat_map, flatten}
use Rattle.model.specs.Lists.{up_from, keep}
use Rattle.model.specs.Summary.{SummaryRecord, Summary}
use Rattle.model.specs.Pattern.{PatternRecord, Pattern, no_pattern_record, pattern_parent}
use Rattle.model.specs.Bytes.{Case, case_of, encode_case}
use Rattle.model.specs.Questions.{buffer_large_enough, ask, refusal, case_questions}
use Rattle.model.specs.Calls.{CountOutcome}
use Rattle.model.specs.Moving.{moved_call}

-- ---- Lists put in order

-- compared at the first difference, with a prefix first: xs does not come after ys
unfoldable pub not_after : List ℕ → List ℕ → Bool
not_after [] ys = true
not_after (x ∷ xs) [] = false
not_after (x ∷ xs) (y ∷ ys) = elim (eqb x y) [ true ↦ not_after xs ys | false ↦ ltb x y ]

-- and declaratively: ys goes on from xs, or xs has the smaller number at the first place where they differ
pub data NotAfter (xs ys : List ℕ) : Type 0 where
  goes_on : (rest : List ℕ) → ys ≡ xs ++ rest → NotAfter xs ys
  differs : (front : List ℕ) (x y : ℕ) (us vs : List ℕ) → xs ≡ front ++ x ∷ us → ys ≡ front ++ y ∷ vs → x < y → NotAfter xs ys

module _ {A : Type 0} (by : A → A → Bool) where
  -- x before the first that it does not come after
  unfoldable pub placed : A → List A → List A
  placed x [] = x ∷ []
  placed x (y ∷ ys) = elim (by x y) [ true ↦ x ∷ y ∷ ys | false ↦ y ∷ placed x ys ]

  -- each put in its place
  unfoldable pub ordered : List A → List A
  ordered [] = []
  ordered (x ∷ xs) = placed x (ordered xs)

-- ---- A tree in preorder

-- the steps up from a node to the root, at most n
unfoldable pub depth_from : ℕ → Pattern → ℕ → ℕ
depth_from zero P i = 0
depth_from (suc n) P i = elim (eqb i 0) [ true ↦ 0 | false ↦ suc (depth_from n P (pattern_parent P i)) ]

-- depth; a parent's number is below its own, so i steps up reach the root
unfoldable pub depth_of : Pattern → ℕ → ℕ
depth_of P i = depth_from i P i

-- what is written of a node: depth, label, edge, position, figure
pub record Entry : Type 0 where
  pub depth : ℕ
  pub label : ℕ
  pub edge : ℕ
  pub position : ℕ
  pub figure : ℕ

-- what a place past the last reads as
abbrev pub no_entry : Entry
no_entry = record { depth = 0; label = 0; edge = 0; position = 0; figure = 0 }

abbrev pub entry_at : Pattern → ℕ → Entry
entry_at P i =
    let r : PatternRecord = get_or P i no_pattern_record in
    record { depth = depth_of P i; label = r.label; edge = r.edge; position = r.position; figure = r.figure }

-- of nodes in their order
abbrev pub entries : Pattern → List ℕ → List Entry
entries P is = map (entry_at P) is

-- the numbers of an entry, in the order in which they are compared
abbrev pub entry_numbers : Entry → List ℕ
entry_numbers e = e.depth ∷ e.label ∷ e.edge ∷ e.position ∷ e.figure ∷ []

-- how selection siblings go: by their subtrees, each written as a list of entries
unfoldable pub by_subtree : List Entry → List Entry → Bool
by_subtree a b = not_after (flat_map entry_numbers a) (flat_map entry_numbers b)

-- how outline siblings go: by label; the first entry of a subtree is its root's
unfoldable pub by_label : List Entry → List Entry → Bool
by_label a b = leb (get_or a 0 no_entry).label (get_or b 0 no_entry).label

-- the children of a node, by their numbers
abbrev pub is_child_of : Pattern → ℕ → ℕ → Bool
is_child_of P i j = ltb 0 j && eqb (pattern_parent P j) i

unfoldable pub children_of : Pattern → ℕ → List ℕ
children_of P i = keep (is_child_of P i) (up_from 0 (length P))

-- two subtrees, by what is written of them
abbrev pub by_written : (List Entry → List Entry → Bool) → Pattern → List ℕ → List ℕ → Bool
by_written by P a b = by (entries P a) (entries P b)

-- the nodes of the subtree at node i in preorder, each child's subtree ordered within first; at most n steps down
unfoldable pub preorder : (List Entry → List Entry → Bool) → ℕ → Pattern → ℕ → List ℕ
preorder by zero P i = []
preorder by (suc n) P i = i ∷ flatten (ordered (by_written by P) (map (preorder by n P) (children_of P i)))

-- the whole tree as a list of entries; a child's number is above its parent's, so as many steps down as nodes reach every leaf
unfoldable pub listed : (List Entry → List Entry → Bool) → Pattern → List Entry
listed by P = entries P (preorder by (length P) P 0)

-- ---- And its table

-- the last of the first k entries that has depth d; 0 where there is none
unfoldable pub last_at : List Entry → ℕ → ℕ → ℕ
last_at es d zero = 0
last_at es d (suc k) = elim (eqb (get_or es k no_entry).depth d) [ true ↦ k | false ↦ last_at es d k ]

-- record k of the tree that a list in preorder stands for: its parent is the last entry before it of the depth above
abbrev pub record_of : List Entry → ℕ → PatternRecord
record_of es k =
    let e : Entry = get_or es k no_entry in
    record { parent = last_at es (e.depth - 1) k; label = e.label; edge = e.edge; position = e.position; figure = e.figure }

unfoldable pub table_of : List Entry → Pattern
table_of es = map (record_of es) (up_from 0 (length es))

-- a selection as it is written
unfoldable pub normal_pattern : Pattern → Pattern
normal_pattern P = table_of (listed by_subtree P)

-- an outline read as a selection: strong stands in the edge's place, and there are no positions and no figures; and back
abbrev pub read_as : SummaryRecord → PatternRecord
read_as r = record { parent = r.parent; label = r.label; edge = r.strong; position = 0; figure = 0 }

abbrev pub read_back : PatternRecord → SummaryRecord
read_back r = record { parent = r.parent; label = r.label; strong = r.edge }

abbrev pub as_pattern : Summary → Pattern
as_pattern S = map read_as S

abbrev pub as_summary : Pattern → Summary
as_summary P = map read_back P

-- an outline as it is written
unfoldable pub normal_summary : Summary → Summary
normal_summary S = as_summary (table_of (listed by_label (as_pattern S)))

-- a case as it is written: the set keeps its order
unfoldable pub normal_case : Case → Case
normal_case c = record { summary = normal_summary c.summary; first = normal_pattern c.first; members = map normal_pattern c.members }

-- every tree of a case is in preorder, siblings in their order: so gone through, its nodes are 0, 1, 2 and so on
pub record InOrder (c : Case) : Type 0 where
  pub summary : preorder by_label (length c.summary) (as_pattern c.summary) 0 ≡ up_from 0 (length c.summary)
  pub first : preorder by_subtree (length c.first) c.first 0 ≡ up_from 0 (length c.first)
  pub members : (i : ℕ) → i < length c.members → preorder by_subtree (length (get_or c.members i [])) (get_or c.members i []) 0 ≡ up_from 0 (length (get_or c.members i []))

-- ---- The call

-- 2 to 8, with 14 right after 4 and 17 right after 7
unfoldable pub normalise_refusal : List ℕ → ℕ → ℕ
normalise_refusal b buffer_bytes = refusal (ask 2 (buffer_large_enough buffer_bytes) ∷ case_questions b)

-- the bytes of the case as it is written
unfoldable pub normalised : List ℕ → List ℕ
normalised b = encode_case (normal_case (case_of b))

-- One way of writing: case, answer buffer
abbrev pub normalise_call : List ℕ → List ℕ → CountOutcome
normalise_call b buffer = moved_call (normalise_refusal b (length buffer)) (normalised b) buffer
