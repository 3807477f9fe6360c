-- The test of fitting. proofs/Fitting.antt shows that it says exactly `Fits`.
use Rattle.std.specs.Prelude.{ℕ, zero, suc, Bool, true, false, ◌&&◌, List, [], ◌∷◌, ◌++◌, eqb, ltb, length, get_or}
use Rattle.model.specs.Lists.{up_from, keep, any_of, all_of, first_of}
use Rattle.model.specs.Tree.{Document, DocumentRecord, parent_of}
use Rattle.model.specs.Summary.{Summary, as_document, summary_label, no_summary_record}
use Rattle.model.specs.Embeddings.{child_test}

-- the rule for parents: the root's is 0, any other is below its record's own number
unfoldable pub parent_rule : ℕ → ℕ → Bool
parent_rule zero p = eqb p 0
parent_rule (suc i) p = ltb p (suc i)

-- a table of n records is a rooted tree
unfoldable pub is_rooted : ℕ → (ℕ → ℕ) → Bool
is_rooted n parent = ltb 0 n && all_of (λ i. parent_rule i (parent i)) (up_from 0 n)

-- a strong edge leads from outline node s to t
abbrev pub strong_test : Summary → ℕ → ℕ → Bool
strong_test S s t = child_test (as_document S) s t && eqb (get_or S t no_summary_record).strong 1

-- the strong children of an outline node, in outline order
unfoldable pub strong_children : Summary → ℕ → List ℕ
strong_children S s = keep (strong_test S s) (up_from 0 (length S))

-- the child of outline node s with label l; the outline's count where there is none
unfoldable pub child_labelled : Summary → ℕ → ℕ → ℕ
child_labelled S s l = first_of (λ t. child_test (as_document S) s t && eqb (summary_label S t) l) (length S) (up_from 0 (length S))

-- the outline node of the next volume node, with record r, after those of the nodes before it
unfoldable pub next_path : Summary → List ℕ → DocumentRecord → ℕ
next_path S [] r = elim (eqb r.label (summary_label S 0)) [ true ↦ 0 | false ↦ length S ]
next_path S (m ∷ ms) r = child_labelled S (get_or (m ∷ ms) r.parent 0) r.label

unfoldable pub paths_from : Summary → Document → List ℕ → List ℕ
paths_from S [] ms = ms
paths_from S (r ∷ rs) ms = paths_from S rs (ms ++ next_path S ms r ∷ [])

-- the outline map: each volume node's outline node, or the outline's count where its path is none of the outline's
unfoldable pub path_map : Summary → Document → List ℕ
path_map S W = paths_from S W []

-- a volume node's outline node by the outline map
abbrev pub path_in : Summary → Document → ℕ → ℕ
path_in S W i = get_or (path_map S W) i 0

-- each strong edge from the path of volume node i has a child of i on its other end
unfoldable pub strong_kept : Summary → Document → ℕ → Bool
strong_kept S W i = all_of (λ t. any_of (λ j. child_test W i j && eqb (path_in S W j) t) (up_from 0 (length W))) (strong_children S (path_in S W i))

-- fits
unfoldable pub fits : Summary → Document → Bool
fits S W =
    is_rooted (length W) (parent_of W) && all_of (λ m. ltb m (length S)) (path_map S W)
    && all_of (strong_kept S W) (up_from 0 (length W))
