-- How many completions a partial embedding has, cut at a cap, as the code computes it from a table that is made once a case.
-- alternatives/proofs/Skipping.antt shows that where all of them pass the run over them is the model's `skip`.
use Rattle.std.specs.Prelude.{ℕ, zero, suc, ◌+◌, ◌-◌, ◌*◌, ◌≤◌, ◌<◌, min, ◌≡◌, Bool, true, false, eqb, ltb, length, get_or, set, take}
use mathlib.Core.List.{List, [], ◌∷◌, Memᴰ}
use Rattle.model.specs.Lists.{up_from, has, members}
use Rattle.model.specs.Pattern.{Pattern, pattern_parent, descends}
use Rattle.judging.specs.Stepping.{step_from, Candidates, places_by, sites_by}
use Rattle.judging.specs.Blocks.{cell}

-- what a loop over a list comes to
unfoldable pub loop : {A : Type 0} → (A → ℕ → A) → A → List ℕ → A
loop turn acc [] = acc
loop turn acc (x ∷ xs) = loop turn (turn acc x) xs

-- ---- tables by cell

-- h joined into entry i
unfoldable pub join_at : (ℕ → ℕ → ℕ) → ℕ → ℕ → List ℕ → List ℕ
join_at join i h t = set t i (join (get_or t i 0) h)

-- how ways are added and multiplied, cut at the cap K
abbrev pub plus_up_to : ℕ → ℕ → ℕ → ℕ
plus_up_to K acc n = min K (acc + n)

abbrev pub times_up_to : ℕ → ℕ → ℕ → ℕ
times_up_to K acc n = min K (acc * n)

-- the rows from node c down to node 1
unfoldable pub fill_rows : (ℕ → List ℕ → List ℕ) → ℕ → List ℕ → List ℕ
fill_rows row zero t = t
fill_rows row (suc c) t = fill_rows row c (row (suc c) t)

-- a loop over the children of node c: each gives its entry at y
unfoldable pub child_turn : (ℕ → ℕ → ℕ) → Pattern → List ℕ → ℕ → ℕ → ℕ → ℕ → ℕ
child_turn join P t c y acc d = elim (eqb (pattern_parent P d) c) [ true ↦ join acc (get_or t (cell d y) 0) | false ↦ acc ]

unfoldable pub child_loop : (ℕ → ℕ → ℕ) → ℕ → Pattern → List ℕ → ℕ → ℕ → ℕ
child_loop join start P t c y = loop (child_turn join P t c y) start (up_from (suc c) (length P - suc c))

-- in how many ways all below node c can be placed where it stands at y, cut at the cap K
unfoldable pub times_by : ℕ → Pattern → List ℕ → ℕ → ℕ → ℕ
times_by K = child_loop (times_up_to K) 1

-- what node c with all below it hands up from y to y's parent: its ways at y, if y is one of its paths, and, by a descendant edge, its
-- ways below y
unfoldable pub own_ways : ℕ → Pattern → Candidates → ℕ → List ℕ → ℕ → ℕ
own_ways K P M c t y = elim (has (M.parts c) y) [ true ↦ times_by K P t c y | false ↦ 0 ]

unfoldable pub below_ways : Bool → ℕ → List ℕ → ℕ → ℕ
below_ways far c t y = elim far [ true ↦ get_or t (cell c y) 0 | false ↦ 0 ]

-- in how many ways node c with all below it can be placed, where its parent stands at x. What one summary node hands up, and what all n
-- do, from the last on
abbrev pub ways_turn : ℕ → (ℕ → ℕ) → Pattern → Candidates → ℕ → ℕ → List ℕ → List ℕ
ways_turn K up P M c y t = join_at (plus_up_to K) (cell c (up y)) (plus_up_to K (own_ways K P M c t y) (below_ways (descends P c) c t y)) t

-- the turns begin before this node: none where there are no paths
abbrev pub top_of : ℕ → ℕ → ℕ
top_of paths n = elim (eqb paths 0) [ true ↦ 1 | false ↦ n ]

unfoldable pub ways_row : ℕ → (ℕ → ℕ) → Pattern → Candidates → ℕ → ℕ → List ℕ → List ℕ
ways_row K up P M n c t = fill_rows (ways_turn K up P M c) (top_of (M.parts c) n - 1) t

abbrev pub ways_table : ℕ → (ℕ → ℕ) → Pattern → Candidates → ℕ → List ℕ → List ℕ
ways_table K up P M n t = fill_rows (ways_row K up P M n) (length P - 1) t

-- ---- a partial embedding: the images es of the first q nodes

-- how many completions there are, cut at the cap K: a node whose parent is placed stands for all below it
unfoldable pub left_turn : ℕ → Pattern → List ℕ → ℕ → List ℕ → ℕ → ℕ → ℕ
left_turn K P counts q es acc c =
    elim (ltb (pattern_parent P c) q) [ true ↦ min K (acc * get_or counts (cell c (get_or es (pattern_parent P c) 0)) 0) | false ↦ acc ]

unfoldable pub left_by : ℕ → Pattern → List ℕ → ℕ → List ℕ → ℕ
left_by K P counts q es = loop (left_turn K P counts q es) 1 (up_from q (length P - q))

-- the first q images stand well: the root at the root, which its mask has, and every other at one of its places from its parent's
-- image
pub record PlacedBy (P : Pattern) (M : Candidates) (q : ℕ) (es : List ℕ) : Type 0 where
  pub top : has (M.parts 0) 0 ≡ true
  pub first : get_or es 0 0 ≡ 0
  pub placed : (c : ℕ) → 0 < c → c < q → Memᴰ (get_or es c 0) (members (places_by P M c (get_or es (pattern_parent P c) 0)))

-- the counts are those of the completions of the first q images, cut at the cap K
pub record Counts (P : Pattern) (M : Candidates) (counts : List ℕ) (K : ℕ) : Type 0 where
  pub same : (q : ℕ) (es : List ℕ) → 0 < q → q ≤ length P → q ≤ length es → PlacedBy P M q es
      → min K (length (step_from (sites_by P M) (length P - q) (take q es))) ≡ left_by K P counts q es
