-- Skipping sees alternatives: of a part of the first pattern whose places are open, a short list of sets over all members' nodes, one of
-- which is offered wherever the part is placed. `ts` is what is known of the members, `m` of the first pattern. What is promised of a
-- list is that it covers; which sets are merged where it is full is said nowhere.
use Rattle.std.specs.Prelude.{ℕ, ◌-◌, ◌<◌, ◌≡◌, Bool, true, false, not, ◌⊎◌, eqb, length, get_or, take}
use mathlib.Core.List.{List, [], Memᴰ}
use Rattle.std.specs.Int.Bits.{bit_and}
use Rattle.model.specs.Lists.{has}
use Rattle.model.specs.Pattern.{Pattern, pattern_parent, descends}
use Rattle.cover.specs.Cover.{Inside, Covers}
use Rattle.judging.specs.declared.member.Member.{Member}
use Rattle.judging.specs.declared.masks.Masks.{Masks}
use Rattle.judging.specs.Blocks.{no_member, child_in, below_in, sets_in, candidates_in}
use Rattle.judging.specs.Judging.{node_by, hang_by, pass_by, given_by, root_by}
use Rattle.judging.specs.Prepared.{Made}
use Rattle.judging.specs.Skipping.{PlacedBy}
use Rattle.judging.specs.Stepping.{Candidates, reach_by, step_from, sites_by}
use Rattle.alternatives.specs.declared.table.Table.{Table}
use Rattle.alternatives.specs.Members.{by_some, judged_by_some}
use Rattle.alternatives.specs.Entries.{Entry}

-- ---- in a whole embedding es, of member i whether its node p is offered

-- what hangs from first-pattern node j
unfoldable pub given_of : List Member → Pattern → List ℕ → ℕ → ℕ → ℕ → Bool
given_of ts P es j i p = has (get_or (given_by (sets_in (get_or ts i no_member)) P es) j 0) p

-- what first-pattern node c and all below it offer to a node on x above it
unfoldable pub offered_of : List Member → Pattern → List ℕ → ℕ → ℕ → ℕ → ℕ → Bool
offered_of ts P es c x i p = has (hang_by (sets_in (get_or ts i no_member)) x (get_or es c 0) c (get_or (given_by (sets_in (get_or ts i no_member)) P es) c 0)) p

-- the root of some member meets at the root by these sets
unfoldable pub met_by_some : List Member → List ℕ → Bool
met_by_some ts a = by_some (λ t i. root_by (sets_in t) (get_or a i 0)) ts

-- ---- sets, member by member

-- b has what F makes of the sets of a, of n members
pub record RowBy (n : ℕ) (F : ℕ → ℕ → ℕ) (a b : List ℕ) : Type 0 where
  pub each : (i : ℕ) → i < n → get_or b i 0 ≡ F i (get_or a i 0)

-- what a node on x that k holds makes of member i's set, and what first-pattern node c passes on of it
abbrev pub node_of : List Member → ℕ → ℕ → ℕ → ℕ → ℕ
node_of ts x k i = node_by (sets_in (get_or ts i no_member)) x k

abbrev pub pass_of : List Member → Pattern → List ℕ → ℕ → ℕ → ℕ → ℕ
pass_of ts P es c i = pass_by (sets_in (get_or ts i no_member)) P es c

-- what is inside g becomes by F what is inside f
abbrev pub Raises : ℕ → (ℕ → ℕ → ℕ) → (ℕ → ℕ → Bool) → (ℕ → ℕ → Bool) → Type 0
Raises n F g f = (a b : List ℕ) → Inside n a g → RowBy n F a b → Inside n b f

-- ---- lists of sets

-- at the root alone (`top`): sets are offered by which the root of some member meets
abbrev pub Met : List Member → Bool → (ℕ → ℕ → Bool) → Type 0
Met ts top f = (top ≡ true) × ((a : List ℕ) × Inside (length ts) a f × (met_by_some ts a ≡ true))

-- a list that still covers what it did
pub record Grown (n : ℕ) (before after : List (List ℕ)) : Type 0 where
  pub more : (f : ℕ → ℕ → Bool) → Covers n before f → Covers n after f

-- ---- the table of alternatives

-- these are alternatives of node c, where a node above it stands on x: one of them is offered, wherever c and all else is placed
pub record Alternatives (ts : List Member) (m : Masks) (P : Pattern) (c x : ℕ) (sets : List (List ℕ)) : Type 0 where
  pub offered : (es : List ℕ) → PlacedBy P (candidates_in m) (length P) es → has (reach_by (candidates_in m) x (descends P c)) (get_or es c 0) ≡ true
      → Covers (length ts) sets (offered_of ts P es c x)

-- where something is known, every cell's sets are alternatives of its node where a node above it stands on its summary node: one of them is
-- offered, wherever the node and all else is placed
pub record IsRight (ts : List Member) (m : Masks) (P : Pattern) (t : Table) : Type 0 where
  pub right : (c x : ℕ) → c < 16 → x < 64 → (es : List ℕ) → PlacedBy P (candidates_in m) (length P) es → has (reach_by (candidates_in m) x (descends P c)) (get_or es c 0) ≡ true
      → Entry (length ts) t c x (offered_of ts P es c x)

-- something is asked of node c where a node above it stands on x: by a descendant edge where it has paths below x, by a child edge where
-- its parent has the path x
unfoldable pub matters_by : Pattern → Candidates → ℕ → ℕ → Bool
matters_by P M c x =
    elim (descends P c) [ true ↦ not (eqb (bit_and (M.descendants x) (M.parts c)) 0) | false ↦ has (M.parts (pattern_parent P c)) x ]

-- v is y; v stands below y and is reached by c's descendant edge; one of the two
abbrev pub At : ℕ → ℕ → Type 0
At y v = v ≡ y

abbrev pub FarBelow : Masks → Pattern → ℕ → ℕ → ℕ → Type 0
FarBelow m P c y v = (descends P c ≡ true) × (has (below_in m y) v ≡ true)

abbrev pub Toward : Masks → Pattern → ℕ → ℕ → ℕ → Type 0
Toward m P c y v = At y v ⊎ FarBelow m P c y v

-- the list covers what c offers on any parent x of y, in the embeddings of which `Here` says so
pub record Covered (ts : List Member) (m : Masks) (P : Pattern) (c y : ℕ) (Here : ℕ → Type 0) (sets : List (List ℕ)) : Type 0 where
  pub offered : (R : Made ts m P) (x : ℕ) → x < length R.summary → has (child_in m x) y ≡ true → (es : List ℕ) → PlacedBy P (candidates_in m) (length P) es → Here (get_or es c 0)
      → Covers (length ts) sets (offered_of ts P es c x)

-- what filling the cell of node c and x takes: what judging takes, the first pattern, and a table that is right so far
pub record Fillable (ts : List Member) (m : Masks) (P : Pattern) (t : Table) (c x : ℕ) : Type 0 where
  pub made : Made ts m P
  pub table : IsRight ts m P t
  pub some : 0 < c
  pub inside : c < length P
  pub narrow : x < 64

-- ---- what is left open of a partial embedding, the images es of the first q nodes

-- fs is a whole embedding that keeps them
pub record Finishes (P : Pattern) (M : Candidates) (q : ℕ) (es fs : List ℕ) : Type 0 where
  pub placed : PlacedBy P M (length P) fs
  pub kept : (c : ℕ) → c < q → get_or fs c 0 ≡ get_or es c 0

-- each node's list covers what hangs from it, unless the whole embedding passes
pub record LeftOpen (ts : List Member) (m : Masks) (P : Pattern) (q : ℕ) (es : List ℕ) (lists : List (List (List ℕ))) : Type 0 where
  pub covered : (fs : List ℕ) → Finishes P (candidates_in m) q es fs
      → (judged_by_some ts P fs ≡ true) ⊎ ((j : ℕ) → j < length P → Covers (length ts) (get_or lists j []) (given_of ts P fs j))

-- every completion passes
pub record AllCovered (ts : List Member) (m : Masks) (P : Pattern) (q : ℕ) (es : List ℕ) : Type 0 where
  pub pass : (fs : List ℕ) → Memᴰ fs (step_from (sites_by P (candidates_in m)) (length P - q) (take q es)) → judged_by_some ts P fs ≡ true
