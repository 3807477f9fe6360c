-- The quick test of an embedding by masks, as the code computes it for one member of the set. Sets of its nodes are 16-bit masks. Tables
-- are made once a case. proofs/Judging.antt shows that with the right tables this is the model's quick test.
use Rattle.std.specs.Prelude.{ℕ, zero, suc, ◌-◌, ◌/◌, ◌%◌, Bool, true, false, List, ltb, length, get_or, set, replicate}
use Rattle.std.specs.Int.Bits.{bit_and, bit_or}
use Rattle.model.specs.Limits.{max_pattern}
use Rattle.model.specs.Lists.{has}
use Rattle.model.specs.Pattern.{Pattern, pattern_parent}

-- ---- tables that are gathered from the leaves up

-- what entry c passes on by F is joined into the entry of c's parent
unfoldable pub join_up : (ℕ → ℕ) → (ℕ → ℕ → ℕ) → ℕ → List ℕ → List ℕ
join_up parent F c t = set t (parent c) (bit_or (get_or t (parent c) 0) (F c (get_or t c 0)))

-- from node n down to node 1
unfoldable pub gather : (ℕ → ℕ) → (ℕ → ℕ → ℕ) → ℕ → List ℕ → List ℕ
gather parent F zero t = t
gather parent F (suc n) t = gather parent F n (join_up parent F (suc n) t)

-- ---- one node

-- a document node is held by a node of the first pattern, whose position and figure it then has, or by this number, nobody
abbrev pub nobody : ℕ
nobody = max_pattern

-- what judging reads. By summary node: its parent, the pattern nodes whose labels fit it, what its filled-up children offer. By
-- holder: the pattern nodes that may stand where it holds. By byte: the pattern nodes all of whose children among the first eight nodes,
-- or the other eight, are in it. The pattern nodes that hang by a descendant edge
pub record Sets : Type 0 where
  pub up : ℕ → ℕ
  pub fitting : ℕ → ℕ
  pub closed : ℕ → ℕ
  pub allowed : ℕ → ℕ
  pub low : ℕ → ℕ
  pub high : ℕ → ℕ
  pub deep : ℕ

-- the pattern nodes all of whose children are in acc, by the halves of acc
unfoldable pub full_by : Sets → ℕ → ℕ
full_by T acc = bit_and (T.low (acc % 256)) (T.high (acc / 256))

-- the pattern nodes that meet at summary node x, where n holds and acc is offered
unfoldable pub meets_by : Sets → ℕ → ℕ → ℕ → ℕ
meets_by T x n acc = bit_and (bit_and (T.fitting x) (T.allowed n)) (full_by T acc)

-- what is offered to the node above
unfoldable pub offers_by : Sets → ℕ → ℕ → ℕ → ℕ
offers_by T x n acc = bit_or (meets_by T x n acc) (bit_and T.deep acc)

-- what a node on x that n holds, its filled-up children and what hangs from it, g, offer
unfoldable pub node_by : Sets → ℕ → ℕ → ℕ → ℕ
node_by T x n g = offers_by T x n (bit_or (T.closed x) g)

-- ---- chains

-- from x up to below a, at most k nodes, where h is offered to x
unfoldable pub climb_by : ℕ → Sets → ℕ → ℕ → ℕ → ℕ
climb_by zero T a x h = h
climb_by (suc k) T a x h = elim (ltb a x) [ true ↦ climb_by k T a (T.up x) (node_by T x nobody h) | false ↦ h ]

-- what the chain from below a down to b offers, where n holds b, nobody the nodes above it, and g hangs from b
unfoldable pub hang_by : Sets → ℕ → ℕ → ℕ → ℕ → ℕ
hang_by T a b n g = climb_by b T a (T.up b) (node_by T b n g)

-- ---- the first pattern

-- what first-pattern node c passes on to its parent, where e hangs from it
unfoldable pub pass_by : Sets → Pattern → List ℕ → ℕ → ℕ → ℕ
pass_by T P es c e = hang_by T (get_or es (pattern_parent P c) 0) (get_or es c 0) c e

-- what hangs from each of its nodes
unfoldable pub given_by : Sets → Pattern → List ℕ → List ℕ
given_by T P es = gather (pattern_parent P) (pass_by T P es) (length P - 1) (replicate 16 0)

-- the member's root meets at the root, where g hangs from it
unfoldable pub root_by : Sets → ℕ → Bool
root_by T g = has (meets_by T 0 0 (bit_or (T.closed 0) g)) 0

-- by what hangs from the root
unfoldable pub judge_by : Sets → Pattern → List ℕ → Bool
judge_by T P es = root_by T (get_or (given_by T P es) 0 0)
