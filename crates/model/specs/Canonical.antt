-- The canonical document (document 01: trial volume) of a placement, in two phases that stand apart: the chains of the
-- pattern's nodes, then filling up. The table grows only by appending one node. Figures stand beside the phases.
use Rattle.std.specs.Prelude.{ℕ, zero, suc, ◌+◌, ◌-◌, ◌*◌, Bool, true, false, ◌&&◌, eqb, ltb, length, get_or}
use mathlib.Core.List.{List, [], ◌∷◌, ◌++◌, map, tail}
use Rattle.model.specs.Lists.{up_from, any_of, first_of}
use Rattle.model.specs.Tree.{DocumentRecord, Document, parent_of}
use Rattle.model.specs.Summary.{Summary, as_document, summary_label}
use Rattle.model.specs.Pattern.{PatternRecord, Pattern, pattern_figure, return_nodes}
use Rattle.model.specs.Embeddings.{image_in, is_result}
use Rattle.model.specs.Fitting.{strong_children}

-- a node of a trial volume: its parent and its outline node. `owner` is the selection node in whose chain it was appended,
-- or its parent's where it was `filled` up; nothing but the theorems reads these two
pub record Spot : Type 0 where
  pub parent : ℕ
  pub at : ℕ
  pub owner : ℕ
  pub filled : Bool

-- what a number past the last node reads as, and the root
abbrev pub root_spot : Spot
root_spot = record { parent = 0; at = 0; owner = 0; filled = false }

abbrev pub spot_parent : List Spot → ℕ → ℕ
spot_parent spots i = (get_or spots i root_spot).parent

abbrev pub spot_at : List Spot → ℕ → ℕ
spot_at spots i = (get_or spots i root_spot).at

-- Phase 1, the chains.

-- the nodes from below a down to b, top first, at most n of them
unfoldable pub chain_in : ℕ → Document → ℕ → ℕ → List ℕ
chain_in zero D a b = []
chain_in (suc n) D a b = elim (eqb a b) [ true ↦ [] | false ↦ chain_in n D a (parent_of D b) ++ b ∷ [] ]

-- the outline nodes from below a down to b, top first
unfoldable pub chain : Summary → ℕ → ℕ → List ℕ
chain S a b = chain_in b (as_document S) a b

-- a chain of new nodes for selection node q, hung from node v, top first
unfoldable pub append_chain : ℕ → List Spot → ℕ → List ℕ → List Spot
append_chain q spots v [] = spots
append_chain q spots v (x ∷ xs) =
    append_chain q (spots ++ record { parent = v; at = x; owner = q; filled = false } ∷ []) (length spots) xs

-- the nodes so far, and the volume node of each selection node so far
pub record Layout : Type 0 where
  pub spots : List Spot
  pub own : List ℕ

-- the next selection node, with record r, in the placement es: new nodes from its parent's volume node down to its outline node
unfoldable pub lay_node : List ℕ → Summary → Layout → PatternRecord → Layout
lay_node es S l r =
    let q : ℕ = length l.own in
    let spots : List Spot = append_chain q l.spots (image_in l.own r.parent) (chain S (image_in es r.parent) (image_in es q)) in
    record { spots = spots; own = l.own ++ (length spots - 1) ∷ [] }

unfoldable pub lay_nodes : List ℕ → Summary → Layout → List PatternRecord → Layout
lay_nodes es S l [] = l
lay_nodes es S l (r ∷ rs) = lay_nodes es S (lay_node es S l r) rs

-- node 0 is the root
abbrev pub root_layout : Layout
root_layout = record { spots = root_spot ∷ []; own = 0 ∷ [] }

-- the root, then each further selection node in table order
unfoldable pub chains : Summary → Pattern → List ℕ → Layout
chains S P es = lay_nodes es S root_layout (tail P)

-- Phase 2, filling up.

-- node v has a child on path t
unfoldable pub has_child_on : List Spot → ℕ → ℕ → Bool
has_child_on spots v t = any_of (λ i. ltb 0 i && eqb (spot_parent spots i) v && eqb (spot_at spots i) t) (up_from 0 (length spots))

-- one child of v on path t is appended if v has none
unfoldable pub add_missing : List Spot → ℕ → ℕ → List Spot
add_missing spots v t =
    elim (has_child_on spots v t) [
      | true ↦ spots
      | false ↦ spots ++ record { parent = v; at = t; owner = (get_or spots v root_spot).owner; filled = true } ∷ []
    ]

unfoldable pub add_all : List Spot → ℕ → List ℕ → List Spot
add_all spots v [] = spots
add_all spots v (t ∷ ts) = add_all (add_missing spots v t) v ts

-- the visit of node v: one child for each strong child of its outline node, in outline order
unfoldable pub fill_node : Summary → List Spot → ℕ → List Spot
fill_node S spots v = add_all spots v (strong_children S (spot_at spots v))

-- nodes are visited in number order from v on, appended ones too, at most n visits
unfoldable pub fill_from : ℕ → Summary → List Spot → ℕ → List Spot
fill_from zero S spots v = spots
fill_from (suc n) S spots v = elim (ltb v (length spots)) [ true ↦ fill_from n S (fill_node S spots v) (suc v) | false ↦ spots ]

-- the most nodes that can result; 1,009 for 16 selection nodes and 64 outline nodes
abbrev pub node_bound : Summary → Pattern → ℕ
node_bound S P = 1 + length P * (length S - 1)

unfoldable pub canonical_spots : Summary → Pattern → List ℕ → List Spot
canonical_spots S P es = fill_from (node_bound S P) S (chains S P es).spots 0

-- the first selection's own nodes, by selection node
unfoldable pub own_nodes : Summary → Pattern → List ℕ → List ℕ
own_nodes S P es = (chains S P es).own

-- a node's figure: the selection's own nodes have just their least figure, all others 0, which a number past the last selection node reads as
unfoldable pub own_figure : Pattern → List ℕ → ℕ → ℕ
own_figure P own v = pattern_figure P (first_of (λ q. eqb (image_in own q) v) (length P) (up_from 0 (length P)))

-- node i of a trial volume
abbrev pub spot_record : Summary → (ℕ → ℕ) → List Spot → ℕ → DocumentRecord
spot_record S figure spots i = record { parent = spot_parent spots i; label = summary_label S (spot_at spots i); figure = figure i }

-- the table of such nodes as a volume, with these figures
unfoldable pub spot_records : Summary → (ℕ → ℕ) → List Spot → Document
spot_records S figure spots = map (spot_record S figure spots) (up_from 0 (length spots))

-- the trial volume of a placement
unfoldable pub canonical : Summary → Pattern → List ℕ → Document
canonical S P es = spot_records S (own_figure P (own_nodes S P es)) (canonical_spots S P es)

-- the first selection's own nodes at positions 1 to k
unfoldable pub own_result : Summary → Pattern → List ℕ → List ℕ
own_result S P es = map (image_in (own_nodes S P es)) (return_nodes P)

-- the first selection's own nodes form a result of this selection
unfoldable pub passes : Summary → Pattern → Pattern → List ℕ → Bool
passes S P Q es = is_result Q (canonical S P es) (own_result S P es)

-- a trial passes: its result, as one list, is a result of at least one member of the set
unfoldable pub covered : Summary → Pattern → List Pattern → List ℕ → Bool
covered S P Qs es = any_of (λ Q. passes S P Q es) Qs
