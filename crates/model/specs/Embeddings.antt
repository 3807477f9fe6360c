-- All embeddings of a pattern into a tree, in document 01's order, and what is read off them: placements, results, nodes at
-- a position, paths. proofs/Embeddings.antt shows that the list holds exactly the embeddings.
use Rattle.std.specs.Prelude.{ℕ, zero, suc, ◌<◌, ◌≡◌, ◌⊎◌, Bool, true, false, ◌&&◌, eqb, ltb, length, get_or}
use mathlib.Core.List.{List, [], ◌∷◌, ◌++◌, map, flat_map}
use Rattle.model.specs.Lists.{up_from, keep, any_of, all_of, same_list, mask_below, count_below}
use Rattle.model.specs.Tree.{Document, parent_of, label_of, figure_of}
use Rattle.model.specs.Summary.{Summary, as_document}
use Rattle.model.specs.Pattern.{PatternRecord, Pattern, pattern_figure, label_fits, figure_fits, node_at, return_nodes}

-- b is a child of a
unfoldable pub child_test : Document → ℕ → ℕ → Bool
child_test W a b = ltb 0 b && ltb b (length W) && eqb (parent_of W b) a

-- a stands above b, at most n steps up
unfoldable pub climbs : ℕ → Document → ℕ → ℕ → Bool
climbs zero W a b = false
climbs (suc n) W a b = elim (child_test W a b) [ true ↦ true | false ↦ ltb 0 b && climbs n W a (parent_of W b) ]

-- b is a descendant of a; b steps up always reach the root
unfoldable pub below_test : Document → ℕ → ℕ → Bool
below_test W a b = climbs b W a b

unfoldable pub edge_test : Bool → Document → ℕ → ℕ → Bool
edge_test true W a b = below_test W a b
edge_test false W a b = child_test W a b

-- the next node of a pattern, with record r, may stand at v by its edge, after the images es of the nodes before it
unfoldable pub reaches : Document → List ℕ → PatternRecord → ℕ → Bool
reaches W [] r v = eqb v 0
reaches W (e ∷ es) r v = edge_test (eqb r.edge 1) W (get_or (e ∷ es) r.parent 0) v

-- and by its label too
unfoldable pub candidate : Document → List ℕ → PatternRecord → ℕ → Bool
candidate W es r v = label_fits r.label (label_of W v) && reaches W es r v

-- the images es of a pattern's first nodes, extended in every way to the nodes whose records are left
unfoldable pub extend : Document → List PatternRecord → List ℕ → List (List ℕ)
extend W [] es = es ∷ []
extend W (r ∷ rs) es = flat_map (λ v. extend W rs (es ++ v ∷ [])) (keep (candidate W es r) (up_from 0 (length W)))

-- all embeddings, whatever the figures, each as the list of the images in table order
unfoldable pub embeddings : Pattern → Document → List (List ℕ)
embeddings P W = extend W P []

-- the order of placements: the smaller number at the first difference first
abbrev pub Precedes : List ℕ → List ℕ → Type 0
Precedes [] ys = ⊥
Precedes (x ∷ xs) [] = ⊥
Precedes (x ∷ xs) (y ∷ ys) = (x < y) ⊎ ((x ≡ y) × Precedes xs ys)

-- the placements, in their order
abbrev pub summary_embeddings : Summary → Pattern → List (List ℕ)
summary_embeddings S P = embeddings P (as_document S)

-- a list of images as a function on pattern nodes
abbrev pub image_in : List ℕ → ℕ → ℕ
image_in es q = get_or es q 0

-- every node's least figure fits at its image
unfoldable pub figures_fit : Pattern → Document → List ℕ → Bool
figures_fit P W es = all_of (λ q. figure_fits (pattern_figure P q) (figure_of W (image_in es q))) (up_from 0 (length P))

-- the embeddings whose figures fit
unfoldable pub figured_embeddings : Pattern → Document → List (List ℕ)
figured_embeddings P W = keep (figures_fit P W) (embeddings P W)

-- r is a result: one list, and not position by position
unfoldable pub is_result : Pattern → Document → List ℕ → Bool
is_result P W r = any_of (λ es. same_list r (map (image_in es) (return_nodes P))) (figured_embeddings P W)

-- v is at position p in some result
unfoldable pub is_at : Pattern → Document → ℕ → ℕ → Bool
is_at P W p v = any_of (λ es. eqb (image_in es (node_at P p)) v) (figured_embeddings P W)

-- nodes at a position in any result, ascending
unfoldable pub nodes_at : Pattern → Document → ℕ → List ℕ
nodes_at P W p = keep (is_at P W p) (up_from 0 (length W))

-- outline node s is a path of selection node q
unfoldable pub is_path : Summary → Pattern → ℕ → ℕ → Bool
is_path S P q s = any_of (λ es. eqb (image_in es q) s) (summary_embeddings S P)

-- the paths of selection node q as a mask, bit i for outline node i; 0 for a number past the last node
unfoldable pub path_mask : Summary → Pattern → ℕ → ℕ
path_mask S P q = elim (ltb q (length P)) [ true ↦ mask_below (is_path S P q) (length S) | false ↦ 0 ]

-- how many paths selection node q may take
unfoldable pub path_count : Summary → Pattern → ℕ → ℕ
path_count S P q = elim (ltb q (length P)) [ true ↦ count_below (is_path S P q) (length S) | false ↦ 0 ]
