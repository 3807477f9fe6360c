-- The embeddings of a pattern into a summary (document 01: placements) one by one, as the code steps through them: the next
-- node's places are a 64-bit mask, and they are taken lowest first. proofs/Pruning.antt shows that with the right masks the list
-- is the model's.
use Rattle.std.specs.Prelude.{ℕ, zero, suc, ◌-◌, ◌<◌, ◌≡◌, Bool, true, false, ◌&&◌, length, get_or, drop}
use mathlib.Core.List.{List, [], ◌∷◌, ◌++◌, flat_map, Memᴰ}
use Rattle.std.specs.Int.Bits.{bit_and}
use Rattle.model.specs.Lists.{has, members}
use Rattle.model.specs.Tree.{Document, label_of}
use Rattle.model.specs.Pattern.{Pattern, pattern_label, pattern_parent, descends, label_fits, Embeds}
use Rattle.model.specs.Embeddings.{edge_test, extend, embeddings, image_in}

-- the images es of a pattern's first nodes, extended in every way to n nodes more, where `sites` gives the next node's places
unfoldable pub step_from : (List ℕ → ℕ) → ℕ → List ℕ → List (List ℕ)
step_from sites zero es = es ∷ []
step_from sites (suc n) es = flat_map (λ v. step_from sites n (es ++ v ∷ [])) (members (sites es))

-- what stepping reads, as masks. By summary node: its children, its descendants. By pattern node: its paths
pub record Candidates : Type 0 where
  pub children : ℕ → ℕ
  pub descendants : ℕ → ℕ
  pub parts : ℕ → ℕ

-- the places that an edge, a descendant edge where `far` says so, reaches from a
unfoldable pub reach_by : Candidates → ℕ → Bool → ℕ
reach_by M a far = elim far [ true ↦ M.descendants a | false ↦ M.children a ]

-- the places of node c where its parent stands at x: those that its edge reaches and that its part's mask has
unfoldable pub places_by : Pattern → Candidates → ℕ → ℕ → ℕ
places_by P M c x = bit_and (reach_by M x (descends P c)) (M.parts c)

-- the places of the next node after the images es
unfoldable pub sites_by : Pattern → Candidates → List ℕ → ℕ
sites_by P M es = places_by P M (length es) (get_or es (pattern_parent P (length es)) 0)

-- all of them: the root goes to the root, if its mask has it
unfoldable pub all_by : Pattern → Candidates → List (List ℕ)
all_by P M = elim (has (M.parts 0) 0) [ true ↦ step_from (sites_by P M) (length P - 1) (0 ∷ []) | false ↦ [] ]

-- `parts q v` says that the part of the pattern from q down embeds at v. Pruning rests on two things: in an embedding it is true
-- of every node's image, and where it is true the label fits
pub record Parts (P : Pattern) (W : Document) (parts : ℕ → ℕ → Bool) : Type 0 where
  pub taken : (e : ℕ → ℕ) → Embeds P W e → (q : ℕ) → q < length P → parts q (e q) ≡ true
  pub label : (q v : ℕ) → q < length P → v < length W → parts q v ≡ true → label_fits (pattern_label P q) (label_of W v) ≡ true

-- the images es of a pattern's first nodes, all inside, whose extensions are embeddings
pub record Reached (P : Pattern) (W : Document) (es : List ℕ) : Type 0 where
  pub inside : (i : ℕ) → i < length es → image_in es i < length W
  pub whole : (fs : List ℕ) → Memᴰ fs (extend W (drop (length es) P) es) → Memᴰ fs (embeddings P W)

-- the next node, whose part embeds at v, may stand there by its edge, after the images es of the nodes before it
unfoldable pub site_test : Pattern → Document → (ℕ → ℕ → Bool) → List ℕ → ℕ → Bool
site_test P W parts es v = edge_test (descends P (length es)) W (image_in es (pattern_parent P (length es))) v && parts (length es) v
