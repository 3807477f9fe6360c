-- Conjunctive tree patterns (document 01: selections): embeddings, results, placements, inclusion.
use Rattle.std.specs.Prelude.{ℕ, ◌<◌, ◌≡◌, Bool, true, ◌||◌, eqb, leb, ltb, length, get_or}
use mathlib.Core.List.{List, map, Memᴰ}
use Rattle.model.specs.Lists.{up_from, count_of, first_of}
use Rattle.model.specs.Tree.{Document, label_of, figure_of, Edge, Rooted}
use Rattle.model.specs.Summary.{Summary, as_document, Fits}

-- a selection node: its parent's number, its label or 0 for any, its edge (0 child, 1 descendant), its position or 0, the least figure
-- that it accepts
pub record PatternRecord : Type 0 where
  pub parent : ℕ
  pub label : ℕ
  pub edge : ℕ
  pub position : ℕ
  pub figure : ℕ

-- selection
abbrev pub Pattern : Type 0
Pattern = List PatternRecord

-- what a number past the last node reads as
abbrev pub no_pattern_record : PatternRecord
no_pattern_record = record { parent = 0; label = 0; edge = 0; position = 0; figure = 0 }

abbrev pub pattern_parent : Pattern → ℕ → ℕ
pattern_parent P q = (get_or P q no_pattern_record).parent

abbrev pub pattern_label : Pattern → ℕ → ℕ
pattern_label P q = (get_or P q no_pattern_record).label

-- the edge from the node's parent is a descendant edge
abbrev pub descends : Pattern → ℕ → Bool
descends P q = eqb (get_or P q no_pattern_record).edge 1

abbrev pub position : Pattern → ℕ → ℕ
position P q = (get_or P q no_pattern_record).position

-- its least figure
abbrev pub pattern_figure : Pattern → ℕ → ℕ
pattern_figure P q = (get_or P q no_pattern_record).figure

-- the table is a rooted tree
abbrev pub IsPatternTree : Pattern → Type 0
IsPatternTree P = Rooted (length P) (pattern_parent P)

-- k, the number of positions
abbrev pub arity : Pattern → ℕ
arity P = count_of (λ (r : PatternRecord). ltb 0 r.position) P

-- the node that holds a position
abbrev pub node_at : Pattern → ℕ → ℕ
node_at P p = first_of (λ q. eqb (position P q) p) (length P) (up_from 0 (length P))

-- the nodes at positions 1 to k
abbrev pub return_nodes : Pattern → List ℕ
return_nodes P = map (node_at P) (up_from 1 (arity P))

-- labels fit: a selection's label, where 0 is any, and a label of a volume or an outline
unfoldable pub label_fits : ℕ → ℕ → Bool
label_fits l m = eqb l 0 || eqb l m

-- figures fit: a selection's least figure, and a figure of a volume
unfoldable pub figure_fits : ℕ → ℕ → Bool
figure_fits least figure = leb least figure

-- embedding, whatever the figures: each selection node goes to a volume node, the root to the root, labels fit, child edges go to
-- children and descendant edges to descendants
pub record Embeds (P : Pattern) (W : Document) (e : ℕ → ℕ) : Type 0 where
  pub inside : (q : ℕ) → q < length P → e q < length W
  pub root : e 0 ≡ 0
  pub labels : (q : ℕ) → q < length P → label_fits (pattern_label P q) (label_of W (e q)) ≡ true
  pub edges : (q : ℕ) → 0 < q → q < length P → Edge (descends P q) W (e (pattern_parent P q)) (e q)

-- and with them: each selection node's least figure fits the figure of its volume node
abbrev pub FiguresFit : Pattern → Document → (ℕ → ℕ) → Type 0
FiguresFit P W e = (q : ℕ) → q < length P → figure_fits (pattern_figure P q) (figure_of W (e q)) ≡ true

-- result: the list of the volume nodes at positions 1 to k of some embedding whose figures fit
pub record Result (P : Pattern) (W : Document) (r : List ℕ) : Type 0 where
  pub image : ℕ → ℕ
  pub embeds : Embeds P W image
  pub figures : FiguresFit P W image
  pub returns : r ≡ map image (return_nodes P)

-- placement: an embedding into the outline read as a volume, whatever the figures
abbrev pub SummaryEmbedding : Summary → Pattern → (ℕ → ℕ) → Type 0
SummaryEmbedding S P e = Embeds P (as_document S) e

-- s is one of the paths of selection node q: it takes s in some placement
pub record PathOf (S : Summary) (P : Pattern) (q s : ℕ) : Type 0 where
  pub image : ℕ → ℕ
  pub places : SummaryEmbedding S P image
  pub takes : image q ≡ s

-- v is at position p in some result
pub record AtPosition (P : Pattern) (W : Document) (p v : ℕ) : Type 0 where
  pub image : ℕ → ℕ
  pub embeds : Embeds P W image
  pub figures : FiguresFit P W image
  pub takes : image (node_at P p) ≡ v

-- in every fitting volume, of any size, each result of the pattern passes
abbrev pub ContainedIn : Summary → Pattern → (Document → List ℕ → Type 0) → Type 0
ContainedIn S P Passes = (W : Document) → Fits S W → (r : List ℕ) → Result P W r → Passes W r

-- a result, as one list, of at least one selection of a set
pub record ResultOfSome (Qs : List Pattern) (W : Document) (r : List ℕ) : Type 0 where
  pub pattern : Pattern
  pub among : Memᴰ pattern Qs
  pub result : Result pattern W r

-- included: in every fitting volume, each result of the first selection is a result of some member of the set
abbrev pub Contained : Summary → Pattern → List Pattern → Type 0
Contained S P Qs = ContainedIn S P (ResultOfSome Qs)

-- what shuts inclusion out: a fitting volume, of any size, and a result of the first selection there that no member has
pub record CounterExample (S : Summary) (P : Pattern) (Qs : List Pattern) (W : Document) (r : List ℕ) : Type 0 where
  pub fits : Fits S W
  pub of_first : Result P W r
  pub of_none : ResultOfSome Qs W r → ⊥

-- selection Q carried into P by a map of its nodes: the root to the root, each other node to one like it below it, parents to parents, no two
-- to one, and no position is lost
pub record Carries (Q P : Pattern) (f : ℕ → ℕ) : Type 0 where
  pub inside : (i : ℕ) → i < length Q → f i < length P
  pub root : f 0 ≡ 0
  pub not_root : (i : ℕ) → 0 < i → i < length Q → 0 < f i
  pub parents : (i : ℕ) → 0 < i → i < length Q → pattern_parent P (f i) ≡ f (pattern_parent Q i)
  pub labels : (i : ℕ) → i < length Q → pattern_label P (f i) ≡ pattern_label Q i
  pub edges : (i : ℕ) → i < length Q → descends P (f i) ≡ descends Q i
  pub positions : (i : ℕ) → i < length Q → position P (f i) ≡ position Q i
  pub figures : (i : ℕ) → i < length Q → pattern_figure P (f i) ≡ pattern_figure Q i
  pub apart : (i j : ℕ) → i < length Q → j < length Q → f i ≡ f j → i ≡ j
  pub positioned : (j : ℕ) → j < length P → 0 < position P j → (i : ℕ) × (i < length Q) × (f i ≡ j)
  pub arities : arity Q ≡ arity P
