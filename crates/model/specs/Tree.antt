-- Rooted trees as tables of records, and what a document (document 01: volume) is. A finite rooted tree of labelled nodes
-- is a table in which each node stands after its parent.
use Rattle.std.specs.Prelude.{ℕ, ◌≤◌, ◌<◌, ◌≡◌, Bool, true, false, ◌⊎◌, List, [], ◌∷◌, length, get_or}

-- a table of n records is a tree: node 0 is the root, with parent 0, and any other parent number is below its record's own
pub record Rooted (n : ℕ) (parent : ℕ → ℕ) : Type 0 where
  pub inhabited : 0 < n
  pub root : parent 0 ≡ 0
  pub earlier : (i : ℕ) → 0 < i → i < n → parent i < i

-- a volume node: its parent's number, its label and its figure
pub record DocumentRecord : Type 0 where
  pub parent : ℕ
  pub label : ℕ
  pub figure : ℕ

-- volume, of any size
abbrev pub Document : Type 0
Document = List DocumentRecord

-- what a number past the last node reads as
abbrev pub no_document_record : DocumentRecord
no_document_record = record { parent = 0; label = 0; figure = 0 }

abbrev pub parent_of : Document → ℕ → ℕ
parent_of W i = (get_or W i no_document_record).parent

abbrev pub label_of : Document → ℕ → ℕ
label_of W i = (get_or W i no_document_record).label

abbrev pub figure_of : Document → ℕ → ℕ
figure_of W i = (get_or W i no_document_record).figure

-- the table is a rooted tree
abbrev pub IsTree : Document → Type 0
IsTree W = Rooted (length W) (parent_of W)

-- b is a child of a; the root is nobody's child, though its parent field is 0
pub record Child (W : Document) (a b : ℕ) : Type 0 where
  pub not_root : 0 < b
  pub inside : b < length W
  pub is_parent : parent_of W b ≡ a

-- b is a descendant of a: at least one step down
pub data Below (W : Document) (a : ℕ) : ℕ → Type 0 where
  once : {b : ℕ} → Child W a b → Below W a b
  down : {b c : ℕ} → Below W a b → Child W b c → Below W a c

-- b is a, or a descendant of a
abbrev pub AtOrBelow : Document → ℕ → ℕ → Type 0
AtOrBelow W a b = (a ≡ b) ⊎ Below W a b

-- what an edge asks of the two images: a descendant edge (true) a descendant, a child edge (false) a child
abbrev pub Edge : Bool → Document → ℕ → ℕ → Type 0
Edge true W a b = Below W a b
Edge false W a b = Child W a b

-- path of labels: the labels from node i up to the root
abbrev pub LabelPath : Document → ℕ → List ℕ → Type 0
LabelPath W i [] = ⊥
LabelPath W i (l ∷ []) = (i ≡ 0) × (label_of W i ≡ l)
LabelPath W i (l ∷ m ∷ ls) = (0 < i) × (label_of W i ≡ l) × LabelPath W (parent_of W i) (m ∷ ls)

-- a homomorphism: the root goes to the root, labels and children are kept
pub record Hom (W D : Document) (h : ℕ → ℕ) : Type 0 where
  pub root : h 0 ≡ 0
  pub inside : (i : ℕ) → i < length W → h i < length D
  pub labels : (i : ℕ) → i < length W → label_of D (h i) ≡ label_of W i
  pub children : (a b : ℕ) → Child W a b → Child D (h a) (h b)

-- figures do not fall along a map of nodes
abbrev pub Rises : Document → Document → (ℕ → ℕ) → Type 0
Rises W D h = (i : ℕ) → i < length W → figure_of W i ≤ figure_of D (h i)
