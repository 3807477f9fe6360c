-- What the layout and each of its phases are given, and what they leave.
use Rattle.std.specs.Prelude.{ℕ, ◌+◌, ◌*◌, ◌≤◌, ◌<◌, ◌≡◌, List, map, length, take, replicate}
use Rattle.model.specs.Limits.{max_canonical}
use Rattle.model.specs.Tree.{AtOrBelow}
use Rattle.model.specs.Summary.{Summary, as_document}
use Rattle.model.specs.Pattern.{Pattern, SummaryEmbedding}
use Rattle.model.specs.Embeddings.{image_in}
use Rattle.model.specs.Bytes.{encode_document, written_at_front}
use Rattle.model.specs.Canonical.{Spot, chain, append_chain, add_missing, fill_node, fill_from, spot_records, canonical_spots, canonical, own_nodes, own_figure}
use Rattle.format.specs.Given.{SummaryKept, PatternKept}
use Rattle.canonical.specs.Draft.{Tables, Drafted, no_figure}
use Rattle.canonical.specs.declared.LaidOut.{LaidOut}

-- ---- the whole layout

-- the images of the pattern's nodes, in a table that may be longer
abbrev pub embedding_in : Pattern → List ℕ → List ℕ
embedding_in P images = take (length P) images

-- they are an embedding of the pattern into the summary (document 01: a placement)
pub record Embedded (S : Summary) (P : Pattern) (images : List ℕ) : Type 0 where
  pub summary : SummaryKept S
  pub pattern : PatternKept P
  pub enough : length P ≤ length images
  pub embedding : SummaryEmbedding S P (image_in (embedding_in P images))

-- the canonical document's section at the front of a buffer, each node's summary node at that of a table, the rest of both untouched
pub record WrittenOut (S : Summary) (P : Pattern) (es bytes₀ bytes on₀ on : List ℕ) (r : LaidOut) : Type 0 where
  pub counted : r.count ≡ length (canonical_spots S P es)
  pub own : r.own ≡ written_at_front (own_nodes S P es) (replicate 16 0)
  pub section : bytes ≡ written_at_front (encode_document (canonical S P es)) bytes₀
  pub nodes : on ≡ written_at_front (map (λ s. s.at) (canonical_spots S P es)) on₀

-- ---- the chains

-- a chain from below a down to b, to be hung from document node v, in a draft of count nodes
pub record Hanging (S : Summary) (a b v count : ℕ) : Type 0 where
  pub reach : AtOrBelow (as_document S) a b
  pub hangs : v < count
  pub room : count + length (chain S a b) ≤ max_canonical

-- what appending it leaves: n nodes, the chain's among them
pub record Hung (S : Summary) (a b v count : ℕ) (before after : Tables) (n : ℕ) : Type 0 where
  pub counted : n ≡ count + length (chain S a b)
  pub grown : (q : ℕ) (spots : List Spot) (base : Tables) → Drafted S spots base before count
      → Drafted S (append_chain q spots v (chain S a b)) base after n

-- ---- filling up

-- node v gets its child on summary node t, if it has none
pub record Missing (S : Summary) (spots : List Spot) (base now : Tables) (v t count : ℕ) : Type 0 where
  pub drafted : Drafted S spots base now count
  pub inside : v < count
  pub room : length (add_missing spots v t) ≤ max_canonical

-- node v is visited
pub record Visitable (S : Summary) (spots : List Spot) (base now : Tables) (v count : ℕ) : Type 0 where
  pub drafted : Drafted S spots base now count
  pub inside : v < count
  pub room : length (fill_node S spots v) ≤ max_canonical

-- a draft of count nodes is filled up; k visits are enough
pub record Fillable (S : Summary) (spots : List Spot) (base now : Tables) (count k : ℕ) : Type 0 where
  pub drafted : Drafted S spots base now count
  pub ends : length (fill_from k S spots 0) ≤ k
  pub room : length (fill_from k S spots 0) ≤ max_canonical

-- ---- the figures

-- the nodes stand as a section at the front of a buffer, without figures; the own nodes are among them, one for each pattern node
pub record Figureless (S : Summary) (spots : List Spot) (P : Pattern) (own base now : List ℕ) : Type 0 where
  pub section : now ≡ written_at_front (encode_document (spot_records S no_figure spots)) base
  pub room : 2 + 6 * length spots ≤ length base
  pub enough : length P ≤ length own
  pub inside : (q : ℕ) → q < length P → image_in own q < length spots
  pub apart : (p q : ℕ) → p < length P → q < length P → image_in own p ≡ image_in own q → p ≡ q

-- what giving them their figures leaves
abbrev pub Figured : Summary → List Spot → Pattern → List ℕ → List ℕ → List ℕ → Type 0
Figured S spots P own base now = now ≡ written_at_front (encode_document (spot_records S (own_figure P own) spots)) base
