-- The tables that judging and stepping read, of a summary and a pattern.
use Rattle.std.specs.Prelude.{ℕ, ◌+◌, ◌-◌, ◌/◌, ◌%◌, ◌^◌, ◌≤◌, ◌<◌, ◌≡◌, List, [], ◌∷◌, map, eqb, length, get_or, set, replicate}
use Rattle.std.specs.Int.Bits.{bit_and, bit_or}
use Rattle.model.specs.Lists.{up_from, mask_below}
use Rattle.model.specs.Summary.{Summary, summary_parent, summary_label}
use Rattle.model.specs.Pattern.{Pattern, pattern_label, descends, label_fits}
use Rattle.model.specs.Embeddings.{path_mask}
use Rattle.model.specs.Fitting.{strong_children}
use Rattle.model.specs.Quick.{Held, held_by, unheld, may_hold}
use Rattle.model.specs.Bytes.{written_at_front}
use Rattle.judging.specs.Judging.{nobody, gather, Sets, offers_by}

-- f's values at 0 to n - 1, then zeros, k entries in all
abbrev pub table_of : (ℕ → ℕ) → ℕ → ℕ → List ℕ
table_of f n k = written_at_front (map f (up_from 0 n)) (replicate k 0)

-- a table whose first `size` entries are copied to the next, and in the first what is not in `keep` is left out
pub record Doubled (size keep : ℕ) (before after : List ℕ) : Type 0 where
  pub low : (b : ℕ) → b < size → get_or after b 0 ≡ bit_and (get_or before b 0) keep
  pub high : (b : ℕ) → b < size → get_or after (size + b) 0 ≡ get_or before b 0
  pub rest : (b : ℕ) → size + size ≤ b → get_or after b 0 ≡ get_or before b 0

-- ---- the first pattern

-- by node, its paths
abbrev pub path_table : Summary → Pattern → List ℕ
path_table S P = map (path_mask S P) (up_from 0 16)

-- ---- a member of the set

-- the nodes that may stand where h is held
unfoldable pub may_set : Pattern → Held → ℕ
may_set Q h = mask_below (may_hold Q h) (length Q)

-- those that hang by a descendant edge
unfoldable pub deep_set : Pattern → ℕ
deep_set Q = mask_below (descends Q) (length Q)

-- and those that may stand where node c of the first pattern holds
abbrev pub held_set : Pattern → Pattern → ℕ → ℕ
held_set P Q c = may_set Q (held_by P c)

-- by node, its label
abbrev pub label_row : Pattern → List ℕ
label_row Q = table_of (pattern_label Q) (length Q) 16

-- the nodes whose labels fit l
unfoldable pub labelled_set : Pattern → ℕ → ℕ
labelled_set Q l = mask_below (λ p. label_fits (pattern_label Q p) l) (length Q)

-- of n nodes those whose children, from the bit that shift stands for on, are all in byte b; kids has each node's children
unfoldable pub byte_set : List ℕ → ℕ → ℕ → ℕ → ℕ
byte_set kids n shift b = mask_below (λ p. eqb (bit_and (get_or kids p 0 / shift % 256) b) (get_or kids p 0 / shift % 256)) n

-- by summary node, by holder with nobody last, by byte
abbrev pub fitting_table : Summary → Pattern → List ℕ
fitting_table S Q = table_of (λ x. labelled_set Q (summary_label S x)) (length S) 64

abbrev pub allowed_table : Pattern → Pattern → List ℕ
allowed_table P Q = set (table_of (held_set P Q) (length P) 17) nobody (may_set Q unheld)

abbrev pub byte_table : List ℕ → ℕ → ℕ → List ℕ
byte_table kids n shift = table_of (byte_set kids n shift) 256 256

-- ---- the summary

-- by summary node, its parent
abbrev pub up_table : Summary → List ℕ
up_table S = table_of (summary_parent S) (length S) 64

-- and one entry
abbrev pub parent_of : Summary → ℕ → ℕ
parent_of S x = get_or (up_table S) x 0

-- a child alone, and with what is below it
abbrev pub child_by : ℕ → ℕ → ℕ
child_by b e = bit_or 0 (2 ^ b)

abbrev pub below_by : ℕ → ℕ → ℕ
below_by b e = bit_or e (2 ^ b)

-- by summary node, gathered from the last on: its children, its descendants
abbrev pub gathered : Summary → (ℕ → ℕ → ℕ) → List ℕ
gathered S F = gather (summary_parent S) F (length S - 1) (replicate 64 0)

-- acc, joined with what the summary nodes cs offer to the node above them, where each is offered its entry of closed
unfoldable pub join_offers : Sets → List ℕ → ℕ → List ℕ → ℕ
join_offers T closed acc [] = acc
join_offers T closed acc (c ∷ cs) = join_offers T closed (bit_or acc (offers_by T c nobody (get_or closed c 0))) cs

-- by summary node, what its filled-up children offer: what its strong children offer, each with its own filled-up children
pub record Closed (S : Summary) (T : Sets) (closed : List ℕ) : Type 0 where
  pub each : (x : ℕ) → x < 64 → get_or closed x 0 ≡ join_offers T closed 0 (strong_children S x)
