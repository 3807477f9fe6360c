-- The draft of a canonical document (document 01: trial volume) while it is laid out: three lent tables, filled from the front, and
-- what the fronts hold. Every figure is 0 in it.
use Rattle.std.specs.Prelude.{ℕ, ◌+◌, ◌*◌, ◌^◌, ◌≤◌, ◌<◌, ◌≡◌, length, get_or, set}
use mathlib.Core.List.{List, ◌∷◌, map, flat_map}
use Rattle.std.specs.Int.Bits.{bit_or}
use Rattle.std.proofs.lemmas.List.Edits.{sets}
use Rattle.model.specs.Limits.{min_buffer, min_table, max_summary, max_canonical}
use Rattle.model.specs.Lists.{up_from, mask_below}
use Rattle.model.specs.Summary.{Summary, summary_label}
use Rattle.model.specs.Bytes.{field_bytes, bytes_of, document_fields, written_at_front}
use Rattle.model.specs.Canonical.{Spot, spot_parent, spot_at, spot_records, has_child_on}
use Rattle.canonical.specs.declared.draft.Draft.{Draft}

-- the document's section, as bytes; of each node its summary node, and the mask of the summary nodes that its children are on
pub record Tables : Type 0 where
  pub bytes : List ℕ
  pub on : List ℕ
  pub kids : List ℕ

abbrev pub tables_of : List ℕ → List ℕ → List ℕ → Tables
tables_of bytes on kids = record { bytes = bytes; on = on; kids = kids }

-- those of a draft, as they stand
abbrev pub tables : Draft → Tables
tables d = tables_of d.bytes.now d.on.now d.kids

-- two drafts are over the same lent tables
pub record SameTables (d e : Draft) : Type 0 where
  pub bytes : e.bytes.ghost_name ≡ d.bytes.ghost_name
  pub on : e.on.ghost_name ≡ d.on.ghost_name

-- as long as any canonical document needs
pub record Roomy (t : Tables) : Type 0 where
  pub bytes : min_buffer ≤ length t.bytes
  pub on : min_table ≤ length t.on
  pub kids : min_table ≤ length t.kids

-- the figure of every node of a draft
abbrev pub no_figure : ℕ → ℕ
no_figure i = 0

-- the section's fields, with 0 in place of the count
abbrev pub draft_fields : Summary → List Spot → List ℕ
draft_fields S spots = 0 ∷ flat_map document_fields (spot_records S no_figure spots)

-- the masks
abbrev pub child_mask : List Spot → ℕ → ℕ
child_mask spots v = mask_below (has_child_on spots v) max_summary

unfoldable pub child_masks : List Spot → List ℕ
child_masks spots = map (child_mask spots) (up_from 0 (length spots))

-- the fronts hold the count nodes of spots, and after them stands what base has there
pub record Drafted (S : Summary) (spots : List Spot) (base now : Tables) (count : ℕ) : Type 0 where
  pub counted : count ≡ length spots
  pub some : 0 < count
  pub fits : count ≤ max_canonical
  pub room : Roomy base
  pub inside : (i : ℕ) → i < length spots → (spot_parent spots i < length spots) × (spot_at spots i < length S)
  pub bytes : now.bytes ≡ written_at_front (bytes_of (draft_fields S spots)) base.bytes
  pub on : now.on ≡ written_at_front (map (λ s. s.at) spots) base.on
  pub kids : now.kids ≡ written_at_front (child_masks spots) base.kids

-- one node more: number count hangs from v, on summary node x, and v has a child on x
abbrev pub appended : Summary → Tables → ℕ → ℕ → ℕ → Tables
appended S t count v x =
    tables_of
    (sets (sets (sets t.bytes (2 * (1 + 3 * count)) (field_bytes v)) (2 * (2 + 3 * count)) (field_bytes (summary_label S x))) (2 * (3 + 3 * count)) (field_bytes 0))
    (set t.on count x)
    (set (set t.kids v (bit_or (get_or t.kids v 0) (2 ^ x))) count 0)
