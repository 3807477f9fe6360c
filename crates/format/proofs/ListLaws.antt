-- A list (document 01: bare fields with no count) by its fields: how many entries it has, and where each stands. Assumes nothing.
use Prim.Native.Nat.{ℕ, ◌+◌, ◌*◌, ◌/◌, ◌<◌}
use mathlib.Core.Path.{◌≡◌}
use mathlib.Core.List.{List}
use native.Mathlib.Omega.{arith}
use lib.ListN.{length, get_or}
use Rattle.model.specs.Bytes.{field, list_of}
use Rattle.model.proofs.ListLaws.{length-map-up_from}
use Rattle.format.proofs.RangeLaws.{get_or-map-below}

pub list_count : (l : List ℕ) → length (list_of l) ≡ length l / 2
unfolding list_of
list_count l = length-map-up_from (field l) 0 (length l / 2)

pub list-entry : (l : List ℕ) (i : ℕ) → i < length l / 2 → get_or (list_of l) i 0 ≡ field l i
unfolding list_of
list-entry l i h = get_or-map-below (field l) (length l / 2) i 0 h

-- by the list's own length
pub list-field : (l : List ℕ) (i : ℕ) → i < length (list_of l) → (get_or (list_of l) i 0 ≡ field l i) × (2 * i + 1 < length l)
list-field l i h = let n = list_count l in (list-entry l i (omega arith), omega arith)
