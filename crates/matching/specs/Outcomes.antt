-- What is read off the matching tables: is a list a result, the nodes at a position, the paths of each node.
use Rattle.std.specs.Prelude.{ℕ, ◌≡◌, Bool, List, length, get_or}
use Rattle.model.specs.Lists.{has}
use Rattle.model.specs.Bytes.{written_at_front}

-- pattern node q is in the mask of tree node v
abbrev pub in_mask : List ℕ → ℕ → ℕ → Bool
in_mask table q v = has (get_or table v 0) q

-- the list l stands at the front, the rest untouched, and r is its length
abbrev pub Written : List ℕ → List ℕ → List ℕ → ℕ → Type 0
Written l before after r = (r ≡ length l) × (after ≡ written_at_front l before)
