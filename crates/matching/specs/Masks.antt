-- Sets of pattern nodes as masks.
use Rattle.std.specs.Prelude.{ℕ, List, map, length}
use Rattle.model.specs.Lists.{up_from, mask_below}
use Rattle.model.specs.Pattern.{Pattern}
use Rattle.model.specs.Quick.{hangs_from}

-- the children of each of 16 nodes
unfoldable pub kid_masks : Pattern → List ℕ
kid_masks P = map (λ p. mask_below (hangs_from P p) (length P)) (up_from 0 16)
