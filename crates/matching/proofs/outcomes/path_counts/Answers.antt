-- `matching::outcomes::path_counts` meets its contract: each mask is counted. Assumes nothing.
use Prim.Native.Nat.{ℕ}
use mathlib.Core.Path.{sym, ◌∙◌}
use mathlib.Core.List.{map}
use native.Mathlib.Omega.{arith}
use lib.Count.{ones}
use lib.ListN.{get_or}
use lib.Seq.{ext_get_or}
use Rattle.std.proofs.Common.{rules}
use Rattle.model.specs.Lists.{up_from}
use Rattle.model.proofs.ListLaws.{length-map-up_from}
use Rattle.format.proofs.RangeLaws.{get_or-map-below}
use Rattle.matching.proofs.outcomes.path_counts.Goals as goal

pub returns : goal.returns
returns c =
    let f = (λ (q : ℕ). ones (get_or c.args.masks.now q 0)) in
    ext_get_or 0 _ (map f (up_from 0 16)) (c.map.ensures.items.long ∙ sym (length-map-up_from f 0 16))
    (λ q h. (let e = c.map.ensures.items.at q 0 0 (omega (arith, c.map.ensures.items.long)) in search rules) ∙ sym (get_or-map-below f 16 q 0 (omega (arith, c.map.ensures.items.long))))
