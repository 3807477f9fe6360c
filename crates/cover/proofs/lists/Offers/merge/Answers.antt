-- `cover::lists::Offers::merge` meets its contract: what takes the place of the nearest set is inside that set, inside a, and inside each set
-- that is dropped. Assumes nothing.
use Rattle.std.proofs.Common.{arith, ◌<◌, length, sym, ap, subst}
use lib.Seq.{length-take-le}
use Rattle.cover.specs.Cover.{Within, Covers}
use Rattle.cover.proofs.CoverLaws.{common-within, merged, front-at}
use Rattle.cover.proofs.lists.Offers.merge.Goals as goal

pub returns : goal.returns
returns c n f u =
    let s = c.self.inside in
    let k = c.nearest-k.result in
    let l = length-take-le s.count s.sets (omega (arith, c.self.invariant, c.self.told)) in
    let h : k < s.count = omega (arith, c.nearest-k.ensures, ap length c.self.view_is, l) in
    let w = common-within c.common-b.ensures in
    subst (λ l. Covers n l f) (sym c.push.ensures)
    (merged c.nearest-k.ensures (subst (Within c.common-b.result) (sym (front-at s.sets c.self.view_is h)) w.0, w.1)
    (λ m g v. c.drop_over.ensures.kept m g (subst (λ l. Covers m l g) (sym c.swap_remove.ensures) v)) n f u)
