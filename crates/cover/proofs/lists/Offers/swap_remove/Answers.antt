-- `cover::lists::Offers::swap_remove` meets its contract: it is so of the rows in use. Assumes nothing.
use Rattle.std.proofs.Common.{arith, ◌≤◌, ◌<◌, length, ap, ◌∙◌}
use lib.Seq.{length-take-le}
use Rattle.cover.specs.Cover.{without_set}
use Rattle.cover.proofs.CoverLaws.{without_front}
use Rattle.cover.proofs.lists.Offers.swap_remove.Goals as goal

pub returns : goal.returns
returns c =
    let s = c.self.inside in
    let h : s.count ≤ length s.sets = omega (arith, c.self.invariant, c.self.told) in
    let k : c.args.k < s.count = omega (arith, c.requires, ap length c.self.view_is, length-take-le s.count s.sets h) in
    without_front s.sets h k ∙ ap (λ l. without_set l c.args.k) c.self.view_is
