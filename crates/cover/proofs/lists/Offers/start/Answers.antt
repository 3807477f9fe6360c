-- `cover::lists::Offers::start` meets its contract: one set is in use. Assumes nothing.
use Rattle.std.proofs.Common.{arith, ◌<◌, length}
use Rattle.cover.proofs.CoverLaws.{front-alone}
use Rattle.cover.proofs.lists.Offers.start.Goals as goal

pub returns : goal.returns
returns c = let s = c.self.inside in front-alone s.sets c.args.a (omega (arith, c.self.told))
