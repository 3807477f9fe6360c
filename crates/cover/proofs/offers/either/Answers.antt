-- `cover::offers::either` meets its contract: each mask is made by the operation. Assumes nothing.
use Rattle.std.proofs.Common.{rules}
use Rattle.std.specs.Int.Bits.{bit_or}
use Rattle.cover.proofs.CoverLaws.{made-all}
use Rattle.cover.proofs.offers.either.Goals as goal

pub returns : goal.returns
returns c = made-all bit_or c.args.a.now c.args.b.now (search rules) (λ i h. search (rules, c.each.ensures i h))
