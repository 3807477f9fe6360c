-- `refusals::embedding::Images::are_kept` meets its contract: each node is tested. Assumes nothing.
use Rattle.std.proofs.Common.{rules, refl}
use Rattle.model.specs.Bytes.{list_of}
use Rattle.refusals.specs.Images.{image_kept}
use Rattle.format.proofs.ChainLaws.{all_range}
use Rattle.refusals.proofs.embedding.Images.are_kept.Goals as goal

pub returns : goal.returns
returns c =
    all_range (image_kept c.args.self.now.summary c.args.self.now.pattern (list_of c.args.self.now.list.now)) 0 _ _ _ refl (search rules) (λ x t q k. search rules) c.all.ensures.ran
