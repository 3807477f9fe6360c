-- `refusals::embedding::Images::at` meets its contract: there is an image for each node. Assumes nothing.
use Rattle.refusals.proofs.EmbeddingLaws.{image_inside}
use Rattle.refusals.proofs.embedding.Images.at.Goals as goal

pub image_at-requires : goal.image_at-requires
image_at-requires c = image_inside _ _ _ c.args.self.now.given _ c.requires
