-- `refusals::embedding::Images::is_reached` meets its contract: the root's image is the root, and a parent's number is smaller, so its image is
-- in the list. Assumes nothing.
use Rattle.refusals.proofs.EmbeddingLaws.{reached-root, reached-other}
use Rattle.refusals.proofs.embedding.Images.is_reached.Goals as goal

pub returns-then-q-eq0 : goal.returns-then-q-eq0
returns-then-q-eq0 c = reached-root _ _ _ _ _ c.at-v.ensures c.if-q-eq0.true

pub returns : goal.returns
returns c = reached-other _ _ _ _ _ _ _ _ _ c.if-q-eq0.false c.parent-parent.ensures c.edge-edge.ensures c.at.ensures c.at-v.ensures c.edge_kept.ensures
