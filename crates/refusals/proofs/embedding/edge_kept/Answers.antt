-- `refusals::embedding::edge_kept` meets its contract: the edge says which of the two tests is the definition's. Assumes nothing.
use Rattle.std.proofs.Common.{arith}
use Rattle.std.proofs.lemmas.Grind.{common_steps}
use Rattle.model.specs.Embeddings.{edge_test}
use Rattle.refusals.proofs.embedding.edge_kept.Goals as goal

pub returns-then-edge-eq1 : goal.returns-then-edge-eq1
unfolding edge_test
returns-then-edge-eq1 c = grind (arith, common_steps)

pub returns : goal.returns
unfolding edge_test
returns c = grind (arith, common_steps)
