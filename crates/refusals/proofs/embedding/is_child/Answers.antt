-- `refusals::embedding::is_child` meets its contract: the tests are the definition's, and the node is one of the summary's. Assumes nothing.
use Rattle.std.proofs.Common.{arith}
use Rattle.std.proofs.lemmas.Grind.{common_steps}
use Rattle.model.specs.Embeddings.{child_test}
use Rattle.refusals.proofs.EmbeddingLaws.{summary-inside}
use Rattle.refusals.proofs.embedding.is_child.Goals as goal

pub returns-then-v-ne0 : goal.returns-then-v-ne0
unfolding child_test
returns-then-v-ne0 c = let l = summary-inside c.args.s.now c.args.v.0 c.requires in grind (arith, common_steps)

pub returns-else-v-ne0 : goal.returns-else-v-ne0
unfolding child_test
returns-else-v-ne0 c = grind (arith, common_steps)
