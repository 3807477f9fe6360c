-- `refusals::embedding::is_below` meets its contract. The loop's invariant: the climb has come to x, which is below a exactly when
-- v is. The measure is x, since a parent's number is smaller. Assumes nothing.
use Rattle.refusals.proofs.EmbeddingLaws.{climbing}
use Rattle.refusals.proofs.embedding.is_below.Goals as goal

pub loop-x-init : goal.loop-x-init
loop-x-init c = search climbing

pub parent-x-requires : goal.parent-x-requires
parent-x-requires c = search climbing

pub returns-then-x-a : goal.returns-then-x-a
returns-then-x-a c = search climbing

pub loop-x-smaller : goal.loop-x-smaller
loop-x-smaller c = search climbing

pub loop-x-preserved : goal.loop-x-preserved
loop-x-preserved c = search climbing

pub returns : goal.returns
returns c = search climbing
