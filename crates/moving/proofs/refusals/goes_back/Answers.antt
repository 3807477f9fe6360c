-- `moving::refusals::goes_back` meets its contract: the set's count, the first pattern and each member are tested. Assumes nothing.
use Rattle.std.proofs.Common.{rules, arith}
use Rattle.std.proofs.lemmas.Grind.{common_steps}
use Rattle.model.specs.Moving.{figureless, goes_back}
use Rattle.format.proofs.ChainLaws.{all_listed}
use Rattle.moving.proofs.refusals.goes_back.Goals as goal

pub returns-then-figureless : goal.returns-then-figureless
unfolding goes_back
returns-then-figureless c = let e = all_listed figureless _ (λ x t q k. search rules) c.all.ensures.ran in grind (arith, common_steps)

pub returns-else-figureless : goal.returns-else-figureless
unfolding goes_back
returns-else-figureless c = grind (arith, common_steps)
