-- `questions::case::counts_in_range` meets its contract: the summary's count, the first pattern's and each member's. Assumes nothing.
use Rattle.std.proofs.Common.{rules, arith}
use Rattle.std.proofs.lemmas.Grind.{common_steps}
use Rattle.model.specs.Questions.{count_in_range, counts_in_range}
use Rattle.format.proofs.ChainLaws.{all_listed}
use Rattle.questions.proofs.case.counts_in_range.Goals as goal

pub returns-then-count_in_range : goal.returns-then-count_in_range
unfolding counts_in_range
returns-then-count_in_range c =
    let e = all_listed count_in_range _ (λ x t q k. search rules) c.all.ensures.ran in grind (arith, common_steps)

pub returns-else-count_in_range : goal.returns-else-count_in_range
unfolding counts_in_range
returns-else-count_in_range c = grind (arith, common_steps)
