-- `questions::members::figures_kept` meets its contract: the first pattern and each member. Assumes nothing.
use Rattle.std.proofs.Common.{rules, arith}
use Rattle.std.proofs.lemmas.Grind.{common_steps}
use Rattle.model.specs.Questions.{pattern_figures, figures_kept}
use Rattle.format.proofs.ChainLaws.{all_listed}
use Rattle.questions.proofs.members.figures_kept.Goals as goal

pub returns-then-figures_in_range : goal.returns-then-figures_in_range
unfolding figures_kept
returns-then-figures_in_range c =
    let e = all_listed pattern_figures _ (λ x t q k. search rules) c.all.ensures.ran in grind (arith, common_steps)

pub returns-else-figures_in_range : goal.returns-else-figures_in_range
unfolding figures_kept
returns-else-figures_in_range c = grind (arith, common_steps)
