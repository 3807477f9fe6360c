-- `questions::members::patterns_kept` meets its contract: the first pattern and each member. Assumes nothing.
use Rattle.std.proofs.Common.{rules, arith}
use Rattle.std.proofs.lemmas.Grind.{common_steps}
use Rattle.model.specs.Questions.{pattern_kept, patterns_kept}
use Rattle.format.proofs.ChainLaws.{all_listed}
use Rattle.questions.proofs.members.patterns_kept.Goals as goal

pub returns-then-pattern_kept : goal.returns-then-pattern_kept
unfolding patterns_kept
returns-then-pattern_kept c =
    let e = all_listed pattern_kept _ (λ x t q k. search rules) c.all.ensures.ran in grind (arith, common_steps)

pub returns-else-pattern_kept : goal.returns-else-pattern_kept
unfolding patterns_kept
returns-else-pattern_kept c = grind (arith, common_steps)
