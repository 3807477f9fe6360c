-- `questions::members::positions_kept` meets its contract: the first pattern, and each member to the first one's k. Assumes nothing.
use Rattle.std.proofs.Common.{◌&&◌, eqb, rules, arith}
use Rattle.std.proofs.lemmas.Grind.{common_steps}
use Rattle.model.specs.Pattern.{Pattern, arity}
use Rattle.model.specs.Questions.{positions_once, positions_kept}
use Rattle.format.proofs.ChainLaws.{all_listed}
use Rattle.questions.proofs.members.positions_kept.Goals as goal

pub returns-then-each_once : goal.returns-then-each_once
unfolding positions_kept
returns-then-each_once c =
    let e = all_listed (λ (Q : Pattern). positions_once Q && eqb c.count-k.result (arity Q)) _ (λ x t q k. search rules) c.all.ensures.ran in grind (arith, common_steps)

pub returns-else-each_once : goal.returns-else-each_once
unfolding positions_kept
returns-else-each_once c = grind (arith, common_steps)
