use Rattle.std.proofs.Common.{rules, arith}
use Rattle.std.proofs.lemmas.Grind.{common_steps}
use Rattle.model.specs.Questions.{pattern_record_kept}
use Rattle.questions.proofs.pattern.pattern_record_kept.Goals as goal

pub returns-then-flag_rule : goal.returns-then-flag_rule
unfolding pattern_record_kept
returns-then-flag_rule c = grind (arith, common_steps)

pub returns-else-flag_rule : goal.returns-else-flag_rule
unfolding pattern_record_kept
returns-else-flag_rule c = search rules
