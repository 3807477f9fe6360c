-- `questions::pattern::pattern_kept` meets its contract: each record is tested. Assumes nothing.
use Rattle.std.proofs.Common.{refl, rules}
use Rattle.model.specs.Questions.{pattern_kept, pattern_record_kept}
use Rattle.format.proofs.ChainLaws.{all_range}
use Rattle.questions.proofs.pattern.pattern_kept.Goals as goal

pub returns : goal.returns
unfolding pattern_kept
returns c = all_range (pattern_record_kept c.args.p.now) 0 _ _ _ refl (search rules) (λ x t q k. search rules) c.all.ensures.ran
