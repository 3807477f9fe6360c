-- `questions::summary::summary_kept` meets its contract: each record is tested. Assumes nothing.
use Rattle.std.proofs.Common.{refl, rules}
use Rattle.model.specs.Questions.{summary_kept, summary_record_kept}
use Rattle.format.proofs.ChainLaws.{all_range}
use Rattle.questions.proofs.summary.summary_kept.Goals as goal

pub returns : goal.returns
unfolding summary_kept
returns c = all_range (summary_record_kept c.args.s.now) 0 _ _ _ refl (search rules) (λ x t q k. search rules) c.all.ensures.ran
