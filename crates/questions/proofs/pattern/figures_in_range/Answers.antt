-- `questions::pattern::figures_in_range` meets its contract: each record's figure is tested. Assumes nothing.
use Rattle.std.proofs.Common.{ℕ, refl, rules}
use Rattle.model.specs.Pattern.{pattern_figure}
use Rattle.model.specs.Questions.{figure_in_range, pattern_figures}
use Rattle.format.proofs.ChainLaws.{all_range}
use Rattle.questions.proofs.pattern.figures_in_range.Goals as goal

pub returns : goal.returns
unfolding pattern_figures
returns c = all_range (λ (q : ℕ). figure_in_range (pattern_figure c.args.p.now q)) 0 _ _ _ refl (search rules) (λ x t q k. search rules) c.all.ensures.ran
