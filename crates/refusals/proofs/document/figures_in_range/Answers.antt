-- `refusals::document::figures_in_range` meets its contract: each record's figure is tested. Assumes nothing.
use Rattle.std.proofs.Common.{rules, refl, ℕ}
use Rattle.model.specs.Tree.{figure_of}
use Rattle.model.specs.Questions.{figure_in_range, document_figures}
use Rattle.format.proofs.ChainLaws.{all_range}
use Rattle.refusals.proofs.document.figures_in_range.Goals as goal

pub returns : goal.returns
unfolding document_figures
returns c = all_range (λ (i : ℕ). figure_in_range (figure_of c.args.w.now i)) 0 _ _ _ refl (search rules) (λ x t q k. search rules) c.all.ensures.ran
