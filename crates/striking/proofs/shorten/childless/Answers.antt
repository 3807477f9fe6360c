-- `striking::shorten::childless` meets its contract: each node's parent is looked at. Assumes nothing.
use Rattle.std.proofs.Common.{refl, rules, not, eqb}
use Rattle.model.specs.Pattern.{pattern_parent}
use Rattle.model.specs.Striking.{childless}
use Rattle.format.proofs.ChainLaws.{all_range}
use Rattle.striking.proofs.shorten.childless.Goals as goal

pub returns : goal.returns
unfolding childless
returns c = all_range (λ i. not (eqb (pattern_parent c.args.p.now i) c.args.q)) 0 _ _ _ refl (search rules) (λ x t q k. search rules) c.all.ensures.ran
