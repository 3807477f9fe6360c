-- `questions::summary::siblings_differ` meets its contract: each node is tested against those before it. Assumes nothing.
use Rattle.std.proofs.Common.{ℕ, not, refl, rules}
use Rattle.model.specs.Lists.{up_from, all_of}
use Rattle.model.specs.Questions.{alike, siblings_differ}
use Rattle.format.proofs.ChainLaws.{all_range}
use Rattle.questions.proofs.summary.siblings_differ.Goals as goal

pub returns : goal.returns
unfolding siblings_differ
returns c =
    all_range (λ (j : ℕ). all_of (λ i. not (alike c.args.s.now i j)) (up_from 0 j)) 0 _ _ _ refl (search rules) (λ x t q k. search rules) c.all.ensures.ran
