-- `questions::summary::differs_before` meets its contract: the nodes from its parent on are tested, and those before its parent are no
-- siblings of it. Assumes nothing.
use Rattle.std.proofs.Common.{ℕ, not, refl, rules}
use Rattle.model.specs.Questions.{alike}
use Rattle.format.proofs.ChainLaws.{all_range}
use Rattle.questions.proofs.SummaryLaws.{from_parent}
use Rattle.questions.proofs.summary.differs_before.Goals as goal

pub returns : goal.returns
returns c =
    from_parent c.args.s.now c.requires.kept c.args.j.0 _ _ c.requires.j_in_bounds c.parent.ensures
    (all_range (λ (i : ℕ). not (alike c.args.s.now i c.args.j.0)) _ _ _ _ refl refl (λ x t q k. search rules) c.all.ensures.ran)
