-- `matching::outcomes::path_masks` meets its contract: a node's paths are where it stands. After q turns the first q masks stand. Assumes
-- nothing.
use mathlib.Core.Path.{refl, ◌∙◌}
use native.Mathlib.Omega.{arith}
use Rattle.model.proofs.Results.{path-mask-beyond}
use Rattle.matching.proofs.Answers.{path-read}
use Rattle.format.proofs.FrontLoops.{filled-start, filled-step, filled-end}
use Rattle.matching.proofs.ReadLoops.{filled-zeros}
use Rattle.matching.proofs.TurnLaws.{zeros-at}
use Rattle.matching.proofs.outcomes.path_masks.Goals as goal

pub stands-requires-clause-tree_lent : goal.stands-requires-clause-tree_lent
stands-requires-clause-tree_lent c = (c.requires.0.tree, zeros-at 64)

pub loop-q-init : goal.loop-q-init
loop-q-init c = filled-start refl

pub loop-q-preserved : goal.loop-q-preserved
loop-q-preserved c =
    filled-step c.loop-q.invariant (omega arith) c.requires.1.few
    (c.stand_mask.ensures ∙ path-read _ c.new-wanted.ensures.0 _ c.new-wanted.ensures.1 c.new-wanted.ensures.2 c.requires.0.tree c.stands.ensures c.count-n.ensures.0 (omega arith))

pub returns : goal.returns
returns c =
    filled-end c.loop-q.invariant (omega arith) ∙ filled-zeros _ _ 16 c.requires.1.few (λ i h l. path-mask-beyond _ _ i h)
