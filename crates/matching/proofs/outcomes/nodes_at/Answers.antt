-- `matching::outcomes::nodes_at` meets its contract: the nodes at a position are those where the node that holds it stands, figures
-- asked. Assumes nothing.
use Rattle.matching.proofs.Answers.{nodes-read}
use Rattle.matching.proofs.TurnLaws.{zeros-at}
use Rattle.matching.proofs.outcomes.nodes_at.Goals as goal

pub stands-requires-clause-tree_lent : goal.stands-requires-clause-tree_lent
stands-requires-clause-tree_lent c = (c.requires.pattern_kept.2.tree, zeros-at 1024)

pub returns : goal.returns
returns c =
    nodes-read c.ask_figures.ensures c.args.w.now _ c.requires.pattern_kept.1 c.requires.pattern_kept.2.tree c.args.out.now c.new-wanted.ensures.1 c.requires.le_position.0
    c.requires.le_position.1 c.stands.ensures c.in-Some.ensures.0 c.count.ensures.0 c.nodes_with.ensures
