-- `laying::laid::blank_nodes` meets its contract: it repeats the blank record. Assumes nothing.
use borrow.Author.Rules.{rules}
use Rattle.laying.specs.Records.{blank_nodes}
use Rattle.laying.proofs.laid.blank_nodes.Goals as goal

pub returns : goal.returns
unfolding blank_nodes
returns c = search rules
