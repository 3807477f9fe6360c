-- `Tree::figure` of a summary meets its contract: a summary read as a document has no figures. Assumes nothing.
use mathlib.Core.Path.{sym, ap}
use lib.ListN.{get_or-map}
use Rattle.model.specs.Tree.{DocumentRecord}
use Rattle.model.specs.Summary.{no_summary_record, without_strong}
use Rattle.matching.proofs.tree.SummaryTree.figure.Goals as goal

pub returns : goal.returns
returns c = ap (λ (r : DocumentRecord). r.figure) (sym (get_or-map without_strong c.args.self.now c.args._v no_summary_record))
