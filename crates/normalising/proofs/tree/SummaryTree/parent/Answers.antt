-- A summary read as a pattern has the same parents. Assumes nothing.
use mathlib.Core.Path.{sym, ap, ◌∙◌}
use lib.ListN
use Rattle.model.specs.Tree.{DocumentRecord}
use Rattle.model.specs.Summary.{no_summary_record, without_strong}
use Rattle.model.specs.Pattern.{PatternRecord}
use Rattle.model.specs.Normal.{read_as}
use Rattle.normalising.proofs.tree.SummaryTree.parent.Goals as goal

pub returns : goal.returns
returns c =
    c.parent.ensures ∙ ap (λ (r : DocumentRecord). r.parent) (ListN.get_or-map without_strong c.args.self.now c.args.i no_summary_record)
    ∙ sym (ap (λ (r : PatternRecord). r.parent) (ListN.get_or-map read_as c.args.self.now c.args.i no_summary_record))
