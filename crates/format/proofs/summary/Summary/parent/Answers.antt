-- `format::summary::Summary::parent` meets its contract: the field read is the record's first. Assumes nothing.
use mathlib.Core.Path.{sym, ap, ◌∙◌}
use native.Mathlib.Omega.{arith}
use Rattle.model.specs.Limits.{summary_width}
use Rattle.model.specs.Summary.{SummaryRecord, no_summary_record}
use Rattle.model.specs.Summary.{without_strong}
use Rattle.model.specs.Tree.{DocumentRecord}
use lib.ListN.{get_or-map}
use Rattle.model.specs.Bytes.{summary_record_at}
use Rattle.format.proofs.SectionLaws.{viewed-below, viewed-field, first_field, summary-section}
use Rattle.format.proofs.summary.Summary.parent.Goals as goal

pub record_field-requires : goal.record_field-requires
record_field-requires c =
    record { whole_section = c.self.invariant; i_bound = (viewed-below summary_record_at summary_width _ _ (summary-section _ c.self.view_is) _ c.requires, omega arith, omega arith) }

pub returns : goal.returns
returns c = c.record_field.ensures.0 ∙ viewed-field summary_record_at summary_width _ _ (summary-section _ c.self.view_is) no_summary_record (λ (r : SummaryRecord). r.parent) _ 0 (first_field _) c.requires ∙ sym (ap (λ (r : DocumentRecord). r.parent) (get_or-map without_strong c.args.self.now c.args.s.0 no_summary_record))
