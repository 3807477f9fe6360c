-- `format::document::Document::parent` meets its contract: the field read is the record's first. Assumes nothing.
use mathlib.Core.Path.{◌∙◌}
use native.Mathlib.Omega.{arith}
use Rattle.model.specs.Limits.{document_width}
use Rattle.model.specs.Tree.{DocumentRecord, no_document_record}
use Rattle.model.specs.Bytes.{document_record_at}
use Rattle.format.proofs.SectionLaws.{viewed-below, viewed-field, first_field, document-section}
use Rattle.format.proofs.document.Document.parent.Goals as goal

pub record_field-requires : goal.record_field-requires
record_field-requires c =
    record { whole_section = c.self.invariant; i_bound = (viewed-below document_record_at document_width _ _ (document-section _ c.self.view_is) _ c.requires, omega arith, omega arith) }

pub returns : goal.returns
returns c = c.record_field.ensures.0 ∙ viewed-field document_record_at document_width _ _ (document-section _ c.self.view_is) no_document_record (λ (r : DocumentRecord). r.parent) _ 0 (first_field _) c.requires
