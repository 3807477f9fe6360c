-- `format::document::Document::count` meets its contract: the field read is the count. Assumes nothing.
use mathlib.Core.Path.{◌∙◌}
use Rattle.model.specs.Limits.{document_width}
use Rattle.model.specs.Bytes.{document_record_at}
use Rattle.format.proofs.SectionLaws.{viewed-count, document-section}
use Rattle.format.proofs.document.Document.count.Goals as goal

pub returns : goal.returns
returns c = (c.field.ensures.0 ∙ viewed-count document_record_at document_width _ _ (document-section _ c.self.view_is), c.field.ensures.1)
