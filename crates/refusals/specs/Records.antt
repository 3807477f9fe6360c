-- What question 10 asks of a document's records, where its bytes are whole.
use Rattle.std.specs.Prelude.{Bool, ◌&&◌, length}
use Rattle.model.specs.Limits.{max_document}
use Rattle.model.specs.Lists.{up_from, all_of}
use Rattle.model.specs.Tree.{Document}
use Rattle.model.specs.Questions.{between, document_record_kept}

-- there are 1 to 1,024, and each keeps the rules
abbrev pub records_kept : Document → Bool
records_kept W = between 1 max_document (length W) && all_of (document_record_kept W) (up_from 0 (length W))
