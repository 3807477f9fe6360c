-- `format::field::field` meets its contract: the two bytes are the definition's. Assumes nothing.
use borrow.Author.Rules.{rules}
use Rattle.model.specs.Bytes.{field}
use Rattle.format.proofs.field.field.Goals as goal

pub returns : goal.returns
unfolding field
returns c = search rules
