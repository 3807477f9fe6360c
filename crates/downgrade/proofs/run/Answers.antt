-- What is told of the case is what is written. Assumes nothing.
use Rattle.std.proofs.Common.{rules}
use Rattle.model.specs.Text.{downgrade_told}
use Rattle.streams.proofs.ReadLaws.{filed-inside}
use Rattle.downgrade.proofs.run.Goals as goal

pub file-requires-clause-inside : goal.file-requires-clause-inside
file-requires-clause-inside g c = λ case out out' r h. search (rules, filed-inside)

pub returns-clause-told : goal.returns-clause-told
returns-clause-told g c = c.file.ensures.told downgrade_told (λ case out out' r h. search rules)
