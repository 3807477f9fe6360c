-- The text of the case is what is written. Assumes nothing.
use Rattle.std.proofs.Common.{rules}
use Rattle.model.specs.Text.{order_printed}
use Rattle.minimise.proofs.run.Goals as goal

pub print-requires-clause-inside : goal.print-requires-clause-inside
print-requires-clause-inside g c = λ case out out' n h. search rules

pub returns-clause-told : goal.returns-clause-told
returns-clause-told g c = c.print.ensures.told order_printed (λ case out out' n h. search rules)
