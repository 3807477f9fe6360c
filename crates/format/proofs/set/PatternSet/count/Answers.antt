-- `format::set::PatternSet::count` meets its contract: the field read is the count. Assumes nothing.
use mathlib.Core.Path.{sym, ap, ◌∙◌}
use lib.ListN.{length}
use native.Mathlib.Omega.{arith}
use Rattle.model.specs.Pattern.{Pattern}
use mathlib.Core.List.{List}
use Rattle.format.proofs.SectionLaws.{set-count}
use Rattle.format.proofs.set.PatternSet.count.Goals as goal

pub field-requires : goal.field-requires
field-requires c = omega (arith, c.self.invariant.count)

pub returns : goal.returns
returns c = (c.field.ensures.0 ∙ sym (set-count _ _) ∙ ap (λ (l : List Pattern). length l) c.self.view_is, c.field.ensures.1)
