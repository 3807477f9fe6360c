-- `format::labels::label_fits` meets its contract: the two comparisons are the definition's. Assumes nothing.
use borrow.Author.Tests.{eq-eqb, ne_eqb}
use Rattle.model.specs.Pattern.{label_fits}
use Rattle.format.proofs.labels.label_fits.Goals as goal

pub returns-then-own-eq0 : goal.returns-then-own-eq0
unfolding label_fits
returns-then-own-eq0 c = simp (eq-eqb _ _ c.if-own-eq0.true)

pub returns-else-own-eq0 : goal.returns-else-own-eq0
unfolding label_fits
returns-else-own-eq0 c = simp (ne_eqb _ _ c.if-own-eq0.false)
