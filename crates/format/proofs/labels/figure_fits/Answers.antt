-- `format::labels::figure_fits` meets its contract: the comparison is the definition's. Assumes nothing.
use mathlib.Core.Path.{refl}
use Rattle.model.specs.Pattern.{figure_fits}
use Rattle.format.proofs.labels.figure_fits.Goals as goal

pub returns : goal.returns
unfolding figure_fits
returns c = refl
