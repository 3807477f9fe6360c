-- The lent tables stay the same from one step to the next. Assumes nothing.
use mathlib.Core.Path.{◌∙◌}
use Rattle.canonical.specs.declared.draft.Draft.{Draft}
use Rattle.canonical.specs.Draft.{SameTables}

pub still : {d e f : Draft} → SameTables d e → SameTables e f → SameTables d f
still a b = record { bytes = b.bytes ∙ a.bytes; on = b.on ∙ a.on }
