-- `matching::tables::settle` meets its contract: the table is stored to as the definition says. Assumes nothing.
use mathlib.Core.Path.{refl}
use Rattle.matching.proofs.TurnLaws.{settle-stored}
use Rattle.matching.proofs.tables.settle.Goals as goal

pub returns : goal.returns
returns g c = settle-stored _ c.args.wanted.now c.args.v c.args.table.now c.offer_up.ensures c.fitting-fit.ensures c.label.ensures c.figure.ensures refl
