-- `normalising::row::place` meets its contract: the place is not before m. Assumes nothing.
use mathlib.Core.Path.{refl}
use Rattle.normalising.proofs.PlaceLaws.{placing-start, placing-step, placing-here, placing-end}
use Rattle.normalising.proofs.row.place.Goals as goal

pub loop-m-init : goal.loop-m-init
loop-m-init c = placing-start

pub returns-then-opens : goal.returns-then-opens
returns-then-opens c = placing-here c.loop-m.invariant c.loop-m-test.true c.opens.ensures c.if-opens.true

pub loop-m-preserved : goal.loop-m-preserved
loop-m-preserved c = placing-step c.loop-m.invariant c.loop-m-test.true c.opens.ensures c.if-opens.false

pub returns : goal.returns
returns c = placing-end c.loop-m.invariant refl c.loop-m-test.false
