-- `normalising::row::put_in` meets its contract: places from i on are as they are to be. Assumes nothing.
use Rattle.normalising.proofs.PlaceLaws.{putting-start, putting-step}
use Rattle.normalising.proofs.row.put_in.Goals as goal

pub loop-i-init : goal.loop-i-init
loop-i-init c = putting-start _ _ c.requires.0 c.requires.1

pub loop-i-preserved : goal.loop-i-preserved
loop-i-preserved c = putting-step _ _ c.requires.0 c.requires.1 c.loop-i.invariant c.loop-i-test.true c.entry_after.ensures.own c.entry_after.ensures.behind
