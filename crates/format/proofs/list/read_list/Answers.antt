-- `format::list::read_list` meets its contract: before turn i the fields before i are read. The measure is how many are left. Assumes
-- nothing.
use mathlib.Core.Path.{refl}
use native.Mathlib.Omega.{arith}
use Rattle.model.specs.Bytes.{list_of}
use Rattle.format.proofs.FrontLoops.{filled-start, filled-step, filled-end}
use Rattle.format.proofs.list.read_list.Goals as goal

pub loop-i-init : goal.loop-i-init
loop-i-init c = filled-start refl

pub loop-i-preserved : goal.loop-i-preserved
loop-i-preserved c =
    filled-step c.loop-i.invariant c.loop-i-test.true c.requires c.field.ensures.0

pub shape_of-out : goal.shape_of-out
shape_of-out c = c.loop-i.invariant.long

pub returns : goal.returns
unfolding list_of
returns c = record { count = refl; table = filled-end c.loop-i.invariant (omega arith) }
