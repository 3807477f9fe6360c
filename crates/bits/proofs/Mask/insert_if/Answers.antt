-- `bits::Mask::insert_if` meets its contract: each branch is the definition's case. Assumes nothing.
use Rattle.bits.specs.Sets.{insert_if}
use Rattle.bits.proofs.Mask.insert_if.Goals as goal

pub returns-then-t : goal.returns-then-t
unfolding insert_if
returns-then-t g c = rw (c.if-t.true, insert_if) c.insert.ensures

pub returns-else-t : goal.returns-else-t
unfolding insert_if
returns-else-t g c = rw (c.if-t.false, insert_if)
