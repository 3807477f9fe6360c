-- `striking::shorten::lowered` meets its contract: the definition has the same two cases. Assumes nothing.
use Rattle.striking.proofs.NumberLaws.{lowered-above, lowered-below}
use Rattle.striking.proofs.shorten.lowered.Goals as goal

pub returns-then-q-i : goal.returns-then-q-i
returns-then-q-i c = lowered-above _ _ c.if-q-i.true

pub returns-else-q-i : goal.returns-else-q-i
returns-else-q-i c = lowered-below _ _ c.if-q-i.false
