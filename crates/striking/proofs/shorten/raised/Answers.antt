-- `striking::shorten::raised` meets its contract: the definition has the same two cases. Assumes nothing.
use Rattle.striking.proofs.NumberLaws.{raised_below, raised-above}
use Rattle.striking.proofs.shorten.raised.Goals as goal

pub returns-then-i-q : goal.returns-then-i-q
returns-then-i-q c = raised_below _ _ c.if-i-q.true

pub returns-else-i-q : goal.returns-else-i-q
returns-else-i-q c = raised-above _ _ c.if-i-q.false
