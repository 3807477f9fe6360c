-- `judging::member::Member::root` meets its contract: what hangs from the root is met there, and bit 0 is the member's root. Assumes
-- nothing.
use Rattle.judging.specs.Judging.{root_by}
use Rattle.judging.proofs.member.Member.root.Goals as goal

pub returns : goal.returns
unfolding root_by
returns c = rw (c.has.ensures, c.met.ensures, c.closed.ensures)
