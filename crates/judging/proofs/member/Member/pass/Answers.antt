-- `judging::member::Member::pass` meets its contract: the entries are the definition's, and indices of one another. Assumes nothing.
use Rattle.judging.specs.Judging.{pass_by}
use Rattle.judging.proofs.member.Member.pass.Goals as goal

pub returns : goal.returns
unfolding pass_by
returns c = cc (c.hang.ensures, c.image_of.ensures, c.image_of-a.ensures, c.parent.ensures)
