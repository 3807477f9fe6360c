-- `striking::accepted` meets its contract: the first pattern of an accepted case has what striking asks for, and what striking comes to is
-- written and answered. Assumes nothing.
use Rattle.format.proofs.GivenLaws.{given-summary}
use Rattle.striking.proofs.AcceptedLaws.{summary-kept, first-strikable, struck-told}
use Rattle.striking.proofs.accepted.Goals as goal

pub new-requires : goal.new-requires
new-requires c = (given-summary c.requires.0).whole

pub new-requires-2 : goal.new-requires-2
new-requires-2 c = rw c.new.ensures (summary-kept c.requires.0)

pub strike-r-requires : goal.strike-r-requires
strike-r-requires c = rw (c.new-rows.ensures, c.new-2.ensures, c.new.ensures, c.first-present.ensures) (first-strikable c.requires.0 c.requires.2)

pub returns : goal.returns
returns c =
    struck-told (rw (c.new-rows.ensures, c.new-2.ensures, c.new.ensures, c.first-present.ensures) at c.strike-r.ensures) c.as_slice-struck.ensures.slice c.write_order.ensures
