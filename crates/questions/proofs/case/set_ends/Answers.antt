-- `questions::case::set_ends` meets its contract. The loop's invariant: the field is that of the present member. Where it lies at or past
-- the end of the bytes, the set ends further on. Assumes nothing.
use Rattle.questions.proofs.MemberLaws.{walked}
use Rattle.questions.proofs.case.set_ends.Goals as goal

pub loop-init : goal.loop-init
loop-init c = search walked

pub returns-then-fields-at : goal.returns-then-fields-at
returns-then-fields-at c = search walked

pub loop-preserved : goal.loop-preserved
loop-preserved c = search walked

pub returns : goal.returns
returns c = search walked
