-- A space, then the digits. Assumes nothing.
use Rattle.text.proofs.PutLaws.{room-first, room-rest, put_then}
use Rattle.text.proofs.LineLaws.{number-parts}
use Rattle.text.proofs.page.Page.number.Goals as goal

pub put-requires : goal.put-requires
put-requires c = room-first (number-parts _) c.requires

pub digits-requires : goal.digits-requires
digits-requires c = room-rest (number-parts _) c.requires c.put.ensures

pub returns : goal.returns
returns c = put_then (number-parts _) c.requires c.put.ensures c.digits.ensures
