-- `striking::write_order` meets its contract: the section ends where the lent part begins, so what the two write stands one after the
-- other. Assumes nothing.
use Rattle.std.proofs.Math.Seq.{take-length}
use Rattle.format.proofs.FrontLaws.{front-part}
use Rattle.striking.proofs.write_order.Goals as goal

pub returns : goal.returns
returns c =
    front-part _ _ _ c.write-end.ensures.end.0 c.write-end.ensures.front (rw (take-length c.args.struck.now) at c.write_counted.ensures.buffer)
