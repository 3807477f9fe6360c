-- The last digit follows the text of the rest, which below 10 is none. Assumes nothing.
use native.Mathlib.Omega.{arith}
use Rattle.text.proofs.PutLaws.{one-digit, more-digits, put-none, room-first, room-rest, put_then}
use Rattle.text.proofs.page.Page.+digits.Goals as goal
use Rattle.text.proofs.page.Page.+digits.Goals.{then-n-ge10, else-n-ge10}

pub digits-requires : goal.digits-requires
digits-requires t c = (omega arith, room-first (more-digits _ c.if-n-ge10.true) c.requires)

pub put-requires : goal.put-requires
put-requires t c = elim c.if-n-ge10.branch [
  | then-n-ge10 w ↦ rw (w.self-is, c.digit.ensures) (room-rest (more-digits _ w.if-n-ge10.true) c.requires w.digits.ensures)
  | else-n-ge10 w ↦ rw (w.self-is, c.digit.ensures) (room-rest (one-digit _ w.if-n-ge10.false) c.requires (put-none _))
]

pub returns : goal.returns
returns t c = elim c.if-n-ge10.branch [
  | then-n-ge10 w ↦ put_then (more-digits _ w.if-n-ge10.true) c.requires w.digits.ensures (rw (w.self-is, c.digit.ensures) at c.put.ensures)
  | else-n-ge10 w ↦ put_then (one-digit _ w.if-n-ge10.false) c.requires (put-none _) (rw (w.self-is, c.digit.ensures) at c.put.ensures)
]
