-- `questions::positions::Held::by` meets its contract. The loop's invariant: the masks are those of the first q nodes. Assumes nothing.
use native.Mathlib.Omega.{arith}
use Rattle.questions.proofs.PositionLaws.{seen_none, seen_more, seen_all}
use Rattle.questions.proofs.positions.Held.by.Goals as goal

pub loop-q-init : goal.loop-q-init
loop-q-init c = seen_none _

pub with-seen-requires : goal.with-seen-requires
with-seen-requires c = let f = c.loop-q.invariant.few in omega arith

pub loop-q-preserved : goal.loop-q-preserved
loop-q-preserved c = seen_more _ _ _ _ _ c.loop-q.invariant (omega arith) c.position.ensures.0 c.with-seen.ensures

pub invariant_of-result : goal.invariant_of-result
invariant_of-result c = (seen_all _ _ _ c.loop-q.invariant (omega arith), (let f = c.loop-q.invariant.few in omega arith))
