-- `canonical::figures::figures` meets its contract: before turn q the figures of the first q pattern nodes are in. Assumes nothing.
use native.Mathlib.Omega.{arith}
use Rattle.canonical.proofs.FigureLaws.{figuring-start, figuring-step, figuring-end, figuring-room}
use Rattle.canonical.proofs.figures.figures.Goals as goal

pub loop-q-init : goal.loop-q-init
loop-q-init c = figuring-start

pub put_field-requires : goal.put_field-requires
put_field-requires c = figuring-room c.loop-q.invariant c.requires.3 (omega arith) c.own_of-v.ensures

pub loop-q-preserved : goal.loop-q-preserved
loop-q-preserved c = figuring-step c.loop-q.invariant (omega arith) c.own_of-v.ensures c.figure.ensures.0 c.put_field.ensures

pub returns : goal.returns
returns c = figuring-end c.loop-q.invariant (omega arith)
