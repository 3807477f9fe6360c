-- `format::write::copy_fields` meets its contract: before turn i the first i fields are copied. Assumes nothing.
use Rattle.format.proofs.WriteLaws.{copying-start, copying-step, copying-end}
use Rattle.format.proofs.write.copy_fields.Goals as goal

pub loop-i-init : goal.loop-i-init
loop-i-init c = copying-start

pub loop-i-preserved : goal.loop-i-preserved
loop-i-preserved c =
    copying-step c.loop-i.invariant c.loop-i-test.true c.field.ensures.0 c.put_field.ensures

pub shape_of-out : goal.shape_of-out
shape_of-out c = c.loop-i.invariant.size

pub returns : goal.returns
returns c = copying-end c.loop-i.invariant c.loop-i-test.false
