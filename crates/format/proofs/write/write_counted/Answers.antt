-- `format::write::write_counted` meets its contract: after i turns the count and i numbers stand at the front. The measure is what
-- is left of k. Assumes nothing.
use mathlib.Core.Path.{◌∙◌}
use mathlib.Core.List.{[], ◌∷◌}
use borrow.Author.Rules.{rules}
use Rattle.format.proofs.WriteLaws.{Written, count-written, counted_start, counted_step, counted-end}
use Rattle.format.proofs.write.write_counted.Goals as goal

pub loop-i-init : goal.loop-i-init
loop-i-init c =
    let counted : Written (c.args.k ∷ []) c.args.part.now c.put_field.new.out 1 =
    count-written _ _ (search rules) c.put_field.ensures in
    counted_start counted

pub loop-i-preserved : goal.loop-i-preserved
loop-i-preserved c =
    counted_step c.loop-i.invariant c.loop-i-test.true (search rules) (search rules) c.put_field-in-loop-i.ensures

pub shape_of-part : goal.shape_of-part
shape_of-part c =
    let counted : Written (c.args.k ∷ []) c.args.part.now c.put_field.new.out 1 =
    count-written _ _ (search rules) c.put_field.ensures in
    c.loop-i.invariant.written.size ∙ counted.size

pub returns : goal.returns
returns c =
    let counted : Written (c.args.k ∷ []) c.args.part.now c.put_field.new.out 1 =
    count-written _ _ (search rules) c.put_field.ensures in
    let both = counted-end counted c.loop-i.invariant c.loop-i-test.false (search rules) in record { end = both.0; buffer = both.1 }
