-- `alternatives::fill::Lookup::below_part` meets its contract: it is added, or the node has no path there, or its edge does not reach so far. Assumes nothing.
use Rattle.std.proofs.Common.{arith, ap₂, sym, ◌∙◌}
use lib.Bits.{bit_and}
use Rattle.alternatives.proofs.FillLaws.{below-covered, below_none, judged-few}
use Rattle.alternatives.proofs.fill.Lookup.below_part.Goals as goal

pub returns-then-descendants-part-ne0-clause-covered : goal.returns-then-descendants-part-ne0-clause-covered
returns-then-descendants-part-ne0-clause-covered c =
    let l = judged-few c.args.self.now.by.now in
    below-covered c.requires.table c.args.c.0 c.args.y.0 c.requires.some c.requires.inside (omega (arith, c.requires.inside)) c.requires.narrow c.add_below.ensures.raised

pub returns-else-descendants-part-ne0-clause-covered : goal.returns-else-descendants-part-ne0-clause-covered
returns-else-descendants-part-ne0-clause-covered c = below_none c.args.c.0 c.args.y.0 c.requires.some c.requires.inside
    (ap₂ bit_and (sym c.descendants.ensures) (sym c.part.ensures) ∙ c.if-descendants-part-ne0.false)
