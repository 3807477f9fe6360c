-- `alternatives::judges::Judges::matters` meets its contract: by the kind of the edge. Assumes nothing.
use Rattle.std.proofs.Common.{arith}
use Rattle.judging.specs.Blocks.{candidates_in}
use Rattle.alternatives.proofs.FillLaws.{matters-far, matters-near, judged-few, judged-parent}
use Rattle.alternatives.proofs.judges.Judges.matters.Goals as goal

pub part-requires : goal.part-requires
part-requires c = let l = judged-few c.args.self.now in omega (arith, c.requires.1)

pub returns-then-edge-eq1 : goal.returns-then-edge-eq1
returns-then-edge-eq1 c =
    let J = c.args.self.now in
    matters-far J.pattern.now (candidates_in J.masks.now) c.args.c.0 c.args.x.0 c.edge.ensures c.if-edge-eq1.true c.descendants.ensures c.part.ensures

pub part-requires-2 : goal.part-requires-2
part-requires-2 c =
    let J = c.args.self.now in
    let l = judged-few J in
    let p = judged-parent J c.requires.0 c.requires.1 c.parent.ensures in
    omega (arith, c.requires.1)

pub returns : goal.returns
returns c =
    let J = c.args.self.now in
    matters-near J.pattern.now (candidates_in J.masks.now) c.args.c.0 c.args.x.0 c.edge.ensures c.if-edge-eq1.false c.parent.ensures c.part-2.ensures c.has.ensures
