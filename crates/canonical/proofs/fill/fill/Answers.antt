-- `canonical::fill::fill` meets its contract. The loop's invariant: the nodes below v are visited, and the visits to come reach the
-- definition's end, where the draft is not too long. The measure is what is left of the most nodes. Assumes nothing.
use native.Mathlib.Omega.{arith}
use Rattle.canonical.proofs.TableLaws.{still}
use Rattle.canonical.proofs.FillLaws.{filling-visitable, filling-next, filling-end}
use Rattle.canonical.proofs.fill.fill.Goals as goal

pub fill_node-requires : goal.fill_node-requires
fill_node-requires c =
    let f = c.requires.3 in
    (_, _, filling-visitable f (c.loop-v.invariant.filling _ _ _ f) (omega arith))

pub loop-v-smaller : goal.loop-v-smaller
loop-v-smaller c =
    let f = c.requires.3 in
    omega (arith, (c.loop-v.invariant.filling _ _ _ f).drafted.fits)

pub loop-v-preserved : goal.loop-v-preserved
loop-v-preserved c =
    let i = c.loop-v.invariant in record {
      same_tables = still i.same_tables c.fill_node.ensures.same_tables;
      filling = λ spots base k f.
          let g = i.filling spots base k f in
          filling-next f g (omega arith) (c.fill_node.ensures.visited g.spots base g.drafted);
    }

pub returns-clause-filled : goal.returns-clause-filled
returns-clause-filled c = λ spots base k f. filling-end f (c.loop-v.invariant.filling spots base k f) (omega arith)
