-- `canonical::chains::chains` meets its contract. The loop's invariant: the pattern's first q nodes are laid out, and those left lead
-- to the whole layout. Assumes nothing.
use native.Mathlib.Omega.{arith}
use Rattle.canonical.proofs.DraftLaws.{drafted-roomy}
use Rattle.canonical.proofs.TableLaws.{still}
use Rattle.canonical.proofs.ChainPhaseLaws.{laying-start, laying-end, laying-next, read_next, next-hanging}
use Rattle.canonical.proofs.chains.chains.Goals as goal

pub append_chain-requires-clause-summary_kept : goal.append_chain-requires-clause-summary_kept
append_chain-requires-clause-summary_kept c =
    let laid = c.loop-q.invariant.going.laying _ (laying-start _ _ _ c.requires.by_index.1) in
    (c.requires.embedded.summary, drafted-roomy laid.drafted)

pub append_chain-requires-clause-hanging : goal.append_chain-requires-clause-hanging
append_chain-requires-clause-hanging c =
    let going = c.loop-q.invariant.going in
    let laid = going.laying _ (laying-start _ _ _ c.requires.by_index.1) in
    let e = c.requires.embedded in
    next-hanging e laid going.positive (omega arith)
    (read_next e laid going.positive (omega arith) _ _ _ _ c.parent-p.ensures c.image_of.ensures c.image_of-in-loop-q.ensures c.own_of.ensures)

pub overflow_sub-own : goal.overflow_sub-own
overflow_sub-own c =
    let laid = c.loop-q.invariant.going.laying _ (laying-start _ _ _ c.requires.by_index.1) in
    omega (arith, c.append_chain.ensures.hung.counted, laid.drafted.some)

pub overflow_cast-own : goal.overflow_cast-own
overflow_cast-own c =
    let going = c.loop-q.invariant.going in
    let laid = going.laying _ (laying-start _ _ _ c.requires.by_index.1) in
    let e = c.requires.embedded in
    let h = next-hanging e laid going.positive (omega arith)
    (read_next e laid going.positive (omega arith) _ _ _ _ c.parent-p.ensures c.image_of.ensures c.image_of-in-loop-q.ensures c.own_of.ensures) in
    omega (arith, c.append_chain.ensures.hung.counted, h.room)

pub loop-q-preserved : goal.loop-q-preserved
loop-q-preserved c =
    let i = c.loop-q.invariant in
    let e = c.requires.embedded in
    record {
      same_tables = still i.same_tables c.append_chain.ensures.same_tables;
      going = record {
        positive = omega arith;
        turns = omega arith;
        laying = λ base l. rw c.count.ensures (
            laying-next e (i.going.laying base l) i.going.positive (omega arith)
            (read_next e (i.going.laying base l) i.going.positive (omega arith) _ _ _ _ c.parent-p.ensures c.image_of.ensures c.image_of-in-loop-q.ensures c.own_of.ensures) c.append_chain.ensures.hung);
      };
    }

pub returns-clause-nodes : goal.returns-clause-nodes
returns-clause-nodes c = λ base d. (laying-end (c.loop-q.invariant.going.laying base (laying-start _ _ _ d)) (omega arith)).0

pub returns-clause-own : goal.returns-clause-own
returns-clause-own c = (laying-end (c.loop-q.invariant.going.laying _ (laying-start _ _ _ c.requires.by_index.1)) (omega arith)).1
