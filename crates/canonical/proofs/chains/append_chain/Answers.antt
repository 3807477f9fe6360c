-- `canonical::chains::append_chain` meets its contract. The loop's invariant: the chain's nodes that were yielded are appended. Assumes
-- nothing.
use mathlib.Core.Path.{refl, ap, ◌∙◌}
use Rattle.bits.specs.Members.{members_left}
use Rattle.canonical.proofs.TableLaws.{still}
use Rattle.canonical.proofs.ChainLaws.{chaining-start, chaining-inside, chaining-room, chaining-next, chaining-end}
use Rattle.canonical.proofs.chains.append_chain.Goals as goal

pub loop-x-init : goal.loop-x-init
loop-x-init c =
    record { same_tables = record { bytes = refl; on = refl }; chaining = chaining-start c.requires.summary_kept.0.tree c.requires.hanging (ap members_left c.into_iter-x-iterator.ensures.into_iter_gives ∙ c.climb.ensures) }

pub append-requires-clause-v_lt_count : goal.append-requires-clause-v_lt_count
append-requires-clause-v_lt_count c =
    let g = c.loop-x.invariant.chaining in
    (g.hangs, chaining-inside g c.in-Some.ensures.steps, chaining-room g c.in-Some.ensures.steps)

pub loop-x-preserved : goal.loop-x-preserved
loop-x-preserved c =
    let i = c.loop-x.invariant in record {
      same_tables = still i.same_tables c.append.ensures.same_tables;
      chaining = rw c.count.ensures (chaining-next i.chaining c.in-Some.ensures.steps c.requires.summary_kept.0.few c.append.ensures.counted c.append.ensures.row);
    }

pub returns-clause-hung : goal.returns-clause-hung
returns-clause-hung c =
    chaining-end c.loop-x.invariant.chaining (ap members_left c.into_iter-x-iterator.ensures.into_iter_gives ∙ c.climb.ensures) c.in-None.ensures.steps.0
