-- `canonical::fill::fill_node` meets its contract. The loop's invariant: v has its children on the strong children that were yielded.
-- Assumes nothing.
use mathlib.Core.Path.{refl, ap}
use native.Mathlib.Omega.{arith}
use Rattle.bits.specs.Members.{members_left}
use Rattle.canonical.proofs.DraftLaws.{drafted-roomy}
use Rattle.canonical.proofs.TableLaws.{still}
use Rattle.canonical.proofs.FillLaws.{visitable-on, visiting-start, visiting-inside, visiting-missing, visiting-next, visiting-end}
use Rattle.canonical.proofs.fill.fill_node.Goals as goal

pub summary_of-requires : goal.summary_of-requires
summary_of-requires c =
    let m = c.requires.2 in
    omega (arith, drafted-roomy m.drafted, m.inside, m.drafted.fits)

pub strong_children-requires : goal.strong_children-requires
strong_children-requires c =
    let k = c.summary-summary.ensures.1 in
    omega (arith, visitable-on c.requires.2 _ c.summary_of.ensures, k.few)

pub loop-t-init : goal.loop-t-init
loop-t-init c =
    let k = c.summary-summary.ensures.1 in record {
      same_tables = record { bytes = refl; on = refl };
      visiting = visiting-start k.few (visitable-on c.requires.2 _ c.summary_of.ensures) c.summary_of.ensures c.strong_children.ensures (ap members_left c.into_iter-t-iterator.ensures.into_iter_gives);
    }

pub add_missing-requires-clause-summary_kept : goal.add_missing-requires-clause-summary_kept
add_missing-requires-clause-summary_kept c =
    let e = c.summary-summary.ensures in
    rw e.0 (e.1, visiting-inside c.loop-t.invariant.visiting c.in-Some.ensures.steps)

pub add_missing-requires-clause-missing : goal.add_missing-requires-clause-missing
add_missing-requires-clause-missing c =
    rw c.summary-summary.ensures.0 (_, _, visiting-missing c.loop-t.invariant.visiting c.in-Some.ensures.steps c.requires.2)

pub loop-t-preserved : goal.loop-t-preserved
loop-t-preserved c =
    let i = c.loop-t.invariant in
    let added = rw c.summary-summary.ensures.0 at c.add_missing.ensures.added in
    record { same_tables = still i.same_tables c.add_missing.ensures.same_tables; visiting = visiting-next i.visiting c.in-Some.ensures.steps added }

pub returns-clause-visited : goal.returns-clause-visited
returns-clause-visited c = visiting-end c.loop-t.invariant.visiting c.requires.2.inside c.in-None.ensures.steps.0
