-- `alternatives::fill::Lookup::gather` meets its contract: the children of x that had their turn are covered, and whatever is reached from x lies toward one of them. Assumes nothing.
use Rattle.std.proofs.Common.{refl}
use Rattle.alternatives.proofs.FillLaws.{fill-below, member-small, gathered-step, gathered-end}
use Rattle.alternatives.proofs.fill.Lookup.gather.Goals as goal

pub child_part-requires : goal.child_part-requires
child_part-requires c = fill-below c.requires (member-small _ c.in-Some.ensures.steps)

pub loop-y-preserved : goal.loop-y-preserved
loop-y-preserved c = gathered-step c.loop-y.invariant c.in-Some.ensures.steps c.child_part.ensures.grown c.child_part.ensures.covered

pub returns : goal.returns
returns c R l = gathered-end c.loop-y.invariant c.in-None.ensures.steps.0 refl R l
