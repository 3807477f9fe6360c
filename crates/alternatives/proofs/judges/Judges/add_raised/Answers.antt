-- `alternatives::judges::Judges::add_raised` meets its contract: before each turn the list covers what the sets before are raised to. Assumes nothing.
use mathlib.Core.Logic.{inl, inr}
use Rattle.alternatives.proofs.JoinLaws.{growing-step, added-grown, raised-end}
use Rattle.alternatives.proofs.judges.Judges.add_raised.Goals as goal

pub loop-a-preserved : goal.loop-a-preserved
loop-a-preserved c =
    growing-step c.loop-a.invariant (added-grown c.add.ensures) (λ f s. inl (c.add.ensures _ f (inr (s.1.0 _ _ s.1.1 c.node_row.ensures))))

pub returns-clause-raised : goal.returns-clause-raised
returns-clause-raised c = raised-end c.loop-a.invariant c.loop-a-test.false
