-- `alternatives::judges::Judges::join_one` meets its contract: before each turn the list covers the unions with the sets before, but for those that need not be kept. Assumes nothing.
use Rattle.cover.proofs.CoverLaws.{either-covers}
use Rattle.alternatives.proofs.JoinLaws.{growing-step, growing-end}
use Rattle.alternatives.proofs.judges.Judges.join_one.Goals as goal

pub loop-b-preserved : goal.loop-b-preserved
loop-b-preserved c =
    growing-step c.loop-b.invariant c.keep.ensures.grown (λ f s. c.keep.ensures.kept f (either-covers c.either.ensures _ f s.1 s.0))

pub returns-clause-joined : goal.returns-clause-joined
returns-clause-joined c f i s = growing-end c.loop-b.invariant c.loop-b-test.false s.row s.few f (i, s.inside)
