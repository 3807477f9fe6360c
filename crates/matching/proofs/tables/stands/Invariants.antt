use Rattle.model.specs.Pattern.{Pattern}
use Rattle.matching.specs.Wanted.{Wants, pin_of}
use Rattle.matching.proofs.StandLoop.{Descending}
use Rattle.matching.proofs.tables.stands.Given as goal

abbrev pub invariant-loop-v : goal.invariant-loop-v
invariant-loop-v g l = let W = g.T.Tree.nodes l.t in (Q : Pattern) → Wants Q l.wanted → Descending Q W (pin_of l.wanted W) l.initial.table l.initial.left l.table l.left l.v
