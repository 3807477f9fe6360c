use Prim.Native.Nat.{ℕ}
use lib.Dec.{eqb}
use lib.ListN.{length}
use Rattle.model.specs.Pattern.{position}
use Rattle.format.proofs.PositionLaws.{Seeking}
use Rattle.format.proofs.pattern.Pattern.node_at.Given as goal

abbrev pub invariant-loop-q : goal.invariant-loop-q
invariant-loop-q l = Seeking (λ (k : ℕ). eqb (position l.self k) l.position) (length l.self) l.q
