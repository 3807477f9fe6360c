use Prim.Native.Nat.{ℕ}
use mathlib.Core.List.{[]}
use lib.ListN.{length, get_or}
use Rattle.alternatives.proofs.JoinLaws.{RowTo}
use Rattle.alternatives.proofs.members.column.Given as goal

abbrev pub invariant-loop-i : goal.invariant-loop-i
invariant-loop-i l = RowTo l.n (λ (j e : ℕ). get_or (get_or l.rows j []) l.j.0 0) [] l.r l.i
