use Prim.Native.Nat.{◌-◌, ◌≤◌}
use mathlib.Core.Path.{◌≡◌}
use Rattle.model.specs.Bytes.{member_at}
use Rattle.format.proofs.set.member_at.Given as goal

abbrev pub invariant-loop : goal.invariant-loop
invariant-loop l = (l.at ≡ member_at l.b l.on l.counter) × (l.counter ≤ l.i)

abbrev pub decreases-loop : goal.decreases-loop
decreases-loop l = l.i - l.counter
