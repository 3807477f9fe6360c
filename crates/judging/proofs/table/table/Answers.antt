-- `judging::table::table` meets its contract: before turn i the entries before i are made. Assumes nothing.
use Prim.Native.Nat.{ℕ, ◌≤◌}
use mathlib.Core.Path.{refl, sym, subst}
use lib.ListN.{length-replicate}
use native.Mathlib.Omega.{arith}
use Rattle.format.proofs.FrontLoops.{filled-start, filled-step, filled-end}
use Rattle.judging.proofs.table.table.Goals as goal

pub loop-i-init : goal.loop-i-init
loop-i-init g c = λ of same. filled-start refl

pub loop-i-preserved : goal.loop-i-preserved
loop-i-preserved g c = λ of same.
    filled-step (c.loop-i.invariant of same) c.loop-i-test.true (subst (λ (k : ℕ). c.args.n ≤ k) (sym (length-replicate {A = ℕ} g.row.N 0)) c.requires.room) (same _ _ c.loop-i-test.true c.f.ensures)

pub returns : goal.returns
returns g c = λ of same. filled-end (c.loop-i.invariant of same) (omega arith)
