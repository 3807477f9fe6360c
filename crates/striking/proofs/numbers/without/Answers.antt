-- `striking::numbers::without` meets its contract: before turn i the items before i are made. Assumes nothing.
use Prim.Native.Nat.{ℕ, ◌<◌}
use mathlib.Core.Path.{◌≡◌, refl, sym, ap, subst}
use native.Mathlib.Omega.{arith}
use lib.ListN.{get_or}
use Rattle.model.specs.Striking.{raised}
use Rattle.model.proofs.Removing.{raised-inside}
use Rattle.format.proofs.FrontLoops.{filled-start, filled-step, filled-end}
use Rattle.striking.proofs.numbers.without.Goals as goal

-- a number of the items
there : (q i : ℕ) {r : ℕ} → i < 15 → r ≡ raised q i → r < 16
there q i h e = subst (λ (j : ℕ). j < 16) (sym e) (raised-inside q i 15 h)

pub loop-i-init : goal.loop-i-init
loop-i-init c = filled-start refl

pub bounds-items-raised : goal.bounds-items-raised
bounds-items-raised c = there _ _ c.loop-i-test.true c.raised.ensures

pub loop-i-preserved : goal.loop-i-preserved
loop-i-preserved c = filled-step c.loop-i.invariant (omega arith) (omega arith) (ap (λ (j : ℕ). get_or c.args.items.now j 0) c.raised.ensures)

pub returns : goal.returns
returns c = filled-end c.loop-i.invariant (omega arith)
