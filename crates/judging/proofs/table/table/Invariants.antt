use Rattle.std.proofs.Common.{◌≡◌, ℕ, ◌<◌, replicate}
use Rattle.format.proofs.FrontLoops.{FilledUpTo}
use Rattle.judging.proofs.table.table.Given as goal

abbrev pub invariant-loop-i : goal.invariant-loop-i
invariant-loop-i g l = (of : ℕ → ℕ) → ((i r : ℕ) → i < l.n → goal.F-post g l.f i r → r ≡ of i) → FilledUpTo of l.n (replicate g.row.N 0) l.t l.i
