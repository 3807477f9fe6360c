use Rattle.std.proofs.Common.{◌≡◌, ℕ, ◌<◌, ◌≤◌, length, replicate}
use Rattle.model.specs.Summary.{summary_parent}
use Rattle.judging.proofs.GivenLoop.{Gathering}
use Rattle.judging.proofs.rows.gathered.Given as goal

abbrev pub invariant-loop-x : goal.invariant-loop-x
invariant-loop-x g l =
    (0 < l.x) × (l.x ≤ length l.summary) × (length l.t ≡ 64)
    × ((by : ℕ → ℕ → ℕ) → ((x e r : ℕ) → x < length l.summary → goal.F-post g l.passes x e r → r ≡ by x e) → Gathering (summary_parent l.summary) by (length l.summary) (replicate 64 0) l.x l.t)
