use Rattle.std.proofs.Common.{◌≡◌, ℕ, ◌<◌, get_or, length}
use Rattle.cover.proofs.offers.each.Given as goal

abbrev pub invariant-loop-i : goal.invariant-loop-i
invariant-loop-i g l = (length l.r ≡ 8) × ((k : ℕ) → k < l.i → goal.F-post g l.op (get_or l.a k 0) (get_or l.b k 0) (get_or l.r k 0))
