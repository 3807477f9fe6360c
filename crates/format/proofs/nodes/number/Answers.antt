-- `format::nodes::number` meets its contract: a number of the column is below 2 ^ 16. Assumes nothing.
use native.Mathlib.Omega.{arith}
use Rattle.format.proofs.nodes.number.Goals as goal

pub overflow_cast-result : goal.overflow_cast-result
overflow_cast-result c = omega (arith, c.shared_slice_known-1.given c.args.i)
