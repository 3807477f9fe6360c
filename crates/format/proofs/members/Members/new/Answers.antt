-- `format::members::Members::new` meets its contract: the first member stands right after the count. Assumes nothing.
use mathlib.Core.Path.{sym}
use native.Mathlib.Omega.{arith}
use Rattle.model.proofs.Bytes.{member-first}
use Rattle.format.proofs.members.Members.new.Goals as goal

pub invariant_of-result : goal.invariant_of-result
invariant_of-result c = record { whole = c.requires; inside = omega arith; here = sym (member-first _ _) }
