-- `bits::Members` yields what the definition of members lists: the first of them, and what is left. Assumes nothing.
use mathlib.Core.Path.{◌∙◌, ap}
use native.Mathlib.Omega.{arith}
use Rattle.std.proofs.Common.{length}
use Rattle.model.specs.Lists.{members}
use Rattle.bits.proofs.MaskMembers.{members-none}
use Rattle.bits.proofs.MembersIterator.next.Goals as goal

pub returns-then-self-eq0-clause-steps : goal.returns-then-self-eq0-clause-steps
returns-then-self-eq0-clause-steps c = let e = ap members c.if-self-eq0.true ∙ members-none in (e, e)

pub returns-clause-goes : goal.returns-clause-goes
returns-clause-goes c = record { on = λ _. (tt, tt, omega (arith, ap length c.split_first-i.ensures)); keeps = tt; rests = λ _. tt }
