use Rattle.format.proofs.WriteLaws.{Copying}
use Rattle.format.proofs.write.copy_fields.Given as goal

abbrev pub invariant-loop-i : goal.invariant-loop-i
invariant-loop-i l = Copying l.b l.from l.n l.to l.initial.out l.out l.i
