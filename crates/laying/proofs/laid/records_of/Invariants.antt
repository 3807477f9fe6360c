use Prim.Native.Nat.{ℕ}
use Rattle.format.proofs.FrontLoops.{FilledUpTo}
use Rattle.laying.specs.Records.{node_record, laid_at, blank_nodes}
use Rattle.laying.proofs.laid.records_of.Given as goal

abbrev pub invariant-loop-i : goal.invariant-loop-i
invariant-loop-i l = FilledUpTo (λ (k : ℕ). node_record (laid_at l.w l.on k)) l.count blank_nodes l.nodes l.i
