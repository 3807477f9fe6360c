use Prim.Native.Nat.{ℕ, ◌+◌}
use lib.ListN.{replicate}
use Rattle.model.specs.Pattern.{node_at}
use Rattle.model.specs.Embeddings.{image_in}
use Rattle.format.proofs.FrontLoops.{FilledUpTo}
use Rattle.canonical.proofs.own_result.Given as goal

abbrev pub invariant-loop-i : goal.invariant-loop-i
invariant-loop-i l = FilledUpTo (λ (j : ℕ). image_in l.own (node_at l.pattern (j + 1))) l.k (replicate 8 0) l.result l.i
