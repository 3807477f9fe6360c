use lib.ListN.{length, replicate}
use Rattle.model.specs.Embeddings.{path_mask}
use Rattle.format.proofs.FrontLoops.{FilledUpTo}
use Rattle.matching.proofs.outcomes.path_masks.Given as goal

abbrev pub invariant-loop-q : goal.invariant-loop-q
invariant-loop-q l = FilledUpTo (path_mask l.summary l.pattern) (length l.pattern) (replicate 16 0) l.r l.q
