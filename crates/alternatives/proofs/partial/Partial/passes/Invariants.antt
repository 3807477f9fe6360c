use mathlib.Core.Path.{◌≡◌}
use lib.ListN.{length}
use Rattle.alternatives.specs.Alternatives.{LeftOpen}
use Rattle.alternatives.proofs.partial.Partial.passes.Given as goal

abbrev pub invariant-loop-c : goal.invariant-loop-c
invariant-loop-c l =
    (length l.lists ≡ 16) × LeftOpen l.self.by.now.members.now l.self.by.now.masks.now l.self.by.now.pattern.now l.self.next.0 l.self.images.now l.lists
