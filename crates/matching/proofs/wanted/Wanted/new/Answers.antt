-- `matching::wanted::Wanted::new` meets its contract: after q turns the labels and the parents of the nodes below q are in. Assumes
-- nothing.
use Prim.Native.Nat.{ℕ}
use mathlib.Core.Path.{ap, ◌∙◌}
use mathlib.Core.List.{List}
use native.Mathlib.Omega.{arith}
use lib.ListN.{get_or}
use Rattle.matching.proofs.MaskLoops.{get_or-kid_masks}
use Rattle.matching.proofs.TurnLaws.{zeros-at}
use Rattle.matching.proofs.WantedLaws.{columned-end}
use Rattle.matching.proofs.wanted.Wanted.new.Goals as goal

pub returns : goal.returns
returns c =
    let n = c.count-count.ensures.0 in (
      record {
        tree = c.requires.tree;
        few = c.requires.few;
        deep = c.deep_mask.ensures;
        count = n;
        labels = columned-end c.loop-q.invariant.0 (omega arith);
        kids = λ p h. ap (λ (x : List ℕ). get_or x p 0) c.kid_masks.ensures ∙ get_or-kid_masks _ p (omega (arith, c.requires.few));
        parents = columned-end c.loop-q.invariant.1 (omega arith);
      },
      λ p h. zeros-at 16 p,
      λ p h. zeros-at 16 p,
    )
