-- `judging::member::Member::settle` meets its contract: nodes have their turn from the last on, as the definition goes. Assumes nothing.
use Prim.Native.Nat.{◌-◌}
use mathlib.Core.Path.{refl, sym, ◌∙◌}
use lib.ListN.{length-set}
use Rattle.judging.specs.Settling.{folded_row}
use Rattle.judging.proofs.GivenLoop.{gathering-step, gathering-end, join-turn}
use Rattle.judging.proofs.SettleLaws.{turn-none, folded-yes, folded-no}
use Rattle.judging.proofs.member.Member.settle.Goals as goal

pub loop-c-preserved-then-last-q : goal.loop-c-preserved-then-last-q
loop-c-preserved-then-last-q c =
    let l = c.loop-c in (
      l.invariant.0,
      gathering-step (l.c - 1) _ l.invariant.1 c.loop-c-test.true refl
          (join-turn _ _ _ _ _ _ _ c.parent.ensures (c.pass-set.ensures ∙ folded-yes _ _ _ _ _ _ _ c.last.ensures c.if-last-q.true) refl) (length-set _ _ _),
      l.invariant.2,
    )

pub loop-c-preserved : goal.loop-c-preserved
loop-c-preserved c =
    let l = c.loop-c in (
      l.invariant.0,
      gathering-step (l.c - 1) _ l.invariant.1 c.loop-c-test.true refl (sym (turn-none _ _ _ _ (folded-no _ _ _ _ _ _ _ c.last.ensures c.if-last-q.false))) refl,
      l.invariant.2,
    )

pub returns : goal.returns
unfolding folded_row
returns c = gathering-end c.loop-c.invariant.1 c.loop-c-test.false
