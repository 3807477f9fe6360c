-- `matching::outcomes::nodes_with` meets its contract: after v turns the nodes below v whose mask has q stand at the front. Assumes
-- nothing.
use Prim.Native.Nat.{ℕ, ◌+◌}
use mathlib.Core.Path.{sym, subst₂, ◌∙◌}
use mathlib.Core.List.{List}
use Rattle.matching.specs.Outcomes.{in_mask}
use Rattle.matching.proofs.ReadLoops.{Listing, listing_start, listing-in, listing-out}
use Rattle.matching.proofs.outcomes.nodes_with.Goals as goal
use Rattle.matching.proofs.outcomes.nodes_with.Goals.{then-in_mask, else-in_mask}

pub loop-v-init : goal.loop-v-init
loop-v-init c = listing_start

pub loop-v-preserved : goal.loop-v-preserved
loop-v-preserved c =
    let test = in_mask c.args.table.now c.args.q.0 in
    elim c.if-in_mask.branch [
      | then-in_mask w ↦
          subst₂ (λ (l : List ℕ) (k : ℕ). Listing test c.args.n c.args.out.now l k (c.loop-v.v + 1)) (sym w.out-is) (sym w.count-is)
          (listing-in c.loop-v.invariant c.requires.1 c.loop-v-test.true (sym c.in_mask.ensures ∙ w.if-in_mask.true))
      | else-in_mask w ↦
          subst₂ (λ (l : List ℕ) (k : ℕ). Listing test c.args.n c.args.out.now l k (c.loop-v.v + 1)) (sym w.out-is) (sym w.count-is)
          (listing-out c.loop-v.invariant c.loop-v-test.true (sym c.in_mask.ensures ∙ w.if-in_mask.false))
    ]
