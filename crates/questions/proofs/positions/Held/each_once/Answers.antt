-- `questions::positions::Held::each_once` meets its contract: each position from 1 to k is tested. Assumes nothing.
use Rattle.std.proofs.Common.{◌∙◌, ap, refl, rules, arith}
use borrow.Author.Tests.{lt-leb}
use Rattle.model.specs.Pattern.{Pattern, arity}
use Rattle.questions.specs.Positions.{held_once}
use Rattle.format.proofs.ChainLaws.{all_range}
use Rattle.questions.proofs.PositionLaws.{once-none, once-each}
use Rattle.questions.proofs.positions.Held.each_once.Goals as goal

pub returns-then-k-ge1 : goal.returns-then-k-ge1
returns-then-k-ge1 c =
    once-each _ _ (c.self.invariant.0.count ∙ ap (λ (P : Pattern). arity P) c.self.view_is) _ c.if-k-ge1.true
    (all_range (held_once c.args.self.now) 1 _ _ _ refl (omega arith) (λ x t q k. search rules) c.all.ensures.ran)

pub returns-else-k-ge1 : goal.returns-else-k-ge1
returns-else-k-ge1 c = rw (lt-leb _ _ c.if-k-ge1.false) (once-none _ _ (c.self.invariant.0.count ∙ ap (λ (P : Pattern). arity P) c.self.view_is) c.if-k-ge1.false)
