-- `striking::strike::strike` meets its contract: before each turn, what is struck and tried and the rest of the model's loop from the present
-- pattern are what striking comes to. The loop returns before its turns run out. Assumes nothing.
use Rattle.std.proofs.Common.{arith, ap, ◌∙◌, length}
use Rattle.model.specs.Lists.{up_from}
use Rattle.striking.proofs.StrikeLaws.{striking-start, turns-left, tried-bound, leaf-goes, named-inside, striking-step, striking-end}
use Rattle.striking.proofs.strike.strike.Goals as goal

pub loop-init : goal.loop-init
loop-init c =
    striking-start c.requires (c.first-names.ensures ∙ ap (up_from 0) (c.count-n.ensures.0 ∙ ap length c.pattern.ensures.0)) c.none-struck.ensures

pub round-r-requires : goal.round-r-requires
round-r-requires c = c.loop.invariant.stands

pub overflow_add-tried : goal.overflow_add-tried
overflow_add-tried c = let v = c.loop.invariant in omega (arith, v.bound, turns-left v, v.few, tried-bound v c.round-r.ensures)

pub returns-in_default : goal.returns-in_default
returns-in_default c = striking-end c.loop.invariant c.round-r.ensures c.in_default.is

pub remove-requires : goal.remove-requires
remove-requires c = named-inside c.loop.invariant c.round-r.ensures c.in-Some.is

pub push-requires : goal.push-requires
push-requires c = (turns-left c.loop.invariant).1

pub without-requires : goal.without-requires
without-requires c = leaf-goes c.loop.invariant c.round-r.ensures c.in-Some.is

pub loop-preserved : goal.loop-preserved
loop-preserved c = striking-step c.loop.invariant c.round-r.ensures c.in-Some.is c.without.ensures c.remove.ensures.number c.remove.ensures.left c.push.ensures

pub returns : goal.returns
returns c = absurd (let v = c.loop.invariant in omega (arith, turns-left v, c.loop-test.false, c.count-n.ensures.0, ap length c.pattern.ensures.0))
