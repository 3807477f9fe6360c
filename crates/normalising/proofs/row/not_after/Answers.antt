-- `normalising::row::not_after` meets its contract: before turn i the rows agree, and what follows decides. Assumes nothing.
use mathlib.Core.Path.{◌∙◌}
use Rattle.std.proofs.lemmas.List.{get_or_read}
use Rattle.model.specs.Normal.{no_entry}
use Rattle.normalising.proofs.KeyLaws.{comparing-start, comparing-step, comparing-short, comparing-other, comparing-end}
use Rattle.normalising.proofs.row.not_after.Goals as goal

pub loop-i-init : goal.loop-i-init
loop-i-init c = comparing-start

pub returns-then-b-i : goal.returns-then-b-i
returns-then-b-i c = comparing-short c.loop-i.invariant c.loop-i-test.true c.if-b-i.true

pub returns-then-x-y : goal.returns-then-x-y
returns-then-x-y c =
    let x = c.key-x.ensures ∙ get_or_read c.args.a.now c.loop-i.i _ c.loop-i-test.true c.index-a-i.is no_entry in
    let y = c.key-y.ensures ∙ get_or_read c.args.b.now c.loop-i.i _ c.if-b-i.false c.index-b-i.is no_entry in
    comparing-other c.loop-i.invariant c.loop-i-test.true c.if-b-i.false _ _ x y c.if-x-y.true

pub loop-i-preserved : goal.loop-i-preserved
loop-i-preserved c =
    let x = c.key-x.ensures ∙ get_or_read c.args.a.now c.loop-i.i _ c.loop-i-test.true c.index-a-i.is no_entry in
    let y = c.key-y.ensures ∙ get_or_read c.args.b.now c.loop-i.i _ c.if-b-i.false c.index-b-i.is no_entry in
    comparing-step c.loop-i.invariant c.loop-i-test.true c.if-b-i.false _ _ x y c.if-x-y.false

pub returns : goal.returns
returns c = comparing-end c.loop-i.invariant c.loop-i-test.false
