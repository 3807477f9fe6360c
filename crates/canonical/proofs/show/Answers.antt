-- `canonical::show` meets its contract: the section ends where the lent part begins, so what the two write stands one after the
-- other. Assumes nothing.
use native.Mathlib.Omega.{arith}
use lib.ListN.{length-take, length-drop, replicate}
use borrow.Author.Rules.{rules}
use Rattle.format.proofs.FrontLaws.{front-part}
use Rattle.canonical.proofs.ShownLaws.{shown-result, shown-end, shown-small}
use Rattle.canonical.proofs.show.Goals as goal

pub overflow_mul-end : goal.overflow_mul-end
overflow_mul-end c = omega (arith, shown-small c.requires.showable c.lay_out-laid.ensures)

pub overflow_add-end : goal.overflow_add-end
overflow_add-end c = omega (arith, shown-small c.requires.showable c.lay_out-laid.ensures)

pub slice_bounds-write_counted-count : goal.slice_bounds-write_counted-count
slice_bounds-write_counted-count c =
    omega (arith, shown-small c.requires.showable c.lay_out-laid.ensures, c.requires.room, c.lay_out-laid.auto.answer)

pub slice_bounds-write_counted-start : goal.slice_bounds-write_counted-start
slice_bounds-write_counted-start c =
    omega (arith, shown-small c.requires.showable c.lay_out-laid.ensures, c.requires.room, c.lay_out-laid.auto.answer)

pub write_counted-requires : goal.write_counted-requires
write_counted-requires c =
    let h = c.requires.showable in
    let few = shown-small h c.lay_out-laid.ensures in
    (search rules, omega (arith, h.few), simp (length-take, length-drop) (omega (arith, few, h.few, c.requires.room, c.lay_out-laid.auto.answer)))

pub returns : goal.returns
returns c =
    let h = c.requires.showable in
    front-part _ _ _ (shown-end h c.lay_out-laid.ensures) c.lay_out-laid.ensures.section
    (shown-result h c.lay_out-laid.ensures (replicate 8 0) _ c.own_result-result.ensures c.write_counted.ensures.buffer)
