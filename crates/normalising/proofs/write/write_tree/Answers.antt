-- `normalising::write::write_tree` meets its contract: row 0 is the list, whose records follow the count. Assumes nothing.
use Prim.Native.Nat.{ℕ, ◌+◌, ◌*◌, ◌≤◌, ◌<◌}
use mathlib.Core.Path.{◌≡◌, sym, ap, ◌∙◌}
use mathlib.Core.List.{List, []}
use native.Mathlib.Omega.{arith}
use native.Mathlib.Nat.{mul-le-mul_left}
use borrow.Author.Rules.{rules}
use lib.ListN.{length, get_or}
use Rattle.std.proofs.lemmas.List.{get_or_read}
use Rattle.model.specs.Normal.{Entry, by_subtree, listed}
use Rattle.normalising.proofs.SectionLaws.{list-length, list-shallow, fields-count, records-fit, section-written, section-end}
use Rattle.normalising.proofs.write.write_tree.Given.{Over}
use Rattle.normalising.proofs.write.write_tree.Goals as goal
use Rattle.normalising.proofs.write.write_tree.Goals.{After-entries-list}

row-read : (rows : List (List Entry)) {row es whole : List Entry} → 0 < length rows → row ≡ get_or rows 0 row → es ≡ get_or rows 0 row → get_or rows 0 [] ≡ whole → es ≡ whole
row-read rows {row} h i e w = e ∙ sym i ∙ get_or_read rows 0 row h i [] ∙ w

-- the list that is written
listed-there : (g : Over) (c : After-entries-list g) → c.entries-list.result.now ≡ listed by_subtree (g.T.Tree.table c.args.tree.now)
listed-there g c =
    row-read c.gather.new.rows (omega (arith, c.gather.auto.rows, c.load.ensures.size, c.requires.given.0.tree.inhabited)) c.index-rows-0.is c.entries-list.ensures c.gather.ensures

pub overflow_cast-list : goal.overflow_cast-list
overflow_cast-list g c = record { fits = omega (arith, list-length _ c.requires.given.0.tree (listed-there g (goal.at.overflow_cast-list g c).After-entries-list), c.requires.given.0.few) }

pub put_field-requires : goal.put_field-requires
put_field-requires g c = omega (arith, c.requires.room, fields-count (g.T.Tree.table c.args.tree.now) c.requires.given.0.tree g.T.Tree.fields g.T.Tree.width g.met.T.Tree.even)

pub write_records-requires : goal.write_records-requires
write_records-requires g c =
    let l = listed-there g (goal.at.write_records-requires g c).After-entries-list in
    (list-shallow _ c.requires.given.0.tree l c.requires.given.0.few, records-fit _ c.requires.given.0.tree g.T.Tree.fields g.T.Tree.width g.met.T.Tree.even l c.args.at c.args.out.now c.put_field.ensures c.requires.room)

pub overflow_mul-result : goal.overflow_mul-result
overflow_mul-result g c =
    let l = listed-there g (goal.at.overflow_mul-result g c).After-entries-list in
    let few : length c.entries-list.result.now ≤ 64 = omega (arith, list-length _ c.requires.given.0.tree l, c.requires.given.0.few) in
    record { fits = omega (arith, mul-le-mul_left c.width.result few, c.width.ensures.1) }

pub overflow_add-result-2 : goal.overflow_add-result-2
overflow_add-result-2 g c =
    let l = listed-there g (goal.at.overflow_add-result-2 g c).After-entries-list in
    let e = section-end _ c.requires.given.0.tree g.T.Tree.fields g.T.Tree.width g.met.T.Tree.even l c.args.at c.args.out.now c.put_field.ensures in
    let w = ap (λ (x : ℕ). x * length c.entries-list.result.now) c.width.ensures.0 in
    let room = c.requires.room in
    search rules

pub returns-clause-end : goal.returns-clause-end
returns-clause-end g c =
    let l = listed-there g (goal.at.returns-clause-end g c).After-entries-list in
    ap (λ (x : ℕ). c.args.at + 1 + x * length c.entries-list.result.now) c.width.ensures.0
    ∙ section-end _ c.requires.given.0.tree g.T.Tree.fields g.T.Tree.width g.met.T.Tree.even l c.args.at c.args.out.now c.put_field.ensures

pub returns-clause-buffer : goal.returns-clause-buffer
returns-clause-buffer g c =
    let l = listed-there g (goal.at.returns-clause-buffer g c).After-entries-list in
    section-written _ c.requires.given.0.tree g.T.Tree.fields g.T.Tree.width g.met.T.Tree.even l c.args.at c.args.out.now c.put_field.ensures c.write_records.ensures
