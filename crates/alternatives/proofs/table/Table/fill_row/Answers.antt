-- `alternatives::table::Table::fill_row` meets its contract: every cell stays right while one after another is filled. Assumes nothing.
use Rattle.std.proofs.Common.{arith}
use Rattle.alternatives.proofs.table.Table.fill_row.Goals as goal

pub fill_cell-requires-clause-place : goal.fill_cell-requires-clause-place
fill_cell-requires-clause-place c =
    let R = c.requires.nodes in
    let l = c.loop-x.auto.x in
    let h = c.loop-x-test.true in
    ((R.0, omega (arith, R.1, l, h)), omega (arith, R.1, l, h, R.0.narrow))
