-- `alternatives::table::Table::entry` meets its contract: the cell's sets are lent. Assumes nothing.
use Rattle.std.proofs.Common.{ℕ, ◌≡◌, ◌+◌, ◌-◌, take, drop, get_or, arith, ap, ap₂, ◌∙◌}
use Rattle.alternatives.specs.Filled.{no_cell}
use Rattle.alternatives.specs.Entries.{many_in, entry_in}
use Rattle.alternatives.proofs.table.Table.entry.Goals as goal

pub returns : goal.returns
unfolding entry_in
returns c =
    let t = c.args.self.now in
    let e = c.cell.ensures.0 in
    let m : c.from.result ≡ many_in t c.args.c.0 c.args.x.0 = c.from.ensures ∙ ap (λ (i : ℕ). (get_or t.cells i no_cell).many) e in
    let n : c.from-start.result + c.from.result - c.from-start.result ≡ many_in t c.args.c.0 c.args.x.0 = omega (arith, m) in
    ap₂ (λ (k s : ℕ). take k (drop s t.sets)) n (c.from-start.ensures ∙ ap (λ (i : ℕ). (get_or t.cells i no_cell).start) e)
