-- `alternatives::table::Table::ends_with` meets its contract: the last sets in use are compared. Assumes nothing.
use Rattle.std.proofs.Common.{ℕ, ◌≡◌, ◌-◌, length, take, drop, arith, ap, ◌∙◌}
use Rattle.alternatives.proofs.table.Table.ends_with.Goals as goal

pub returns-then-n-self : goal.returns-then-n-self
returns-then-n-self c e =
    let t = c.args.self.now in
    let n = length c.args.sets.now in
    let h = c.if-n-self.true in
    let k : n ≡ t.used - (t.used - n) = omega (arith, h) in
    (h, ap (λ (j : ℕ). take j (drop (t.used - n) t.sets)) k ∙ c.same_sets.ensures e)
