use Rattle.std.proofs.Common.{arith, rules, ◌-◌, ◌≤◌, length, ◌<◌, ◌≡◌, ap, ◌∙◌, take}
use Rattle.std.proofs.Math.ListN.{length-take}
use Rattle.model.specs.Striking.{removed}
use Rattle.striking.proofs.NumbersLaws.{left-removed}
use Rattle.striking.proofs.numbers.Numbers.remove.Goals as goal

pub returns-clause-left : goal.returns-clause-left
returns-clause-left c =
    let few : c.self.inside.count ≤ 16 = c.self.invariant in
    let view : take c.self.inside.count c.self.inside.items ≡ c.args.self.now = c.self.view_is in
    let size = ap length view in
    let there : c.args.q < c.self.inside.count = omega (arith, size, length-take c.self.inside.count c.self.inside.items) in
    left-removed c.args.q c.self.inside.count c.self.inside.items _ there few (search rules) c.without-self-inside.ensures ∙ ap (removed c.args.q) view
