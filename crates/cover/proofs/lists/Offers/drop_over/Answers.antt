-- `cover::lists::Offers::drop_over` meets its contract: a is inside each set that is left out. Assumes nothing.
use Rattle.std.proofs.Common.{arith, ◌<◌, [], length, get_or, sym, ap, ◌∙◌}
use lib.Seq.{length-take-le}
use Rattle.cover.specs.Cover.{inside_by}
use Rattle.cover.proofs.CoverLaws.{dropping-step, inside-within, front-at}
use Rattle.cover.proofs.lists.Offers.drop_over.Goals as goal

pub loop-k-preserved-then-inside : goal.loop-k-preserved-then-inside
loop-k-preserved-then-inside c =
    let s = c.self.inside in
    let a = c.args.a.now in
    let l = length-take-le s.count s.sets (omega (arith, c.self.invariant, c.self.told)) in
    let k : c.loop-k.k < length c.loop-k.self = omega (arith, c.loop-k-test.true, ap length c.self.view_is, l) in
    let same = ap (inside_by a) (front-at s.sets c.self.view_is c.loop-k-test.true) in
    dropping-step c.loop-k.invariant k (inside-within a (get_or c.loop-k.self c.loop-k.k []) (same ∙ sym c.inside.ensures ∙ c.if-inside.true)) c.swap_remove.ensures
