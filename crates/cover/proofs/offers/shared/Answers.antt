-- `cover::offers::shared` meets its contract: after so many pairs the nodes of the members before are counted. Assumes nothing.
use Rattle.std.proofs.Common.{rules, arith, ◌≤◌, ap, ap₂, ◌∙◌}
use Rattle.std.proofs.lemmas.List.{length_push}
use Rattle.std.proofs.lemmas.Slice.Zip.{zip_turn, zip_end}
use lib.Bits.{bit_and}
use lib.Count.{ones, ones-le}
use Rattle.cover.proofs.CoverLaws.{shared_start, shared_step, shared-end}
use Rattle.cover.proofs.offers.shared.Goals as goal

few : (c : goal.After-count64-n) → c.count64-n.result ≤ 64
few c = let l = ones-le 64 c.from.result c.from.type_inv in omega (arith, c.count64-n.ensures)

pub overflow_add-n : goal.overflow_add-n
overflow_add-n c =
    let v = c.loop-x.invariant in
    let l = few c in
    search (rules, v.few, v.top, l)

pub loop-x-init : goal.loop-x-init
loop-x-init c = shared_start

pub loop-x-preserved : goal.loop-x-preserved
loop-x-preserved c =
    let a = c.args.a.now in
    let b = c.args.b.now in
    let t = zip_turn a b c.loop-x.yielded c.into_iter-x-iterator.result c.loop-x.x-iterator c.next.new.self c.next.result (cc) (cc) c.loop-x.yielded_by (c.in-Some.x, c.in-Some.y) c.in-Some.is c.next.ensures.steps in
    rw (length_push c.loop-x.yielded (c.in-Some.x, c.in-Some.y))
    (shared_step c.loop-x.invariant (omega (arith, t.0, c.told-a)) (c.count64-n.ensures ∙ ap ones (c.from.ensures ∙ ap₂ bit_and (t.2 0) (t.3 0))) (few c))

pub returns : goal.returns
returns c =
    let e = zip_end c.args.a.now c.args.b.now c.loop-x.yielded c.into_iter-x-iterator.result c.loop-x.x-iterator c.next.new.self c.next.result (cc) (cc) c.loop-x.yielded_by c.in-None.is c.next.ensures.steps in
    shared-end c.loop-x.invariant (omega (arith, e, c.told-a, c.told-b))
