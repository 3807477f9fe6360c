-- `normalising::write::write_records` meets its contract: before turn k the first k records are written, and the table holds the last
-- entry of each depth. Assumes nothing.
use Prim.Native.Nat.{ℕ, ◌+◌, ◌*◌, ◌-◌}
use mathlib.Core.Path.{◌≡◌, sym, ap, ap₂, ◌∙◌, subst}
use native.Mathlib.Omega.{arith}
use lib.ListN.{get_or, set}
use lib.Seq.{sets}
use Rattle.std.proofs.lemmas.List.{get_or_read}
use Rattle.model.specs.Normal.{no_entry}
use Rattle.model.specs.Bytes.{bytes_of}
use Rattle.normalising.specs.Trees.{record_with}
use Rattle.normalising.proofs.RecordLaws.{Writing, writing_start, depth-inside, writing_step, writing-end}
use Rattle.normalising.proofs.write.write_records.Goals as goal

pub loop-k-init : goal.loop-k-init
loop-k-init g c = writing_start _ _ _ _

pub bounds-last-depth : goal.bounds-last-depth
bounds-last-depth g c =
    let own = get_or_read c.args.list.now c.loop-k.k _ c.loop-k-test.true c.index-list-k.is no_entry in
    let small = depth-inside g.met.T.Tree.even c.requires.0 c.loop-k.invariant c.loop-k-test.true own in
    omega (arith, small, c.from-depth.ensures, c.depth.ensures.0)

pub offset_bounds-last-depth : goal.offset_bounds-last-depth
offset_bounds-last-depth g c =
    let own = get_or_read c.args.list.now c.loop-k.k _ c.loop-k-test.true c.index-list-k.is no_entry in
    let small = depth-inside g.met.T.Tree.even c.requires.0 c.loop-k.invariant c.loop-k-test.true own in
    record { fits = omega (arith, small, c.from-depth.ensures, c.depth.ensures.0) }

pub loop-k-preserved : goal.loop-k-preserved
loop-k-preserved g c =
    let fields = g.T.Tree.fields in
    let k = c.loop-k.k in
    let own = get_or_read c.args.list.now k _ c.loop-k-test.true c.index-list-k.is no_entry in
    let deep = c.from-depth.ensures ∙ c.depth.ensures.0 in
    let above : c.saturating_sub-above.result ≡ c.index-list-k.result.depth - 1 = c.saturating_sub-above.ensures ∙ ap (λ (x : ℕ). x - 1) deep in
    let put = c.put.ensures
    ∙ ap₂ (λ (w a : ℕ). sets c.loop-k.out (2 * (c.args.at + w * k)) (bytes_of (fields (record_with (get_or c.loop-k.last a 0) c.index-list-k.result)))) c.width.ensures.0 above in
    subst (λ (d : ℕ). Writing fields c.args.list.now c.args.at c.args.out.now c.put.new.out (set c.loop-k.last d k) (k + 1)) (sym deep)
    (writing_step g.met.T.Tree.even c.requires.0 c.loop-k.invariant c.loop-k-test.true own put)

pub returns : goal.returns
returns g c = writing-end c.loop-k.invariant c.loop-k-test.false
