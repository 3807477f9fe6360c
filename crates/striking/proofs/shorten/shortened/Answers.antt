-- `striking::shorten::shortened` meets its contract: before turn i the count and the first i records are written. Assumes nothing.
use Rattle.std.proofs.Common.{ℕ, ◌-◌, ◌<◌, ◌≡◌, refl, sym, ap, ◌∙◌, subst, arith, length, replicate}
use Rattle.model.specs.Striking.{without}
use Rattle.format.specs.Given.{pattern_at}
use Rattle.striking.proofs.WriteWithout.{writing_start, writing_step, writing-end, count-without, left-inside, left-record}
use Rattle.striking.proofs.shorten.shortened.Goals as goal

pub loop-i-init : goal.loop-i-init
loop-i-init c = writing_start

pub overflow_sub-left : goal.overflow_sub-left
overflow_sub-left c = let n = c.count-left.ensures.0 in let p = ap length c.new.ensures in omega (arith, c.requires.1)

pub put_record-requires : goal.put_record-requires
put_record-requires c =
    let n : c.count-left.result ≡ length (pattern_at c.args.p.now 0) = c.count-left.ensures.0 ∙ ap length c.new.ensures in
    let left : c.count-left.result - 1 ≡ length (without (pattern_at c.args.p.now 0) c.args.q) = count-without _ _ c.requires.1 n refl in
    let l = c.loop-i in
    let more = c.loop-i-test.true in (
      c.requires.0,
      subst (λ (j : ℕ). j < length (pattern_at c.args.p.now 0)) (sym c.raised.ensures) (left-inside (pattern_at c.args.p.now 0) c.args.q l.i c.requires.1 (omega (arith, more, left))),
      omega (arith, more, n, c.requires.0.few, c.raised.array_long),
    )

pub loop-i-preserved : goal.loop-i-preserved
loop-i-preserved c =
    let n : c.count-left.result ≡ length (pattern_at c.args.p.now 0) = c.count-left.ensures.0 ∙ ap length c.new.ensures in
    let left : c.count-left.result - 1 ≡ length (without (pattern_at c.args.p.now 0) c.args.q) = count-without _ _ c.requires.1 n refl in
    let l = c.loop-i in
    let more : l.i < length (without (pattern_at c.args.p.now 0) c.args.q) = omega (arith, c.loop-i-test.true, left) in
    writing_step l.invariant more (left-record _ _ l.i c.requires.1 more c.raised.ensures) c.put_record.ensures

pub returns : goal.returns
returns c =
    let n : c.count-left.result ≡ length (pattern_at c.args.p.now 0) = c.count-left.ensures.0 ∙ ap length c.new.ensures in
    let left : c.count-left.result - 1 ≡ length (without (pattern_at c.args.p.now 0) c.args.q) = count-without _ _ c.requires.1 n refl in
    writing-end _ _ (replicate 162 0) left c.put_field.ensures c.loop-i.invariant (omega (arith, c.loop-i-test.false, left))
