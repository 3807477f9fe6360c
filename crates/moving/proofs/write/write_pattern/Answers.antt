-- `moving::write::write_pattern` meets its contract: before turn i the count and the first i records are written. Assumes nothing.
use Prim.Native.Nat.{ℕ, ◌*◌}
use mathlib.Core.Path.{ap}
use native.Mathlib.Omega.{arith}
use Rattle.model.specs.Bytes.{field_bytes}
use Rattle.format.proofs.WriteLaws.{stored-size}
use Rattle.moving.proofs.RowLaws.{rows_start, rows_step, row-room, fields-even, rewritten-length, rewritten-written}
use Rattle.moving.proofs.write.write_pattern.Goals as goal

pub put_field-requires : goal.put_field-requires
put_field-requires g c = omega (arith, c.requires.room.1, rewritten-length g.row.FROM g.row.TO c.args.b.now c.args.at c.requires.widths.3)

pub loop-i-init : goal.loop-i-init
loop-i-init g c = rows_start

pub put_record-requires-clause-room : goal.put_record-requires-clause-room
put_record-requires-clause-room g c =
    let size = stored-size c.args.out.now (2 * c.args.to) (field_bytes c.field-n.result) c.put_field.ensures in
    let i = c.loop-i.i in
    let n = c.field-n.result in
    let w = c.requires.widths in (
      omega (arith, row-room g.row.FROM n i c.loop-i-test.true, ap (λ (k : ℕ). g.row.FROM * k) c.field-n.ensures.0, c.requires.room.0.records, w.0),
      omega (arith, row-room g.row.TO n i c.loop-i-test.true, ap (λ (k : ℕ). g.row.TO * k) c.field-n.ensures.0, c.requires.room.1, rewritten-length g.row.FROM g.row.TO c.args.b.now c.args.at w.3, c.loop-i.invariant.size, size),
    )

pub loop-i-preserved : goal.loop-i-preserved
loop-i-preserved g c = rows_step {width = g.row.TO} (λ i. fields-even g.row.TO _ c.requires.widths.3) c.loop-i.invariant c.loop-i-test.true c.put_record.ensures

pub returns-clause-end : goal.returns-clause-end
returns-clause-end g c = omega (arith, ap (λ (k : ℕ). g.row.TO * k) c.field-n.ensures.0, rewritten-length g.row.FROM g.row.TO c.args.b.now c.args.at c.requires.widths.3)

pub returns-clause-buffer : goal.returns-clause-buffer
returns-clause-buffer g c = rewritten-written g.row.FROM g.row.TO _ _ _ c.args.out.now c.field-n.ensures.0 c.put_field.ensures c.loop-i.invariant c.loop-i-test.false
