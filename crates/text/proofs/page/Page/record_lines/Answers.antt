-- Before turn i the lines of the records before it are put. Assumes nothing.
use Prim.Native.Nat.{◌<◌}
use mathlib.Core.Path.{sym}
use native.Mathlib.Omega.{arith}
use Rattle.model.specs.Bytes.{field}
use Rattle.text.proofs.PutLaws.{room-same, put_same}
use Rattle.text.proofs.ListedLaws.{listed_start, listed-room, listed-step, listed-end, records-listed}
use Rattle.text.proofs.page.Page.record_lines.Goals as goal

pub loop-i-init : goal.loop-i-init
loop-i-init c = listed_start

pub record_line-requires : goal.record_line-requires
record_line-requires c =
    let h : c.loop-i.i < field c.args.b.now 0 = omega (arith, c.loop-i-test.true, c.field-i-end.ensures.0) in record {
      whole = c.requires.whole;
      inside = h;
      room = listed-room c.loop-i.invariant h (room-same (records-listed _ _) c.requires.room);
    }

pub loop-i-preserved : goal.loop-i-preserved
loop-i-preserved c =
    listed-step c.loop-i.invariant (omega (arith, c.loop-i-test.true, c.field-i-end.ensures.0)) (room-same (records-listed _ _) c.requires.room) c.record_line.ensures

pub returns : goal.returns
returns c =
    put_same (sym (records-listed _ _)) (listed-end c.loop-i.invariant (omega (arith, c.loop-i-test.false, c.field-i-end.ensures.0)))
