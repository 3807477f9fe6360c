-- Before turn i the fields before it are put. Assumes nothing.
use mathlib.Core.Path.{sym, ap}
use Rattle.model.specs.Text.{number}
use Rattle.text.proofs.PutLaws.{room-same, put_same}
use Rattle.text.proofs.ListedLaws.{listed_start, listed-room, listed-step, listed-end, fields-listed}
use Rattle.text.proofs.page.Page.fields.Goals as goal

pub loop-i-init : goal.loop-i-init
loop-i-init c = listed_start

pub number-requires : goal.number-requires
number-requires c =
    room-same (ap number (sym c.field.ensures.0))
    (listed-room c.loop-i.invariant c.loop-i-test.true (room-same (fields-listed _ _ _) c.requires.room))

pub loop-i-preserved : goal.loop-i-preserved
loop-i-preserved c =
    listed-step c.loop-i.invariant c.loop-i-test.true (room-same (fields-listed _ _ _) c.requires.room)
    (put_same (ap number c.field.ensures.0) c.number.ensures)

pub returns : goal.returns
returns c = put_same (sym (fields-listed _ _ _)) (listed-end c.loop-i.invariant c.loop-i-test.false)
