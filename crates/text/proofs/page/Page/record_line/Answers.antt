-- The word, the number, then the record's fields, which stand inside. Assumes nothing.
use native.Mathlib.Omega.{arith}
use Rattle.text.proofs.PutLaws.{both, room-first, room-rest, put_then}
use Rattle.text.proofs.ListedLaws.{record-parts, record-inside}
use Rattle.text.proofs.page.Page.record_line.Goals as goal

pub word-requires : goal.word-requires
word-requires c = room-first (record-parts _ _ _) c.requires.room

pub number-requires : goal.number-requires
number-requires c = room-first (both _ _) (room-rest (record-parts _ _ _) c.requires.room c.word.ensures)

pub overflow_mul-width : goal.overflow_mul-width
overflow_mul-width c = omega (arith, record-inside _ _ _ c.requires.whole c.requires.inside)

pub overflow_add-width : goal.overflow_add-width
overflow_add-width c = omega (arith, record-inside _ _ _ c.requires.whole c.requires.inside)

pub last_fields-requires : goal.last_fields-requires
last_fields-requires c = record {
  inside = record-inside _ _ _ c.requires.whole c.requires.inside;
  room = room-rest (both _ _) (room-rest (record-parts _ _ _) c.requires.room c.word.ensures) c.number.ensures;
}

pub returns : goal.returns
returns c =
    put_then (record-parts _ _ _) c.requires.room c.word.ensures
    (put_then (both _ _) (room-rest (record-parts _ _ _) c.requires.room c.word.ensures) c.number.ensures c.last_fields.ensures)
