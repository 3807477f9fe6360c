-- Tried, the nodes, then the struck numbers, which stand where the section ends. Assumes nothing.
use mathlib.Core.Path.{sym}
use Rattle.text.proofs.PutLaws.{both, room-same, put_same, room-first, room-rest, put_then}
use Rattle.listing.proofs.OrderLaws.{order-parts, order-whole, list_same, list_inside}
use Rattle.listing.proofs.order.Goals as goal

pub line-requires : goal.line-requires
line-requires c = room-first (order-parts _ _) c.requires.room

pub record_lines-requires : goal.record_lines-requires
record_lines-requires c = record {
  whole = order-whole c.requires.held;
  room = room-first (both _ _) (room-rest (order-parts _ _) c.requires.room c.line.ensures);
}

pub list_line-requires : goal.list_line-requires
list_line-requires c = record {
  inside = list_inside _ c.pattern_end-end.ensures c.field.ensures.0 c.requires.held;
  room =
      room-same (list_same _ c.pattern_end-end.ensures c.field.ensures.0)
      (room-rest (both _ _) (room-rest (order-parts _ _) c.requires.room c.line.ensures) c.record_lines.ensures);
}

pub returns : goal.returns
returns c =
    let room = c.requires.room in
    put_then (order-parts _ _) room c.line.ensures
    (put_then (both _ _) (room-rest (order-parts _ _) room c.line.ensures) c.record_lines.ensures
    (put_same (sym (list_same _ c.pattern_end-end.ensures c.field.ensures.0)) c.list_line.ensures))
