-- The first lines, the nodes, then the answer. Assumes nothing.
use native.Mathlib.Omega.{arith}
use Rattle.model.specs.Bytes.{list_of}
use Rattle.text.proofs.PutLaws.{both, room-first, room-rest, put_then}
use Rattle.printing.proofs.LineLaws.{shown-parts}
use Rattle.printing.proofs.lines.shown.Goals as goal

pub first_lines-requires : goal.first_lines-requires
first_lines-requires c = room-first (shown-parts _ _ _) c.requires.room

pub record_lines-requires : goal.record_lines-requires
record_lines-requires c = record {
  whole = c.requires.whole;
  room = room-first (both _ _) (room-rest (shown-parts _ _ _) c.requires.room c.first_lines.ensures);
}

pub list_line-requires : goal.list_line-requires
unfolding list_of
list_line-requires c = record {
  inside = omega arith;
  room = room-rest (both _ _) (room-rest (shown-parts _ _ _) c.requires.room c.first_lines.ensures) c.record_lines.ensures;
}

pub returns : goal.returns
unfolding list_of
returns c =
    put_then (shown-parts _ _ _) c.requires.room c.first_lines.ensures
    (put_then (both _ _) (room-rest (shown-parts _ _ _) c.requires.room c.first_lines.ensures) c.record_lines.ensures c.list_line.ensures)
