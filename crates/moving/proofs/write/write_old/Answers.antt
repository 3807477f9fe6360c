-- `moving::write::write_old` meets its contract: the summary, the first pattern and the set's only member are those of the old case.
-- Assumes nothing.
use Prim.Native.Nat.{◌+◌}
use native.Mathlib.Omega.{arith}
use lib.ListN.{length}
use borrow.Author.Rules.{rules}
use Rattle.questions.proofs.SectionLaws.{sections}
use Rattle.moving.proofs.FormLaws.{RoomForOld, old-room, old-written}
use Rattle.moving.proofs.write.write_old.Goals as goal

pub copy_fields-requires : goal.copy_fields-requires
copy_fields-requires c =
    let room : RoomForOld c.args.b.now c.first_at-first.result (c.set_at-set.result + 1) (length c.args.out.now) =
    old-room _ c.requires.b_value c.requires.b_value_2 c.first_at-first.ensures c.set_at-set.ensures _ c.requires.b_in_bounds in
    let r = room in (omega arith, omega arith)

pub write_pattern-second-requires : goal.write_pattern-second-requires
write_pattern-second-requires c =
    let room : RoomForOld c.args.b.now c.first_at-first.result (c.set_at-set.result + 1) (length c.args.out.now) =
    old-room _ c.requires.b_value c.requires.b_value_2 c.first_at-first.ensures c.set_at-set.ensures _ c.requires.b_in_bounds in
    let r = room in record { widths = search rules; room = (r.one, omega arith) }

pub overflow_add-set : goal.overflow_add-set
overflow_add-set c =
    let room : RoomForOld c.args.b.now c.first_at-first.result (c.set_at-set.result + 1) (length c.args.out.now) =
    old-room _ c.requires.b_value c.requires.b_value_2 c.first_at-first.ensures c.set_at-set.ensures _ c.requires.b_in_bounds in
    let r = room in let w = r.two.count in search rules

pub write_pattern-old_end-requires : goal.write_pattern-old_end-requires
write_pattern-old_end-requires c =
    let room : RoomForOld c.args.b.now c.first_at-first.result (c.set_at-set.result + 1) (length c.args.out.now) =
    old-room _ c.requires.b_value c.requires.b_value_2 c.first_at-first.ensures c.set_at-set.ensures _ c.requires.b_in_bounds in
    let r = room in let e = c.write_pattern-second.ensures.end in record { widths = search rules; room = (r.two, omega arith) }

pub overflow_mul-result : goal.overflow_mul-result
overflow_mul-result c =
    let room : RoomForOld c.args.b.now c.first_at-first.result (c.set_at-set.result + 1) (length c.args.out.now) =
    old-room _ c.requires.b_value c.requires.b_value_2 c.first_at-first.ensures c.set_at-set.ensures _ c.requires.b_in_bounds in
    let r = room in
    let e = c.write_pattern-second.ensures.end in
    let f = c.write_pattern-old_end.ensures.end in
    record { fits = omega (arith, r.few, e, f) }

pub returns : goal.returns
returns c = let both = old-written _ c.requires.b_value c.requires.b_value_2 c.first_at-first.ensures c.set_at-set.ensures _ c.requires.b_in_bounds c.copy_fields.ensures
    c.write_pattern-second.ensures.end c.write_pattern-second.ensures.buffer c.write_pattern-old_end.ensures.end c.write_pattern-old_end.ensures.buffer in record { end = both.0; buffer = both.1 }

pub first_at-first-requires : goal.first_at-first-requires
first_at-first-requires c = search sections
