-- `moving::write::write_new` meets its contract: the summary, the first pattern, the set's count and the second pattern are those of the
-- set of one. Assumes nothing.
use native.Mathlib.Omega.{arith}
use lib.ListN.{length}
use borrow.Author.Rules.{rules}
use Rattle.moving.proofs.OldLaws.{old_sections}
use Rattle.moving.proofs.FormLaws.{RoomForNew, new-room, new-written}
use Rattle.moving.proofs.write.write_new.Goals as goal

pub copy_fields-requires : goal.copy_fields-requires
copy_fields-requires c =
    let room : RoomForNew c.args.b.now c.first_at-first.result c.second_at-second.result (length c.args.out.now) =
    new-room _ c.requires.b_value c.first_at-first.ensures c.second_at-second.ensures _ c.requires.b_in_bounds in
    let r = room in (omega arith, omega arith)

pub write_pattern-set-requires : goal.write_pattern-set-requires
write_pattern-set-requires c =
    let room : RoomForNew c.args.b.now c.first_at-first.result c.second_at-second.result (length c.args.out.now) =
    new-room _ c.requires.b_value c.first_at-first.ensures c.second_at-second.ensures _ c.requires.b_in_bounds in
    let r = room in record { widths = search rules; room = (r.one, omega arith) }

pub put_field-requires : goal.put_field-requires
put_field-requires c =
    let room : RoomForNew c.args.b.now c.first_at-first.result c.second_at-second.result (length c.args.out.now) =
    new-room _ c.requires.b_value c.first_at-first.ensures c.second_at-second.ensures _ c.requires.b_in_bounds in
    let r = room in let e = c.write_pattern-set.ensures.end in omega arith

pub overflow_add-set : goal.overflow_add-set
overflow_add-set c =
    let room : RoomForNew c.args.b.now c.first_at-first.result c.second_at-second.result (length c.args.out.now) =
    new-room _ c.requires.b_value c.first_at-first.ensures c.second_at-second.ensures _ c.requires.b_in_bounds in
    let r = room in let e = c.write_pattern-set.ensures.end in search rules

pub write_pattern-end-requires : goal.write_pattern-end-requires
write_pattern-end-requires c =
    let room : RoomForNew c.args.b.now c.first_at-first.result c.second_at-second.result (length c.args.out.now) =
    new-room _ c.requires.b_value c.first_at-first.ensures c.second_at-second.ensures _ c.requires.b_in_bounds in
    let r = room in let e = c.write_pattern-set.ensures.end in record { widths = search rules; room = (r.two, omega arith) }

pub overflow_mul-result : goal.overflow_mul-result
overflow_mul-result c =
    let room : RoomForNew c.args.b.now c.first_at-first.result c.second_at-second.result (length c.args.out.now) =
    new-room _ c.requires.b_value c.first_at-first.ensures c.second_at-second.ensures _ c.requires.b_in_bounds in
    let r = room in
    let e = c.write_pattern-set.ensures.end in
    let f = c.write_pattern-end.ensures.end in
    record { fits = omega (arith, r.few, e, f) }

pub returns : goal.returns
returns c = let both = new-written _ c.requires.b_value c.first_at-first.ensures c.second_at-second.ensures _ c.requires.b_in_bounds c.copy_fields.ensures c.write_pattern-set.ensures.end c.write_pattern-set.ensures.buffer
    c.put_field.ensures c.write_pattern-end.ensures.end c.write_pattern-end.ensures.buffer in record { end = both.0; buffer = both.1 }

pub first_at-first-requires : goal.first_at-first-requires
first_at-first-requires c = search old_sections
