-- The records are as many as the table has room for, so they are copied to its front, where the layout by value promises them of any table.
-- Assumes nothing.
use Rattle.std.proofs.Common.{arith, ap, ◌≤◌, sym, subst, length, length-take, List, Ok}
use Rattle.std.proofs.Math.ListN.{length-map}
use Rattle.model.specs.Calls.{LaidRecord}
use Rattle.laying.specs.Records.{record_of, LaidBy}
use Rattle.std.proofs.lemmas.Result.{err_from_is_err_and}
use Rattle.laying.proofs.RecordLaws.{laid-fits}
use Rattle.cadwezin.proofs.TableLaws.{laid-answered, refused-answered}
use Rattle.cadwezin.proofs.cadwezin_layout.Goals as goal

pub returns-in_err-laid : goal.returns-in_err-laid
returns-in_err-laid c =
    let p = err_from_is_err_and c.from_residual.result c.from_residual.ensures.1 in
    rw (p.1, p.2) (refused-answered c.args.table.now c.in_err-laid.field-0.0 c.in_err-laid.ensures)

pub slice_bounds-copy_from_slice-end : goal.slice_bounds-copy_from_slice-end
slice_bounds-copy_from_slice-end c =
    let few : length c.records-records.result.now ≤ length c.args.table.now =
    let f = laid-fits c.args.case.now c.args.number c.args.list.now (length c.args.table.now) c.in_ok-laid.ensures in
    let n = ap length c.records-records.ensures in omega (arith, f.1, length-map c.records-records.result.now record_of) in
    few

pub slice_bounds-copy_from_slice-end-2 : goal.slice_bounds-copy_from_slice-end-2
slice_bounds-copy_from_slice-end-2 c =
    let few : length c.records-records.result.now ≤ length c.args.table.now =
    let f = laid-fits c.args.case.now c.args.number c.args.list.now (length c.args.table.now) c.in_ok-laid.ensures in
    let n = ap length c.records-records.ensures in omega (arith, f.1, length-map c.records-records.result.now record_of) in
    omega (arith, length-take (length c.records-records.result.now) c.args.table.now)

pub copy_from_slice-requires : goal.copy_from_slice-requires
copy_from_slice-requires c =
    let few : length c.records-records.result.now ≤ length c.args.table.now =
    let f = laid-fits c.args.case.now c.args.number c.args.list.now (length c.args.table.now) c.in_ok-laid.ensures in
    let n = ap length c.records-records.ensures in omega (arith, f.1, length-map c.records-records.result.now record_of) in
    omega (arith, length-take (length c.records-records.result.now) c.args.table.now)

pub returns : goal.returns
returns c =
    rw c.copy_from_slice.ensures.after
    (laid-answered c.args.table.now c.records-records.result.now
    (subst (λ (rs : List LaidRecord). LaidBy c.args.case.now c.args.number c.args.list.now (length c.args.table.now) (Ok rs)) (sym c.records-records.ensures) c.in_ok-laid.ensures))
