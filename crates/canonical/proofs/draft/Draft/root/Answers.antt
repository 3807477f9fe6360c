-- `canonical::draft::Draft::root` meets its contract: the four fields are written one after another. Assumes nothing.
use Prim.Native.Nat.{ℕ}
use native.Mathlib.Omega.{arith}
use lib.ListN.{length-replicate}
use Rattle.model.specs.Limits.{min_table}
use Rattle.canonical.proofs.DraftLaws.{summary-some, drafted-root}
use Rattle.canonical.proofs.draft.Draft.root.Goals as goal

pub returns-clause-drafted : goal.returns-clause-drafted
returns-clause-drafted c =
    let r = c.requires in
    drafted-root (record { bytes = r.1; on = r.2; kids = omega (arith, length-replicate {A = ℕ} min_table 0) }) (summary-some r.0) c.put_field.ensures c.put_field-2.ensures
    c.put_field-3.ensures c.label.ensures c.put_field-4.ensures
