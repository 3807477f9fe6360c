-- A pattern's record: five fields are put one after another. Assumes nothing.
use Prim.Native.Nat.{◌*◌}
use mathlib.Core.Path.{◌∙◌}
use mathlib.Core.List.{[], ◌∷◌}
use lib.Seq.{sets}
use Rattle.model.specs.Bytes.{bytes_of}
use Rattle.normalising.proofs.RecordLaws.{five-put}
use Rattle.normalising.proofs.tree.PatternTree.put.Goals as goal

pub returns : goal.returns
returns c =
    five-put c.args.out.now c.args.at c.args.parent _ _ c.put_field.ensures c.put_field-2.ensures c.put_field-3.ensures _ _ c.put_field-4.ensures c.put_field-5.ensures
    ∙ (λ k. sets c.args.out.now (2 * c.args.at) (bytes_of (c.args.parent ∷ c.label.ensures k ∷ c.edge.ensures k ∷ c.position.ensures k ∷ c.figure.ensures k ∷ [])))
