-- `laying::laid::accepted_layout` meets its contract: an accepted call's list is an embedding of the pattern that it names. Assumes
-- nothing.
use Prim.Native.Nat.{ℕ, ◌<◌}
use mathlib.Core.Path.{sym, ap, ◌∙◌, subst}
use native.Mathlib.Omega.{arith}
use lib.ListN.{get_or, replicate}
use Rattle.model.specs.Facts.{FewFigures}
use Rattle.model.specs.Bytes.{Case}
use Rattle.model.specs.Questions.{selected}
use Rattle.model.proofs.CallFacts.{accepted-layout}
use Rattle.refusals.proofs.AcceptedLaws.{accepted-whole}
use Rattle.laying.proofs.ListLaws.{outline-kept, list-fits, list-embedded, list-figures, list-back, list-labels}
use Rattle.laying.proofs.laid.accepted_layout.Goals as goal

pub new-given-requires : goal.new-given-requires
new-given-requires c = accepted-whole (accepted-layout _ _ _ _ c.requires).case

pub read_list-requires : goal.read_list-requires
read_list-requires c = list-fits (accepted-layout _ _ _ _ c.requires)

pub new-requires : goal.new-requires
new-requires c = rw (c.summary.ensures, c.new-given.ensures) (outline-kept (accepted-layout _ _ _ _ c.requires))

pub numbered-requires : goal.numbered-requires
numbered-requires c = rw c.new-given.ensures (accepted-layout _ _ _ _ c.requires).number

pub layout_of-requires-clause-embedded : goal.layout_of-requires-clause-embedded
layout_of-requires-clause-embedded c =
    let f = accepted-layout _ _ _ _ c.requires in
    rw (c.new.ensures, c.summary.ensures, c.numbered.ensures, c.new-given.ensures) (list-embedded f (replicate 16 0) (omega arith) c.read_list.ensures.table)

pub layout_of-requires-clause-figures : goal.layout_of-requires-clause-figures
layout_of-requires-clause-figures c =
    let P = c.numbered.ensures ∙ ap (λ (C : Case). selected C c.args.number) c.new-given.ensures in
    subst FewFigures (sym P) (list-figures (accepted-layout _ _ _ _ c.requires))

pub layout_of-requires-clause-labels : goal.layout_of-requires-clause-labels
layout_of-requires-clause-labels c =
    let small : (i : ℕ) → get_or c.args.case.now i 0 < 256 = λ i. omega (arith, c.type_inv.case i) in
    rw (c.new.ensures, c.summary.ensures, c.new-given.ensures) (list-labels (accepted-layout _ _ _ _ c.requires) small)

pub returns : goal.returns
returns c =
    let f = accepted-layout _ _ _ _ c.requires in
    let back = list-back f (replicate 16 0) (omega arith) c.read_list.ensures.table in
    rw (c.layout_of.ensures, c.new.ensures, c.summary.ensures, c.numbered.ensures, c.new-given.ensures, back)
