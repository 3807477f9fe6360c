-- `normalising::row::opens` meets its contract: where the depths are equal, the comparison decides. Assumes nothing.
use mathlib.Core.Path.{◌≡◌, sym, ap, ◌∙◌}
use borrow.Author.Tests.{ne_eqb}
use Rattle.std.proofs.lemmas.List.{get_or_read}
use Rattle.model.specs.Normal.{no_entry}
use Rattle.normalising.proofs.PlaceLaws.{opens-no, opens-rest}
use Rattle.normalising.proofs.row.opens.Goals as goal

pub returns-then-depth : goal.returns-then-depth
returns-then-depth c =
    let n = get_or_read c.args.rest.now 0 _ c.requires.1 c.index-rest-0.is no_entry in
    let r = get_or_read c.args.row.now 0 _ c.requires.0 c.index-row-0.is no_entry in
    opens-rest _ _ n r (sym c.depth.ensures.0 ∙ c.if-depth.true ∙ c.depth-2.ensures.0) c.not_after.ensures

pub returns-else-depth : goal.returns-else-depth
returns-else-depth c =
    let n = get_or_read c.args.rest.now 0 _ c.requires.1 c.index-rest-0.is no_entry in
    let r = get_or_read c.args.row.now 0 _ c.requires.0 c.index-row-0.is no_entry in
    ne_eqb c.depth.result c.depth-2.result c.if-depth.false ∙ opens-no _ _ n r (λ z. c.if-depth.false (c.depth.ensures.0 ∙ z ∙ sym c.depth-2.ensures.0))
