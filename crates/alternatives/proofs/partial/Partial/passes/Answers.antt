-- `alternatives::partial::Partial::passes` meets its contract: before each turn every list covers what hangs from its node in each completion that does not pass. Assumes nothing.
use Rattle.std.proofs.Common.{[], length, arith, sym, ap, ◌∙◌}
use Rattle.std.proofs.lemmas.List.{get_or_read}
use Rattle.std.proofs.lemmas.Bool.{eqb-true}
use Rattle.alternatives.proofs.OpenLaws.{begun-covers, left-start, left_end}
use Rattle.alternatives.proofs.partial.Partial.passes.Goals as goal

pub loop-c-init : goal.loop-c-init
loop-c-init c = (c.begin.auto.lists ∙ c.from_fn-lists.ensures.items.long, left-start c.requires.made c.args.self.now.inside c.requires.rows_settled (begun-covers c.begin.ensures))

pub returns-then-is_empty : goal.returns-then-is_empty
returns-then-is_empty c e =
    let P = c.args.self.now in
    let at = get_or_read c.turn.new.lists _ _ (omega (arith, c.turn.auto.lists, c.loop-c.invariant.0)) c.index-lists-0.is [] in
    left_end c.requires.made P.inside c.turn.ensures P.some (omega (arith, P.placed.placed, P.inside)) c.requires.placed_by
    (ap length (sym at ∙ c.index-lists-0.is ∙ sym c.as_slice.ensures.value) ∙ eqb-true _ 0 (sym c.is_empty.ensures ∙ c.if-is_empty.true))
