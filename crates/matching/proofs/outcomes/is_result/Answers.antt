-- `matching::outcomes::is_result` meets its contract: the root's bit at the root, with the return nodes pinned and figures asked, says it.
-- Assumes nothing.
use native.Mathlib.Omega.{arith}
use Rattle.matching.proofs.ReadLoops.{list-small}
use Rattle.matching.proofs.Answers.{result-read}
use Rattle.matching.proofs.TurnLaws.{zeros-at}
use Rattle.matching.proofs.outcomes.is_result.Goals as goal

pub pin-requires-clause-list_len : goal.pin-requires-clause-list_len
pin-requires-clause-list_len c = (c.requires.list_facts.count, list-small c.requires.list_facts (omega (arith, c.requires.pattern_kept.2.few)))

pub parts-requires-clause-t_in_bounds : goal.parts-requires-clause-t_in_bounds
parts-requires-clause-t_in_bounds c = (c.requires.pattern_kept.2.few, zeros-at 1024)

pub returns : goal.returns
returns c =
    result-read c.ask_figures.ensures c.args.w.now _ c.requires.pattern_kept.1 c.requires.pattern_kept.2.tree _ c.pin.ensures.1 c.requires.list_facts.count c.parts.ensures
    c.has.ensures
