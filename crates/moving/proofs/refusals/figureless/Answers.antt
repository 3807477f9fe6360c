-- `moving::refusals::figureless` meets its contract: each figure is tested. Assumes nothing.
use Rattle.std.proofs.Common.{refl, sym, ◌∙◌, length, rules, tests}
use Rattle.format.proofs.ChainLaws.{all_range}
use Rattle.moving.proofs.BackLaws.{no_figure, by_number}
use Rattle.moving.proofs.refusals.figureless.Goals as goal

pub returns : goal.returns
returns c =
    let P = c.args.p.now in
    all_range (no_figure P) 0 (length P) _ _ refl (search rules) (λ x t q k. search (rules, tests)) c.all.ensures.ran ∙ sym (by_number P)
