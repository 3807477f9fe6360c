-- `questions::positions::holders` meets its contract: those that hold the position are counted. Assumes nothing.
use Rattle.std.proofs.Common.{rules, eqb}
use Rattle.model.specs.Pattern.{PatternRecord, no_pattern_record}
use Rattle.format.proofs.ChainLaws.{count_range}
use Rattle.questions.proofs.positions.holders.Goals as goal

pub returns : goal.returns
returns c =
    count_range (λ (r : PatternRecord). eqb r.position c.args.position) no_pattern_record _ _ _ c.count.ensures.0 c.filter.ensures.source c.filter.ensures.closure
    (λ k t q h. search rules) c.count-2.ensures.ran
