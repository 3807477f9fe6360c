-- `questions::pattern::arity` meets its contract: those that hold a position are counted. Assumes nothing.
use Rattle.std.proofs.Common.{ltb, rules, arith}
use Rattle.model.specs.Pattern.{PatternRecord, no_pattern_record}
use Rattle.format.proofs.ChainLaws.{count_range}
use Rattle.questions.proofs.pattern.arity.Goals as goal

pub returns : goal.returns
returns c = (
  count_range (λ (r : PatternRecord). ltb 0 r.position) no_pattern_record _ _ _ c.count.ensures.0 c.filter.ensures.source c.filter.ensures.closure (λ k t q h. search rules) c.count-2.ensures.ran,
  (let b = rw c.filter.ensures.source at c.count-2.ensures.bound in omega (arith, c.count.ensures.1)),
)
