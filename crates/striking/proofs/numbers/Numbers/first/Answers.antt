use Rattle.model.specs.Lists.{up_from}
use Rattle.striking.proofs.NumbersLaws.{take-up_from}
use Rattle.striking.proofs.numbers.Numbers.first.Goals as goal

pub returns : goal.returns
unfolding up_from
returns c = take-up_from 0 c.args.n 16 c.requires
