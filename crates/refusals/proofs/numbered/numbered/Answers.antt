-- `refusals::numbered::numbered` meets its contract: number 1 gives the first pattern, any other that was given a member. Assumes nothing.
use Rattle.refusals.proofs.NumberedLaws.{number_least, number_inside}
use Rattle.refusals.proofs.numbered.numbered.Goals as goal

pub overflow_sub-number : goal.overflow_sub-number
overflow_sub-number c = number_least _ _ c.requires c.if-number-eq1.false

pub member-requires : goal.member-requires
member-requires c = rw c.set.ensures (number_inside _ _ c.requires c.if-number-eq1.false)
