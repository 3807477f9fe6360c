-- `bits::split_first` meets its contract: a mask's trailing zeros give its least member. Assumes nothing.
use Rattle.bits.proofs.MaskMembers.{first-left, first-room}
use Rattle.bits.proofs.split_first.Goals as goal

pub without64-requires : goal.without64-requires
without64-requires c = first-room c.ranges.m.fits c.requires c.first64-i.ensures

pub returns : goal.returns
returns c = first-left c.ranges.m.fits c.requires c.first64-i.ensures c.without64.ensures
