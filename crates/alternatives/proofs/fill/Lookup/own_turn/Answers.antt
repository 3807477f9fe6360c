-- `alternatives::fill::Lookup::own_turn` meets its contract: it joins, or the node is no child of c. Assumes nothing.
use Rattle.std.proofs.Common.{arith}
use Rattle.alternatives.proofs.FillLaws.{judged-few}
use Rattle.alternatives.proofs.fill.Lookup.own_turn.Goals as goal

pub join_entry-requires : goal.join_entry-requires
join_entry-requires c = let l = judged-few c.args.self.now.by.now in (omega (arith, c.requires.0), c.requires.1)
