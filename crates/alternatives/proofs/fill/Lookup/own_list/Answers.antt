-- `alternatives::fill::Lookup::own_list` meets its contract: the list covers from the start, and each turn keeps that. Assumes nothing.
use Rattle.std.proofs.Common.{rules}
use Rattle.alternatives.proofs.FillLaws.{judged-few}
use Rattle.alternatives.proofs.fill.Lookup.own_list.Goals as goal

pub overflow_step-d : goal.overflow_step-d
overflow_step-d c = let l = judged-few c.args.self.now.by.now in search (rules, l, c.requires.0)
