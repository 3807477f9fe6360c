-- `alternatives::judges::Judges::add_bare` meets its contract: nothing is inside whatever is offered, and is raised. Assumes nothing.
use mathlib.Core.Logic.{inr}
use Rattle.alternatives.proofs.JoinLaws.{none_inside}
use Rattle.alternatives.proofs.judges.Judges.add_bare.Goals as goal

pub returns-clause-raised : goal.returns-clause-raised
returns-clause-raised c g f R = c.add.ensures _ f (inr (R _ _ none_inside c.node_row.ensures))
