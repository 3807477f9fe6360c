-- `alternatives::fill::Lookup::add_below` meets its contract: nothing is always offered, and what is known is raised. Assumes nothing.
use Rattle.alternatives.proofs.fill.Lookup.add_below.Goals as goal

pub returns-then-is_empty-clause-raised : goal.returns-then-is_empty-clause-raised
returns-then-is_empty-clause-raised c g f R e = c.add_bare.ensures.raised g f R
