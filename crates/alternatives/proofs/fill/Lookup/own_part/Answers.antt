-- `alternatives::fill::Lookup::own_part` meets its contract: it is added, or the node has no path there. Assumes nothing.
use Rattle.std.proofs.Common.{ap, sym, ◌∙◌}
use Rattle.model.specs.Lists.{has}
use Rattle.alternatives.proofs.FillLaws.{own-covered, own-none}
use Rattle.alternatives.proofs.fill.Lookup.own_part.Goals as goal

pub returns-then-last-c-clause-covered : goal.returns-then-last-c-clause-covered
returns-then-last-c-clause-covered c =
    own-covered c.requires.table c.args.c.0 c.args.y.0 c.requires.some c.requires.inside c.requires.narrow (λ g f R e. c.add_bare.ensures.raised g f R)

pub returns-else-last-c-clause-covered : goal.returns-else-last-c-clause-covered
returns-else-last-c-clause-covered c =
    own-covered c.requires.table c.args.c.0 c.args.y.0 c.requires.some c.requires.inside c.requires.narrow c.add_own.ensures.raised

pub returns-else-has-clause-covered : goal.returns-else-has-clause-covered
returns-else-has-clause-covered c = own-none c.args.c.0 c.args.y.0 c.requires.some c.requires.inside
    (ap (λ n. has n c.args.y.0) (sym c.part.ensures) ∙ sym c.has.ensures ∙ c.if-has.false)
