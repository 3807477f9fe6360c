-- `alternatives::fill::Lookup::add_own` meets its contract: what hangs from the node is covered by its own list, and is raised. Assumes nothing.
use Rattle.std.proofs.Common.{arith, length, subst, sym}
use Rattle.cover.specs.Cover.{Covers}
use Rattle.alternatives.proofs.FillLaws.{judged-few}
use Rattle.alternatives.proofs.fill.Lookup.add_own.Goals as goal

pub add_raised-requires : goal.add_raised-requires
add_raised-requires c = let l = judged-few c.args.self.now.by.now in (c.requires.1, omega (arith, c.requires.0))

pub returns-clause-raised : goal.returns-clause-raised
returns-clause-raised c g f R e =
    c.add_raised.ensures.raised g f R (subst (λ l. Covers (length c.args.self.now.by.now.members.now) l g) (sym c.as_slice.ensures.value) (c.own_list.ensures g e))
