-- `format::case::Case::set` meets its contract: a whole case has the set. Assumes nothing.
use mathlib.Core.Path.{sym, ap, subst, ◌∙◌}
use Rattle.model.specs.Bytes.{Case, case_of, set_of, WholeSet}
use Rattle.model.proofs.Bytes.{whole-case}
use Rattle.format.proofs.case.Case.set.Goals as goal

pub new-requires : goal.new-requires
new-requires c = subst (WholeSet _) (sym c.set_at.ensures) ((whole-case _).0 c.self.invariant).members

pub returns : goal.returns
unfolding case_of
returns c = c.new.ensures ∙ ap (set_of _) c.set_at.ensures ∙ ap (λ (k : Case). k.members) c.self.view_is
