-- `format::case::Case::first` meets its contract: a whole case has the section. Assumes nothing.
use mathlib.Core.Path.{sym, ap, subst, ◌∙◌}
use native.Mathlib.Omega.{arith}
use Rattle.model.specs.Limits.{pattern_width}
use Rattle.model.specs.Bytes.{Case, case_of, WholeSection}
use Rattle.model.proofs.Bytes.{whole-case}
use Rattle.format.specs.Given.{pattern_at}
use Rattle.format.proofs.case.Case.first.Goals as goal

pub first_at-requires : goal.first_at-requires
first_at-requires c = let w = (whole-case _).0 c.self.invariant in omega arith

pub new-requires : goal.new-requires
new-requires c = subst (WholeSection pattern_width _) (sym c.first_at.ensures) ((whole-case _).0 c.self.invariant).first

pub returns : goal.returns
unfolding case_of
returns c = c.new.ensures ∙ ap (pattern_at _) c.first_at.ensures ∙ ap (λ (k : Case). k.first) c.self.view_is
