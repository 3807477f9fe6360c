-- `format::members::Members` yields the set's members: the first of those that are left, and leaves the others. Assumes nothing.
use mathlib.Core.Path.{sym, ap, ◌∙◌}
use native.Mathlib.Omega.{arith}
use Rattle.std.proofs.Common.{length, List}
use Rattle.model.specs.Pattern.{Pattern}
use Rattle.format.proofs.MemberLaws.{none_left, next_left, passed_more}
use Rattle.format.proofs.members.MembersIterator.next.Goals as goal

pub returns-then-self-field-clause-steps : goal.returns-then-self-field-clause-steps
returns-then-self-field-clause-steps c =
    let e = sym c.self.view_is ∙ none_left _ _ _ _ c.self.invariant (c.if-self-field.true ∙ c.field.ensures.0) in
    (e, e)

pub invariant_of-self : goal.invariant_of-self
invariant_of-self c = passed_more _ _ _ _ c.self.invariant (λ e. c.if-self-field.false (e ∙ sym c.field.ensures.0)) _ c.pattern_end-self-inside.ensures

pub returns-clause-steps : goal.returns-clause-steps
returns-clause-steps c =
    sym c.self.view_is ∙ next_left _ _ _ _ c.self.invariant (λ e. c.if-self-field.false (e ∙ sym c.field.ensures.0)) _ c.new-member.ensures

pub returns-clause-goes : goal.returns-clause-goes
returns-clause-goes c = record { on = λ _. (tt, tt, omega (arith, ap (λ (l : List Pattern). length l) (returns-clause-steps c))); keeps = tt; rests = λ _. tt }
