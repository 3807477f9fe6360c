-- `format::set::PatternSet::member` meets its contract: the section at its field is the member. Assumes nothing.
use mathlib.Core.Path.{sym, ap, subst, ◌∙◌}
use mathlib.Core.List.{List, []}
use Prim.Native.Nat.{◌<◌}
use lib.ListN.{length, get_or}
use Rattle.model.specs.Pattern.{Pattern}
use Rattle.format.specs.Given.{pattern_at}
use Rattle.format.proofs.SectionLaws.{set-member, member-section}
use Rattle.format.proofs.set.PatternSet.member.Goals as goal

pub member_at-requires : goal.member_at-requires
member_at-requires c = (c.self.invariant, subst (λ (l : List Pattern). c.args.i < length l) (sym c.self.view_is) c.requires)

pub new-requires : goal.new-requires
new-requires c = member-section _ _ c.args.i c.self.invariant (subst (λ (l : List Pattern). c.args.i < length l) (sym c.self.view_is) c.requires) c.member_at.ensures

pub returns : goal.returns
returns c =
    c.new.ensures ∙ ap (pattern_at _) c.member_at.ensures
    ∙ sym (set-member _ _ c.args.i (subst (λ (l : List Pattern). c.args.i < length l) (sym c.self.view_is) c.requires))
    ∙ ap (λ (l : List Pattern). get_or l c.args.i []) c.self.view_is
