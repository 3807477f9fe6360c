-- `striking::present::Present::without` meets its contract: what is left is a tree again, and is read back. Assumes nothing.
use Rattle.std.proofs.Common.{ap, ◌∙◌, ◌≡◌, ◌<◌, true, sym, subst, length}
use Rattle.model.specs.Pattern.{Pattern}
use Rattle.model.specs.Striking.{without, may_go}
use Rattle.format.specs.Given.{pattern_at}
use Rattle.striking.proofs.PresentLaws.{left-without, left-alone}
use Rattle.striking.proofs.present.Present.without.Goals as goal

pub shortened-section-requires : goal.shortened-section-requires
shortened-section-requires c =
    let view : pattern_at c.self.inside.section 0 ≡ c.args.self.now = c.self.view_is in
    (c.self.invariant.given, subst (λ (P : Pattern). c.args.q < length P) (sym view) c.requires.0)

pub invariant_of-result : goal.invariant_of-result
invariant_of-result c =
    let view : pattern_at c.self.inside.section 0 ≡ c.args.self.now = c.self.view_is in
    left-alone c.self.inside.section c.self.invariant c.args.q (subst (λ (P : Pattern). c.args.q < length P) (sym view) c.requires.0)
    (subst (λ (P : Pattern). may_go P c.args.q ≡ true) (sym view) c.requires.1) c.shortened-section.ensures

pub returns : goal.returns
returns c =
    let view : pattern_at c.self.inside.section 0 ≡ c.args.self.now = c.self.view_is in
    left-without c.self.inside.section c.self.invariant c.args.q (subst (λ (P : Pattern). c.args.q < length P) (sym view) c.requires.0)
    (subst (λ (P : Pattern). may_go P c.args.q ≡ true) (sym view) c.requires.1) c.shortened-section.ensures
    ∙ ap (λ (P : Pattern). without P c.args.q) view
