-- `striking::present::Present::set_of_one` meets its contract: a count of 1, then the section as it stands. Assumes nothing.
use Rattle.std.proofs.Common.{ap, ◌∙◌, ◌≡◌, sym, arith, length, rules, [], ◌∷◌}
use Rattle.model.specs.Pattern.{Pattern}
use Rattle.format.specs.Given.{pattern_at}
use Rattle.striking.proofs.SetLaws.{section-room, whole-one, set-one}
use Rattle.striking.proofs.present.Present.set_of_one.Goals as goal

pub copy_fields-requires : goal.copy_fields-requires
copy_fields-requires c =
    let view : pattern_at c.self.inside.section 0 ≡ c.args.self.now = c.self.view_is in
    let n : c.count.result ≡ length (pattern_at c.self.inside.section 0) = c.count.ensures.0 ∙ ap length (c.pattern.ensures.0 ∙ sym view) in
    let r = section-room _ c.self.invariant.given n in
    (omega (arith, r.0), search rules)

pub returns : goal.returns
returns c =
    let view : pattern_at c.self.inside.section 0 ≡ c.args.self.now = c.self.view_is in
    let n : c.count.result ≡ length (pattern_at c.self.inside.section 0) = c.count.ensures.0 ∙ ap length (c.pattern.ensures.0 ∙ sym view) in (
      whole-one c.self.inside.section c.self.invariant n c.put_field.ensures c.copy_fields.ensures,
      set-one c.self.inside.section c.self.invariant n c.put_field.ensures c.copy_fields.ensures ∙ ap (λ (P : Pattern). P ∷ []) view,
    )
