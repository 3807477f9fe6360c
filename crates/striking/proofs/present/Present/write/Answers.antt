-- `striking::present::Present::write` meets its contract: the section as it stands is the pattern's encoding. Assumes nothing.
use Rattle.std.proofs.Common.{ap, ◌∙◌, ◌≡◌, sym, arith, length}
use Rattle.model.specs.Pattern.{Pattern}
use Rattle.model.specs.Bytes.{encode_pattern, written_at_front}
use Rattle.format.specs.Given.{pattern_at}
use Rattle.striking.proofs.OrderLaws.{copied-out}
use Rattle.striking.proofs.present.Present.write.Goals as goal

pub returns-clause-end : goal.returns-clause-end
returns-clause-end c =
    let view : pattern_at c.self.inside.section 0 ≡ c.args.self.now = c.self.view_is in
    let n : c.count.result ≡ length (pattern_at c.self.inside.section 0) = c.count.ensures.0 ∙ ap length (c.pattern.ensures.0 ∙ sym view) in
    let out = (copied-out c.self.inside.section 0 n c.self.invariant.given c.args.out.now (omega (arith, c.requires)) c.copy_fields.ensures).0 in
    (out ∙ ap (λ (P : Pattern). length (encode_pattern P)) view, omega (arith, n, c.self.invariant.given.few))

pub returns-clause-front : goal.returns-clause-front
returns-clause-front c =
    let view : pattern_at c.self.inside.section 0 ≡ c.args.self.now = c.self.view_is in
    let n : c.count.result ≡ length (pattern_at c.self.inside.section 0) = c.count.ensures.0 ∙ ap length (c.pattern.ensures.0 ∙ sym view) in
    let out = (copied-out c.self.inside.section 0 n c.self.invariant.given c.args.out.now (omega (arith, c.requires)) c.copy_fields.ensures).1 in
    out ∙ ap (λ (P : Pattern). written_at_front (encode_pattern P) c.args.out.now) view
