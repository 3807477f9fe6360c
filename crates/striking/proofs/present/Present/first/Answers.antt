-- `striking::present::Present::first` meets its contract: the first pattern's section fits the bytes that it is copied to, and is read back
-- there. Assumes nothing.
use Rattle.std.proofs.Common.{sym, ap, ◌∙◌, ◌≡◌, subst, arith, length, replicate, get_or, ℕ, ◌<◌}
use Rattle.model.specs.Pattern.{Pattern, no_pattern_record}
use Rattle.model.specs.Facts.{RecordFits}
use Rattle.format.specs.Given.{pattern_at, PatternGiven}
use Rattle.format.proofs.GivenLaws.{given-first}
use Rattle.questions.proofs.SectionLaws.{first-pattern}
use Rattle.striking.proofs.OrderLaws.{section-inside, copied-alone}
use Rattle.striking.proofs.SectionBytes.{read_fits}
use Rattle.striking.proofs.present.Present.first.Goals as goal

pub new-requires : goal.new-requires
new-requires c = (subst (PatternGiven c.args.case.now) (sym c.first_at-first.ensures) (given-first c.requires)).whole

pub copy_fields-requires : goal.copy_fields-requires
copy_fields-requires c =
    let G = subst (PatternGiven c.args.case.now) (sym c.first_at-first.ensures) (given-first c.requires) in
    let n : c.count.result ≡ length (pattern_at c.args.case.now c.first_at-first.result) = c.count.ensures.0 ∙ ap length c.new.ensures in
    (section-inside _ _ n G, omega (arith, n, G.few))

pub invariant_of-result : goal.invariant_of-result
invariant_of-result c =
    let G = subst (PatternGiven c.args.case.now) (sym c.first_at-first.ensures) (given-first c.requires) in
    let n : c.count.result ≡ length (pattern_at c.args.case.now c.first_at-first.result) = c.count.ensures.0 ∙ ap length c.new.ensures in
    let r = copied-alone _ _ n G (λ i. omega (arith, c.type_inv.case i)) (replicate 162 0) (omega arith) c.copy_fields.ensures in
    record {
      given = r.0;
      fits = subst (λ (P : Pattern). (i : ℕ) → i < length P → RecordFits (get_or P i no_pattern_record)) (sym r.1) (read_fits c.args.case.now (λ i. omega (arith, c.type_inv.case i)) c.first_at-first.result);
    }

pub returns : goal.returns
returns c =
    let G = subst (PatternGiven c.args.case.now) (sym c.first_at-first.ensures) (given-first c.requires) in
    let n : c.count.result ≡ length (pattern_at c.args.case.now c.first_at-first.result) = c.count.ensures.0 ∙ ap length c.new.ensures in
    (copied-alone _ _ n G (λ i. omega (arith, c.type_inv.case i)) (replicate 162 0) (omega arith) c.copy_fields.ensures).1 ∙ sym (first-pattern _ _ c.first_at-first.ensures)
