-- `deciding::accepted` meets its contract: an accepted case has what the verdict asks for; included and stopped show nothing, and not
-- included leaves an embedding in the images, which is then shown. Assumes nothing.
use Rattle.std.proofs.Common.{ℕ, ◌∙◌, ◌≡◌, refl, arith, replicate}
use Rattle.std.proofs.Math.ListN.{length-replicate}
use Rattle.deciding.proofs.VerdictLaws.{case-kept, told-nothing, showable, told-shown}
use Rattle.deciding.proofs.accepted.Goals as goal

pub verdict-r-requires-clause-case_given : goal.verdict-r-requires-clause-case_given
verdict-r-requires-clause-case_given c =
    let outline : c.new-rows.result ≡ c.args.case.now.summary = c.new-rows.ensures ∙ c.new.ensures ∙ c.summary.ensures in
    rw (outline, c.first-first.ensures, c.set.ensures) (case-kept c.requires.0, c.requires.2)

pub returns-in_default : goal.returns-in_default
returns-in_default c =
    let outline : c.new-rows.result ≡ c.args.case.now.summary = c.new-rows.ensures ∙ c.new.ensures ∙ c.summary.ensures in
    told-nothing _ (rw (outline, c.first-first.ensures, c.set.ensures) at c.verdict-r.ensures.answer) c.in_default.not-NotContained

pub show-requires-clause-showable : goal.show-requires-clause-showable
show-requires-clause-showable c =
    let outline : c.new-rows.result ≡ c.args.case.now.summary = c.new-rows.ensures ∙ c.new.ensures ∙ c.summary.ensures in
    rw (c.outline.ensures, outline, c.first-first.ensures)
    (showable c.requires.0 c.args.limit (replicate 16 0) (rw (outline, c.first-first.ensures, c.set.ensures) at c.in-NotContained.ensures.answer) refl
    (rw (outline, c.first-first.ensures, c.set.ensures) at c.in-NotContained.ensures.table) (rw c.first-first.ensures at c.arity.ensures.0)
    (omega (arith, c.verdict-r.auto.images, length-replicate {A = ℕ} 16 0)))

pub returns : goal.returns
returns c =
    let outline : c.new-rows.result ≡ c.args.case.now.summary = c.new-rows.ensures ∙ c.new.ensures ∙ c.summary.ensures in
    told-shown c.requires.0 c.args.limit (replicate 16 0) (rw (outline, c.first-first.ensures, c.set.ensures) at c.in-NotContained.ensures.answer) refl
    (rw (outline, c.first-first.ensures, c.set.ensures) at c.in-NotContained.ensures.table) (rw (c.outline.ensures, outline, c.first-first.ensures) at c.show.ensures)
