-- `refusals::document::records_kept` meets its contract: the count, and each record. Assumes nothing.
use Rattle.std.proofs.Common.{rules, arith, refl, length}
use Rattle.std.proofs.lemmas.Grind.{common_steps}
use Rattle.model.specs.Questions.{document_record_kept}
use Rattle.format.proofs.ChainLaws.{all_range}
use Rattle.refusals.proofs.document.records_kept.Goals as goal

pub returns-then-between : goal.returns-then-between
returns-then-between c =
    let e = all_range (document_record_kept c.args.w.now) 0 (length c.args.w.now) _ _ refl (search rules) (λ x t q k. search rules) c.all.ensures.ran in grind (arith, common_steps)
