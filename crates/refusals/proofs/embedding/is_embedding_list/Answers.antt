-- `refusals::embedding::is_embedding_list` meets its contract: the count is tested first, and then each image. Assumes nothing.
use Rattle.std.proofs.Common.{arith, length, ap, ◌∙◌}
use Rattle.model.specs.Pattern.{Pattern}
use Rattle.std.proofs.lemmas.Grind.{common_steps}
use Rattle.refusals.proofs.EmbeddingLaws.{images_given, embedding_asked, kept_by_images}
use Rattle.refusals.proofs.embedding.is_embedding_list.Goals as goal

pub returns-then-l-ne0 : goal.returns-then-l-ne0
returns-then-l-ne0 c = embedding_asked _ _ _ c.requires.case_facts c.requires.number_given _ (grind (arith, common_steps))

pub returns-then-l-count : goal.returns-then-l-count
returns-then-l-count c = embedding_asked _ _ _ c.requires.case_facts c.requires.number_given _ (grind (arith, common_steps))

pub invariant_of-images : goal.invariant_of-images
invariant_of-images c =
    record {
      given =
          rw (c.summary-summary.ensures, c.numbered-pattern.ensures)
          (images_given _ _ _ c.requires.case_facts c.requires.number_given (c.if-l-count.false ∙ c.count.ensures.0 ∙ ap (λ (P : Pattern). length P) c.numbered-pattern.ensures));
    }

pub returns : goal.returns
returns c =
    kept_by_images _ _ _ c.requires.case_facts c.requires.number_given _ _ _ c.summary-summary.ensures c.numbered-pattern.ensures c.if-l-ne0.false
    (c.if-l-count.false ∙ c.count.ensures.0 ∙ ap (λ (P : Pattern). length P) c.numbered-pattern.ensures) c.are_kept.ensures
