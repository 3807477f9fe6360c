-- An accepted list is an embedding of the pattern that the call names, so what is read is what laying out asks for. Assumes nothing.
use Prim.Native.Nat.{ℕ, ◌/◌, ◌≤◌, ◌<◌}
use mathlib.Core.Path.{◌≡◌, sym, ap, ◌∙◌, subst}
use mathlib.Core.List.{List}
use native.Mathlib.Omega.{arith}
use lib.ListN.{length, take}
use Rattle.model.specs.Limits.{max_pattern}
use Rattle.model.specs.Summary.{Summary, summary_label}
use Rattle.model.specs.Pattern.{Pattern, SummaryEmbedding}
use Rattle.model.specs.Embeddings.{image_in}
use Rattle.model.specs.Facts.{FewFigures}
use Rattle.model.specs.Bytes.{case_of, list_of, written_at_front, AreBytes}
use Rattle.model.specs.Questions.{selected}
use Rattle.model.proofs.Bytes.{front_length, front-written}
use Rattle.model.proofs.CallFacts.{LayoutFacts}
use Rattle.model.proofs.CaseFacts.{selected-facts, selected-figures}
use Rattle.model.proofs.Embeddings.{embeddings-sound}
use Rattle.model.proofs.ReadBack.{label_small}
use Rattle.format.specs.Given.{SummaryKept, PatternKept}
use Rattle.format.proofs.ListLaws.{list_count}
use Rattle.canonical.specs.Given.{embedding_in, Embedded}

-- the pattern is the model's, and the images are the list
module _ {b : List ℕ} {s : ℕ} {l : List ℕ} {k : ℕ} (f : LayoutFacts b s l k) where
  abbrev S : Summary
  S = (case_of b).summary

  abbrev P : Pattern
  P = selected (case_of b) s

  embedded : (length (list_of l) ≡ length P) × SummaryEmbedding S P (image_in (list_of l))
  embedded = embeddings-sound (selected-facts (case_of b) s f.case.facts f.number).pattern.tree f.case.facts.summary.tree f.embedding

  pub outline-kept : SummaryKept (case_of b).summary
  outline-kept = record { tree = f.case.facts.summary.tree; few = f.case.facts.summary_size }

  selected-kept : PatternKept P
  selected-kept = let m = selected-facts (case_of b) s f.case.facts f.number in record { tree = m.pattern.tree; few = m.size }

  pub list-fits : length l / 2 ≤ max_pattern
  list-fits = let n = list_count l in let e = embedded.0 in let h = selected-kept.few in omega arith

  pub list-labels : AreBytes b → (i : ℕ) → i < length (case_of b).summary → summary_label (case_of b).summary i < 65536
  list-labels small = label_small b small

  -- what is read as a figure is small
  pub list-figures : FewFigures (selected (case_of b) s)
  list-figures = selected-figures (case_of b) s f.case.facts f.number

  module _ {images : List ℕ} (images₀ : List ℕ) (room : max_pattern ≤ length images₀) (read : images ≡ written_at_front (list_of l) images₀) where
    -- as many of the images as the pattern has nodes are the list
    pub list-back : embedding_in (selected (case_of b) s) images ≡ list_of l
    list-back = ap (take (length P)) read ∙ ap (λ (n : ℕ). take n (written_at_front (list_of l) images₀)) (sym embedded.0) ∙ front-written (list_of l) images₀

    pub list-embedded : Embedded (case_of b).summary (selected (case_of b) s) images
    list-embedded =
        let n = embedded.0 in
        let few = selected-kept.few in
        let m = ap (λ (x : List ℕ). length x) read ∙ front_length (list_of l) images₀ (omega arith) in
        record {
          summary = outline-kept;
          pattern = selected-kept;
          enough = omega arith;
          embedding = subst (λ (es : List ℕ). SummaryEmbedding S P (image_in es)) (sym list-back) embedded.1;
        }
