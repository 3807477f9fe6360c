-- What an accepted call's bytes hold: the summary, the pattern that the number gives, and the document, as their readers ask for them.
-- Assumes nothing.
use Prim.Native.Nat.{ℕ}
use mathlib.Core.Path.{◌≡◌}
use mathlib.Core.Bool.{true}
use mathlib.Core.List.{List}
use Rattle.model.specs.Bytes.{case_of, document_of}
use Rattle.model.specs.Facts.{PatternFacts, AcceptedCase, DocumentFacts}
use Rattle.model.specs.Questions.{pattern_given, selected}
use Rattle.model.proofs.CaseFacts.{selected-facts}
use Rattle.format.specs.Given.{SummaryKept, PatternKept, DocumentKept}
use Rattle.format.proofs.GivenLaws.{kept-summary, kept-document}

module _ {b : List ℕ} (A : AcceptedCase b) where
  pub summary-kept : SummaryKept (case_of b).summary
  summary-kept = kept-summary A

  module _ (s : ℕ) (g : pattern_given (case_of b) s ≡ true) where
    pub pattern-facts : PatternFacts (selected (case_of b) s)
    pattern-facts = (selected-facts (case_of b) s A.facts g).pattern

    pub pattern-kept : PatternKept (selected (case_of b) s)
    pattern-kept = record { tree = pattern-facts.tree; few = (selected-facts (case_of b) s A.facts g).size }

pub document-kept : {w : List ℕ} → DocumentFacts w → DocumentKept (document_of w)
document-kept = kept-document
