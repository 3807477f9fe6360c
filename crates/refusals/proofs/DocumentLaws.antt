-- Questions 10 and 11 by the fields that the code reads, and the questions on a case and a document, asked before others. Assumes nothing.
use Prim.Native.Nat.{ℕ, ◌*◌, ◌/◌, ◌%◌, ◌≤◌}
use mathlib.Core.Path.{◌≡◌, sym, ap, ◌∙◌}
use mathlib.Core.Bool.{Bool, true, false, ◌&&◌}
use mathlib.Core.List.{List, ◌++◌, append_assoc}
use native.Mathlib.Omega.{arith}
use lib.Dec.{eqb, ltb}
use lib.ListN.{length}
use borrow.Author.Tests.{ne_eqb}
use Rattle.std.proofs.Common.{Result, IsErrAnd}
use Rattle.model.specs.Limits.{document_width, max_document}
use Rattle.model.specs.Lists.{up_from, all_of}
use Rattle.model.specs.Bytes.{field, section_end, WholeSection, is_whole_case, document_of, is_whole_document, list_of, is_whole_list}
use Rattle.model.specs.Questions.{between, document_record_kept, document_kept, list_in_range, Question, refusal, case_questions, document_questions, fits_refusal}
use Rattle.model.proofs.ListLaws.{and_left}
use Rattle.model.proofs.Refusals.{AllYes, accepted-all-yes, all-yes-left, all-yes-right, numbered-append, refusal-kept, refusal-none}
use Rattle.format.proofs.GivenLaws.{whole-document}
use Rattle.format.proofs.ListLaws.{list_count}
use Rattle.questions.specs.declared.refusal.Refusal.{Refusal}
use Rattle.questions.specs.Refusal.{number_of, asked}
use Rattle.questions.proofs.TestLaws.{and_assoc}
use Rattle.questions.proofs.LoopLaws.{all_map}
use Rattle.questions.proofs.RefusalLaws.{number-not_zero, passed_on, case-numbered, accepted-whole}
use Rattle.refusals.specs.Records.{records_kept}

-- ---- a document

pub no-count : (w : List ℕ) → length w ≤ 1 → false ≡ is_whole_document w
unfolding is_whole_document
no-count w h = sym (ne_eqb (length w) (2 * section_end document_width w 0) (λ e. omega arith))

-- 10 by its two parts
pub by_parts : (w : List ℕ) → (is_whole_document w && records_kept (document_of w)) ≡ document_kept w
unfolding document_kept
by_parts w = sym (and_assoc (is_whole_document w) (between 1 max_document (length (document_of w))) (all_of (document_record_kept (document_of w)) (up_from 0 (length (document_of w)))))

-- where 10 was answered yes, the section is whole
pub kept_whole : (w : List ℕ) → document_kept w ≡ true → WholeSection document_width w 0
unfolding document_kept
kept_whole w e = whole-document w (and_left _ _ (and_left _ _ e))

-- ---- the questions on a case and a document, asked before others

module _ (b w : List ℕ) where
  abbrev both : List Question
  both = case_questions b ++ document_questions w

  pub fits-no : {T : Type 0} (a : Result T Refusal) (s : Refusal) (rest : List Question) → number_of s ≡ fits_refusal b w → IsErrAnd a (λ t. t ≡ s)
      → asked a ≡ refusal (case_questions b ++ (document_questions w ++ rest))
  unfolding fits_refusal
  fits-no a s rest e p =
      passed_on a s p ∙ e ∙ sym (refusal-kept both rest (λ z. number-not_zero s (e ∙ z))) ∙ ap refusal (append_assoc (case_questions b) (document_questions w) rest)

  module _ (z : 0 ≡ fits_refusal b w) where
    all_yes : AllYes both
    unfolding fits_refusal
    all_yes = accepted-all-yes both (numbered-append (case_questions b) (document_questions w) (case-numbered b) (omega arith, (omega arith, tt))) (sym z)

    pub given-case : is_whole_case b ≡ true
    given-case = accepted-whole b (refusal-none (case_questions b) (all-yes-left (case_questions b) (document_questions w) all_yes))

    pub given-document : WholeSection document_width w 0
    given-document = kept_whole w (all-yes-right (case_questions b) (document_questions w) all_yes).0

-- ---- a list

-- 11, by the fields
pub list-asked : (k n : ℕ) (l : List ℕ) (r : Bool) → r ≡ (eqb (length l % 2) 0 && eqb (length l / 2) k && all_of (λ i. ltb (field l i) n) (up_from 0 (length l / 2)))
    → r ≡ list_in_range k n l
unfolding list_in_range is_whole_list list_of
list-asked k n l r e =
    e ∙ sym (ap (λ (m : ℕ). eqb (length l % 2) 0 && eqb m k && all_of (λ v. ltb v n) (list_of l)) (list_count l)
    ∙ ap (λ (t : Bool). eqb (length l % 2) 0 && eqb (length l / 2) k && t) (all_map (λ v. ltb v n) (field l) (up_from 0 (length l / 2))))
