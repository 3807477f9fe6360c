-- From the verdict call to the text: what the call promises says that the answer buffer of "not included" can be read, that the text of
-- the answer is the one printed, and that it is small. Assumes nothing.
use Prim.Native.Nat.{ℕ, ◌≤◌}
use mathlib.Core.Path.{◌≡◌, refl, sym, ap, ◌∙◌, subst}
use mathlib.Core.List.{List}
use native.Mathlib.Omega.{arith}
use lib.ListN.{length}
use Rattle.std.specs.Prelude.{Result, Ok, Err}
use Rattle.model.specs.Limits.{max_limit, min_buffer, document_width, max_position, max_text}
use Rattle.model.specs.Tree.{Document}
use Rattle.model.specs.Pattern.{Result as PatternResult}
use Rattle.model.specs.Bytes.{case_of, shown_section, WholeSection, AreBytes}
use Rattle.model.specs.Questions.{fits_refusal, verdict_refusal}
use Rattle.model.specs.Calls.{TestAnswer, yes_answer, fits_call}
use Rattle.model.specs.Facts.{CaseFacts}
use Rattle.model.specs.Demands.{VerdictAnswered}
use Rattle.model.specs.Text.{program_caller, printed}
use Rattle.model.proofs.Calls.{by_number, fits_refused}
use Rattle.model.proofs.CallFacts.{accepted-fits, accepted-verdict}
use Rattle.model.proofs.ReadBack.{result_count}
use Rattle.model.proofs.Printed.{accepted-kind, prints-included, prints-stopped, prints-shown, prints-refused, printed-small}
use Rattle.format.proofs.GivenLaws.{whole-document}
use Rattle.deciding.specs.Outcome.{outcome_of}
use Rattle.questions.specs.declared.refusal.Refusal.{Refusal}
use Rattle.containment.specs.declared.Containment.{Containment}
use Rattle.containment.specs.declared.Containment.TheVariants.{Contained, NotContained, Stopped}
use Rattle.text.specs.Put.{Room, Put, Printed}
use Rattle.text.specs.declared.page.Page.{Page}
use Rattle.printing.specs.Shown.{ShownWhole, told_text, Tellable}
use Rattle.text.proofs.PutLaws.{room-same, put_same, put-printed}

-- ---- what is shown is there

-- Fits accepts the section, so it is whole
section-whole : (b w : List ℕ) → fits_call b w ≡ yes_answer → WholeSection document_width w 0
section-whole b w e =
    by_number (fits_refusal b w) (λ z. whole-document w (accepted-fits b w z).document.whole)
    (λ f. absurd (f (sym (ap (λ (a : TestAnswer). a.refused) (fits_refused b w f)) ∙ ap (λ (a : TestAnswer). a.refused) e)))

-- a result of the first pattern has few nodes
result-few : (b : List ℕ) → CaseFacts (case_of b) → {W : Document} {r : List ℕ} → PatternResult (case_of b).first W r → length r ≤ max_position
result-few b f k = let e = result_count k in let a = f.arity_bound in omega arith

module _ (b : List ℕ) {before after : List ℕ} (size : length before ≡ min_buffer) (long : length after ≡ min_buffer) where
  shown-whole : {tried : ℕ} → VerdictAnswered b max_limit program_caller 0 before (outcome_of 0 (Ok (NotContained tried)) after) → ShownWhole after
  shown-whole a =
      let d = a.demand3 accepted in
      let s = d.shown refl in
      let r = d.reads_back refl in
      let n = r.nodes in
      let k = r.positions in
      let few = s.small in
      let held = result-few b (accepted-verdict b max_limit program_caller 0 (length before) accepted).case.facts s.counter_example.of_first in
      record { inside = omega arith; whole = section-whole b (shown_section after) r.fits }
    where
      accepted : verdict_refusal b max_limit program_caller 0 (length before) ≡ 0
      accepted = accepted-kind b size a refl (omega arith)

  pub tellable : (answer : Result Containment Refusal) → VerdictAnswered b max_limit program_caller 0 before (outcome_of 0 answer after) → Tellable answer after
  tellable (Err n) a = tt
  tellable (Ok (Contained n)) a = tt
  tellable (Ok (NotContained n)) a = shown-whole a
  tellable (Ok (Stopped n)) a = tt

  -- its text is the one printed
  pub told-printed : (answer : Result Containment Refusal) → VerdictAnswered b max_limit program_caller 0 before (outcome_of 0 answer after) → told_text answer after ≡ printed b
  told-printed (Err n) a = sym (prints-refused b size a refl)
  told-printed (Ok (Contained n)) a = sym (prints-included b size a refl)
  told-printed (Ok (NotContained n)) a = sym (prints-shown b size a refl)
  told-printed (Ok (Stopped n)) a = sym (prints-stopped b size a refl)

  module _ (small : AreBytes b) (answer : Result Containment Refusal) (a : VerdictAnswered b max_limit program_caller 0 before (outcome_of 0 answer after)) where
    -- an empty page of an array of that size
    module _ {page : Page} (front : page.at ≡ 0) (l : length page.out.now ≡ max_text) where
      pub told-fits : Room (told_text answer after) page
      told-fits =
          let s : length (told_text answer after) ≤ max_text = subst (λ (x : List ℕ). length x ≤ max_text) (sym (told-printed answer a)) (printed-small b small) in
          record { fits = omega arith }

      pub text-printed : {page' : Page} → Put (told_text answer after) page page' → Printed (printed b) page.out.now page'.out.now page'.at
      text-printed p = put-printed front (room-same (told-printed answer a) told-fits) (put_same (told-printed answer a) p)
