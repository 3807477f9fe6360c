-- What a call that strikes answers and leaves is what is printed: what it writes reads back, and a refusal leaves its number. The text is
-- small enough, since a selection has few nodes and its labels are fields of the case. Assumes nothing.
use Prim.Native.Nat.{ℕ, ◌*◌, ◌≤◌}
use mathlib.Core.Path.{◌≡◌, refl, sym, ap, ◌∙◌, subst}
use mathlib.Core.Logic.{◌≢◌}
use mathlib.Core.List.{List}
use lib.ListN.{length, replicate, length-replicate}
use Rattle.model.specs.Limits.{max_limit, max_verdicts, min_buffer, pattern_width, max_order_text}
use Rattle.model.specs.Bytes.{pattern_record_at, section, section_end, counted_at, case_of, AreBytes}
use Rattle.model.specs.Questions.{minimise_refusal}
use Rattle.model.specs.Striking.{Struck, strike_all, MinimiseOutcome, minimise_call}
use Rattle.model.specs.Demands.{StruckTold, StruckReadsBack, MinimiseAnswered}
use Rattle.model.specs.Text.{order_text, refused_text, program_caller, order_refusal, order_printed}
use Rattle.model.proofs.Calls.{by_number}
use Rattle.model.proofs.CallFacts.{ChargedFacts, accepted-minimise}
use Rattle.model.proofs.StruckBack.{struck-orderable}
use Rattle.model.proofs.Demands.{minimise-answered}
use Rattle.model.proofs.Text.{Orderable, order-fits, order-refused, order-accepted, order-refused-small}

-- ---- from the call to the text

module _ (b : List ℕ) {before : List ℕ} (size : length before ≡ min_buffer) {o : MinimiseOutcome} (a : MinimiseAnswered b max_limit program_caller 0 before o) where
  abbrev number : ℕ
  number = minimise_refusal b max_limit program_caller 0 (length before)

  same_number : number ≡ order_refusal b
  same_number = ap (minimise_refusal b max_limit program_caller 0) size

  -- the answer tells whether a question refuses
  pub accepted-order : o.answer.refused ≡ 0 → number ≡ 0
  accepted-order e = by_number number (λ z. z) (λ f. absurd (f (sym (ap (λ (x : MinimiseOutcome). x.answer.refused) (a.demand1 f)) ∙ e)))

  refused-order : o.answer.refused ≢ 0 → number ≢ 0
  refused-order f z = f (a.demand3 z).accepted

  pub prints-refusal : o.answer.refused ≢ 0 → order_printed b ≡ refused_text o.answer.refused
  prints-refusal f =
      let n : number ≢ 0 = refused-order f in
      order-refused b (λ z. n (same_number ∙ z)) ∙ ap refused_text (sym (ap (λ (x : MinimiseOutcome). x.answer.refused) (a.demand1 n) ∙ same_number))

  -- where none does, what is written reads back and is printed
  module _ (small : AreBytes b) (e : o.answer.refused ≡ 0) where
    abbrev s : Struck
    s = strike_all (case_of b).summary max_limit (case_of b).first

    known : ChargedFacts b max_limit (max_verdicts * max_limit) program_caller 0 (length before)
    known = accepted-minimise b max_limit program_caller 0 (length before) (accepted-order e)

    told : StruckTold b max_limit 0 before o
    told = a.demand3 (accepted-order e)

    pub order-orderable : Orderable s.pattern s.struck
    order-orderable = struck-orderable b small known.asked known.case.facts max_limit

    pub order-back : StruckReadsBack o.buffer s
    order-back = told.reads_back

    by-struck : order_printed b ≡ order_text o.answer.tried s.pattern s.struck
    by-struck = order-accepted b (sym same_number ∙ accepted-order e) ∙ ap (λ (n : ℕ). order_text n s.pattern s.struck) (sym told.summed)

    pub prints-order : order_printed b
        ≡ order_text o.answer.tried (section pattern_record_at pattern_width o.buffer 0) (counted_at o.buffer (section_end pattern_width o.buffer 0))
    prints-order = by-struck ∙ sym (λ k. order_text o.answer.tried (order-back.pattern k) (order-back.struck k))

    accepted-small : length (order_printed b) ≤ max_order_text
    accepted-small = subst (λ (x : List ℕ). length x ≤ max_order_text) (sym by-struck) (order-fits o.answer.tried told.limited order-orderable)

-- the text of any bytes has at most 484 bytes
pub order_small : (b : List ℕ) → AreBytes b → length (order_printed b) ≤ max_order_text
order_small b small =
    by_number (minimise_refusal b max_limit program_caller 0 (length blank))
    (λ z. accepted-small b size call small (call.demand3 z).accepted)
    (λ f. subst (λ (x : List ℕ). length x ≤ max_order_text) (sym (order-refused b (λ z. f (ap (minimise_refusal b max_limit program_caller 0) size ∙ z)))) (order-refused-small b))
  where
    blank : List ℕ
    blank = replicate min_buffer 0

    size : length blank ≡ min_buffer
    size = length-replicate {A = ℕ} min_buffer 0

    call : MinimiseAnswered b max_limit program_caller 0 blank (minimise_call b max_limit program_caller 0 blank)
    call = minimise-answered b small max_limit program_caller 0 blank refl
