-- What the call answers and leaves is the model's outcome, which keeps the demands: a refusal alters nothing, and an accepted call has
-- its verdict. Assumes nothing.
use Prim.Native.Nat.{ℕ, ◌+◌}
use mathlib.Core.Path.{◌≡◌, refl, sym, ap, ◌∙◌}
use mathlib.Core.List.{List}
use native.Mathlib.Nat.{add-zero}
use lib.ListN.{length}
use Rattle.model.specs.Verdict.{Verdict, included, not_included, stopped, tried_of}
use Rattle.model.specs.Bytes.{case_of, AreBytes}
use Rattle.model.specs.Questions.{verdict_refusal}
use Rattle.model.specs.Calls.{refused_answer, kind_of, verdict_accepted}
use Rattle.model.specs.Demands.{VerdictAnswered}
use Rattle.model.proofs.Calls.{verdict-refused, verdict-accepted}
use Rattle.model.proofs.Demands.{verdict-answered}
use Rattle.containment.specs.Answer.{answer_of, verdict_of}
use Rattle.containment.specs.declared.Containment.{Containment}
use Rattle.deciding.specs.Told.{Told}
use Rattle.deciding.specs.Outcome.{verdict_values, values_of, outcome_of}
use Rattle.questions.specs.Refusal.{number_of}
use Rattle.questions.specs.declared.refusal.Refusal.{Refusal}
use Rattle.questions.proofs.RefusalLaws.{number-not_zero}
use Rattle.std.specs.Prelude.{Ok, Err}

-- the answer has the values of the verdict
same-values : (v : Verdict) → values_of (Ok (answer_of v)) ≡ record { refused = 0; kind = kind_of v; tried = tried_of v }
unfolding kind_of tried_of
same-values (included n) = refl
same-values (not_included n es) = refl
same-values (stopped n) = refl

module _ (b : List ℕ) (small : AreBytes b) (L caller tally : ℕ) (buffer : List ℕ) where
  pub answered-refused : (r : Refusal) → number_of r ≡ verdict_refusal b L caller tally (length buffer) → VerdictAnswered b L caller tally buffer (outcome_of tally (Err r) buffer)
  answered-refused r e =
      verdict-answered b small L caller tally buffer
      ((λ i. record { answer = refused_answer (e i); buffer = buffer; tally = add-zero tally i }) ∙ sym (verdict-refused b L caller tally buffer (λ z. number-not_zero r (e ∙ z))))

  pub answered-accepted : verdict_refusal b L caller tally (length buffer) ≡ 0 → {after : List ℕ} {r : Containment} → Told (case_of b) L buffer after r
      → VerdictAnswered b L caller tally buffer (outcome_of tally (Ok r) after)
  unfolding verdict_accepted
  answered-accepted z {after} {r} t =
      let v : Verdict = verdict_of (case_of b) L in
      let p : verdict_values r ≡ record { refused = 0; kind = kind_of v; tried = tried_of v } = ap verdict_values t.verdict ∙ same-values v in
      verdict-answered b small L caller tally buffer
      ((λ i. record { answer = p i; buffer = t.buffer i; tally = tally + (p i).tried }) ∙ sym (verdict-accepted b L caller tally buffer z))
