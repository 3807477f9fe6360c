-- What the call answers and leaves is the model's outcome, which keeps the demands: a refusal alters nothing, and an accepted call has
-- what striking comes to. Assumes nothing.
use Prim.Native.Nat.{ℕ, ◌+◌}
use mathlib.Core.Path.{◌≡◌, sym, ◌∙◌}
use mathlib.Core.List.{List}
use native.Mathlib.Nat.{add-zero}
use lib.ListN.{length}
use Rattle.model.specs.Bytes.{case_of, AreBytes}
use Rattle.model.specs.Questions.{minimise_refusal}
use Rattle.model.specs.Striking.{refused_strike, minimise_accepted}
use Rattle.model.specs.Demands.{MinimiseAnswered}
use Rattle.model.proofs.Calls.{minimise-refused, minimise-accepted}
use Rattle.model.proofs.Demands.{minimise-answered}
use Rattle.std.specs.Prelude.{Ok, Err}
use Rattle.questions.specs.Refusal.{number_of}
use Rattle.questions.specs.declared.refusal.Refusal.{Refusal}
use Rattle.questions.proofs.RefusalLaws.{number-not_zero}
use Rattle.striking.specs.Outcome.{outcome_of, Told}
use Rattle.striking.specs.declared.Minimised.{Minimised}

module _ (b : List ℕ) (small : AreBytes b) (L caller tally : ℕ) (buffer : List ℕ) where
  pub answered-refused : (r : Refusal) → number_of r ≡ minimise_refusal b L caller tally (length buffer) → MinimiseAnswered b L caller tally buffer (outcome_of tally (Err r) buffer)
  answered-refused r e =
      minimise-answered b small L caller tally buffer
      ((λ i. record { answer = refused_strike (e i); buffer = buffer; tally = add-zero tally i }) ∙ sym (minimise-refused b L caller tally buffer (λ z. number-not_zero r (e ∙ z))))

  pub answered-accepted : minimise_refusal b L caller tally (length buffer) ≡ 0 → {after : List ℕ} {m : Minimised} → Told (case_of b) L buffer after m
      → MinimiseAnswered b L caller tally buffer (outcome_of tally (Ok m) after)
  unfolding minimise_accepted
  answered-accepted z t =
      minimise-answered b small L caller tally buffer
      ((λ i. record { answer = record { refused = 0; struck = t.struck i; tried = t.tried i }; buffer = t.buffer i; tally = tally + t.tried i })
      ∙ sym (minimise-accepted b L caller tally buffer z))
