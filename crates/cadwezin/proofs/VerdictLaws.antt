-- From what the verdict promises of one caller's tally by value to the eight: that tally raised by the answer's tried, which fits, and the
-- others as they were. Assumes nothing.
use Prim.Native.Nat.{ℕ, ◌+◌, ◌<◌, ◌^◌}
use mathlib.Core.Path.{◌≡◌, refl, sym, ap, subst, ◌∙◌}
use mathlib.Core.List.{List}
use lib.ListN.{length, set}
use Rattle.std.specs.Prelude.{Result, Ok, Err}
use Rattle.model.specs.Limits.{callers}
use Rattle.model.specs.Questions.{verdict_refusal}
use Rattle.model.specs.Calls.{VerdictOutcome, tally_of}
use Rattle.model.specs.Demands.{VerdictAnswered, TalliedAnswered}
use Rattle.model.proofs.CallFacts.{accepted-verdict}
use Rattle.model.proofs.Demands.{tallied-answered}
use Rattle.questions.specs.declared.refusal.Refusal.{Refusal}
use Rattle.containment.specs.declared.Containment.{Containment}
use Rattle.containment.specs.declared.Containment.TheVariants.{Contained, NotContained, Stopped}
use Rattle.deciding.specs.Outcome.{verdict_values, values_of, outcome_of}
use Rattle.cadwezin.specs.Verdict.{exported_outcome}
use Rattle.cadwezin.proofs.ChargeLaws.{accepted, raised}
use Rattle.cadwezin.proofs.TallyLaws.{raised-none}
use Rattle.model.proofs.Calls.{by_number}
use native.Mathlib.Omega.{arith}

-- a verdict is no refusal
accepted-zero : (v : Containment) → (verdict_values v).refused ≡ 0
accepted-zero (Contained n) = refl
accepted-zero (NotContained n) = refl
accepted-zero (Stopped n) = refl

module _ {b : List ℕ} {L caller n : ℕ} {before after : List ℕ} where
  pub raised-fits : (r : Result Containment Refusal) → VerdictAnswered b L caller n before (outcome_of n r after) → n < 2 ^ 64 → n + (values_of r).tried < 2 ^ 64
  raised-fits r a h =
      by_number (verdict_refusal b L caller n (length before))
      (λ z. raised _ _ _ (accepted-verdict b L caller n (length before) z).tallied (a.demand3 z).limited)
      (λ f. let t : (values_of r).tried ≡ 0 = ap (λ (o : VerdictOutcome). o.answer.tried) (a.demand1 f) in omega (arith, t, h))

  pub accepted-known : (r : Result Containment Refusal) → VerdictAnswered b L caller n before (outcome_of n r after) → (values_of r).refused ≡ 0 → caller < callers
  accepted-known r a e =
      by_number (verdict_refusal b L caller n (length before))
      (λ z. (accepted-verdict b L caller n (length before) z).known)
      (λ f. absurd (f (sym (ap (λ (o : VerdictOutcome). o.answer.refused) (a.demand1 f)) ∙ e)))

module _ {b : List ℕ} {L caller : ℕ} {before after : List ℕ} (tallies : List ℕ) where
  module _ (v : Containment) (a : VerdictAnswered b L caller (tally_of tallies caller) before (outcome_of (tally_of tallies caller) (Ok v) after)) where
    none-refused : verdict_refusal b L caller (tally_of tallies caller) (length before) ≡ 0
    none-refused = accepted (verdict_refusal b L caller (tally_of tallies caller) (length before)) (λ f. sym (accepted-zero v) ∙ ap (λ (o : VerdictOutcome). o.answer.refused) (a.demand1 f))

    pub known : caller < callers
    known = (accepted-verdict b L caller (tally_of tallies caller) (length before) none-refused).known

    pub fits : tally_of tallies caller + (verdict_values v).tried < 2 ^ 64
    fits = raised _ _ _ (accepted-verdict b L caller (tally_of tallies caller) (length before) none-refused).tallied (a.demand3 none-refused).limited

  module _ (size : length tallies ≡ callers) where
    pub charged-own : (r : Result Containment Refusal) → VerdictAnswered b L caller (tally_of tallies caller) before (outcome_of (tally_of tallies caller) r after)
        → TalliedAnswered b L caller tallies before (exported_outcome r after (record { counts = set tallies caller (tally_of tallies caller + (values_of r).tried) }))
    charged-own r a = tallied-answered b L caller tallies size before a

    pub refused-own : (r : Refusal) → VerdictAnswered b L caller (tally_of tallies caller) before (outcome_of (tally_of tallies caller) (Err r) after)
        → TalliedAnswered b L caller tallies before (exported_outcome (Err r) after (record { counts = tallies }))
    refused-own r a =
        subst (λ (ts : List ℕ). TalliedAnswered b L caller tallies before (exported_outcome (Err r) after (record { counts = ts }))) (raised-none tallies caller 0 refl)
        (tallied-answered b L caller tallies size before a)
