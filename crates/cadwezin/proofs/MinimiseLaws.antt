-- From what the call promises of one caller's tally by value to the eight: that tally raised by the answer's tried, which fits, and the
-- others as they were. Assumes nothing.
use Prim.Native.Nat.{ℕ, ◌+◌, ◌<◌, ◌^◌}
use mathlib.Core.Path.{◌≡◌, refl, sym, ap, subst, ◌∙◌}
use mathlib.Core.List.{List}
use lib.ListN.{length, set}
use Rattle.std.specs.Prelude.{Result, Ok, Err}
use Rattle.model.specs.Limits.{callers}
use Rattle.model.specs.Questions.{minimise_refusal}
use Rattle.model.specs.Calls.{tally_of}
use Rattle.model.specs.Striking.{MinimiseOutcome}
use Rattle.model.specs.Demands.{MinimiseAnswered, TalliedMinimised}
use Rattle.model.proofs.CallFacts.{accepted-minimise}
use Rattle.model.proofs.Demands.{tallied-minimised}
use Rattle.questions.specs.declared.refusal.Refusal.{Refusal}
use Rattle.striking.specs.Outcome.{numbers_of, outcome_of}
use Rattle.striking.specs.declared.Minimised.{Minimised}
use Rattle.cadwezin.specs.Minimise.{exported_strikes}
use Rattle.cadwezin.proofs.ChargeLaws.{accepted, raised}
use Rattle.cadwezin.proofs.TallyLaws.{raised-none}
use Rattle.model.proofs.Calls.{by_number}
use native.Mathlib.Omega.{arith}

module _ {b : List ℕ} {L caller n : ℕ} {before after : List ℕ} where
  pub raised-fits : (r : Result Minimised Refusal) → MinimiseAnswered b L caller n before (outcome_of n r after) → n < 2 ^ 64 → n + (numbers_of r).tried < 2 ^ 64
  raised-fits r a h =
      by_number (minimise_refusal b L caller n (length before))
      (λ z. raised _ _ _ (accepted-minimise b L caller n (length before) z).tallied (a.demand3 z).limited)
      (λ f. let t : (numbers_of r).tried ≡ 0 = ap (λ (o : MinimiseOutcome). o.answer.tried) (a.demand1 f) in omega (arith, t, h))

  pub accepted-known : (r : Result Minimised Refusal) → MinimiseAnswered b L caller n before (outcome_of n r after) → (numbers_of r).refused ≡ 0 → caller < callers
  accepted-known r a e =
      by_number (minimise_refusal b L caller n (length before))
      (λ z. (accepted-minimise b L caller n (length before) z).known)
      (λ f. absurd (f (sym (ap (λ (o : MinimiseOutcome). o.answer.refused) (a.demand1 f)) ∙ e)))

module _ {b : List ℕ} {L caller : ℕ} {before after : List ℕ} (tallies : List ℕ) where
  module _ (m : Minimised) (a : MinimiseAnswered b L caller (tally_of tallies caller) before (outcome_of (tally_of tallies caller) (Ok m) after)) where
    none-refused : minimise_refusal b L caller (tally_of tallies caller) (length before) ≡ 0
    none-refused = accepted (minimise_refusal b L caller (tally_of tallies caller) (length before)) (λ f. ap (λ (o : MinimiseOutcome). o.answer.refused) (a.demand1 f))

    pub known : caller < callers
    known = (accepted-minimise b L caller (tally_of tallies caller) (length before) none-refused).known

    pub fits : tally_of tallies caller + m.tried < 2 ^ 64
    fits = raised _ _ _ (accepted-minimise b L caller (tally_of tallies caller) (length before) none-refused).tallied (a.demand3 none-refused).limited

  module _ (size : length tallies ≡ callers) where
    pub charged-own : (r : Result Minimised Refusal) → MinimiseAnswered b L caller (tally_of tallies caller) before (outcome_of (tally_of tallies caller) r after)
        → TalliedMinimised b L caller tallies before (exported_strikes r after (record { counts = set tallies caller (tally_of tallies caller + (numbers_of r).tried) }))
    charged-own r a = tallied-minimised b L caller tallies size before a

    pub refused-own : (r : Refusal) → MinimiseAnswered b L caller (tally_of tallies caller) before (outcome_of (tally_of tallies caller) (Err r) after)
        → TalliedMinimised b L caller tallies before (exported_strikes (Err r) after (record { counts = tallies }))
    refused-own r a =
        subst (λ (ts : List ℕ). TalliedMinimised b L caller tallies before (exported_strikes (Err r) after (record { counts = ts }))) (raised-none tallies caller 0 refl)
        (tallied-minimised b L caller tallies size before a)
