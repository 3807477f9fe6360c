-- An answer, from the model's laws that give it. Assumes nothing.
use Prim.Native.Nat.{ℕ}
use mathlib.Core.Path.{◌≡◌, sym, ap, ◌∙◌}
use mathlib.Core.Bool.{Bool, true, false}
use mathlib.Core.Logic.{◌≢◌}
use Rattle.std.specs.Prelude.{Ok, Err}
use Rattle.model.specs.Calls.{TestAnswer}
use Rattle.questions.specs.Refusal.{number_of}
use Rattle.questions.specs.declared.refusal.Refusal.{Refusal}
use Rattle.questions.proofs.RefusalLaws.{number-not_zero}
use Rattle.calls.specs.Answers.{test_of}

-- a refusal holds its number and 0
pub answer-refused : (number : ℕ) {a : TestAnswer} → (number ≢ 0 → a ≡ record { refused = number; holds = 0 }) → (r : Refusal) → number_of r ≡ number → test_of (Err r) ≡ a
answer-refused number law r e = (λ i. record { refused = e i; holds = 0 }) ∙ sym (law (λ z. number-not_zero r (e ∙ z)))

-- an accepted call's answer holds what the test said
pub answer-given : (number : ℕ) {a : TestAnswer} (test : Bool) → (number ≡ 0 → a ≡ record { refused = 0; holds = elim test [ true ↦ 1 | false ↦ 0 ] })
    → 0 ≡ number → {x : Bool} → x ≡ test → test_of (Ok x) ≡ a
answer-given number test law e q = ap {B = TestAnswer} (λ (t : Bool). test_of (Ok t)) q ∙ sym (law (sym e))
