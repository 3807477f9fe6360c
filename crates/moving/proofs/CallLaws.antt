-- What each arm of the two calls returns and leaves in the buffer is the model's outcome, which keeps the demands; what is written fits
-- the buffer; and asking the set of one leads to the old form's refusal. Assumes nothing.
use Prim.Native.Nat.{ℕ, ◌≤◌}
use mathlib.Core.Path.{◌≡◌, sym, ap, ◌∙◌}
use mathlib.Core.Bool.{true}
use mathlib.Core.List.{List}
use native.Mathlib.Omega.{arith}
use lib.ListN.{length, take}
use Rattle.std.proofs.Common.{Result, Err, IsErrAnd}
use Rattle.std.proofs.lemmas.Result.{err_from_is_err_and}
use Rattle.questions.specs.declared.refusal.Refusal.{Refusal}
use Rattle.questions.specs.Refusal.{number_of}
use Rattle.moving.specs.Answers.{moved_of}
use Rattle.model.specs.Bytes.{case_of, is_whole_case, AreBytes}
use Rattle.model.specs.Questions.{buffer_large_enough, case_whole, ask, refusal, case_questions}
use Rattle.model.specs.OldForm.{old_case_of, old_whole, old_counts_in_range, old_questions}
use Rattle.model.specs.Calls.{CountOutcome}
use Rattle.model.specs.Moving.{goes_back, upgrade_refusal, downgrade_refusal, upgraded, downgraded, moved_accepted, moved_call}
use Rattle.model.specs.Demands.{MoveAnswered, UpgradeAnswered, DowngradeAnswered}
use Rattle.model.proofs.Bytes.{front-written}
use Rattle.model.proofs.Refusals.{refusal-yes}
use Rattle.model.proofs.Moving.{moved-refused, moved-accepted, accepted-upgrade, upgraded-small, upgraded-asked, upgrade-moved, accepted-downgrade, downgraded-small, downgrade-moved}
use Rattle.model.proofs.Demands.{move-answered}
use Rattle.format.proofs.WriteLaws.{Out}

-- a refusal that is passed on
pub answer-refused : (a : Result ℕ Refusal) (r : Refusal) (after : List ℕ) → IsErrAnd a (λ s. s ≡ r) → moved_of a after ≡ record { answer = record { refused = number_of r; count = 0 }; buffer = after }
answer-refused a r after h = let p = err_from_is_err_and a h in ap (λ (x : Result ℕ Refusal). moved_of x after) (p.1 ∙ ap Err p.2)

-- what a tool answers where its refusal's number is n, and what it leaves
module _ (number : ℕ) (written : List ℕ) {Kept : CountOutcome → Type 0} (buffer : List ℕ) (keeps : number ≡ 0 → Kept (moved_call number written buffer)) {n : ℕ} (e : n ≡ number) where
  answered-no : (n ≡ 0 → ⊥) → MoveAnswered number written Kept buffer (record { answer = record { refused = n; count = 0 }; buffer = buffer })
  answered-no f =
      move-answered number written buffer keeps
      ((λ i. record { answer = record { refused = e i; count = 0 }; buffer = buffer }) ∙ sym (moved-refused number written buffer (λ z. f (e ∙ z))))

  answered-yes : n ≡ 0 → {count : ℕ} {after : List ℕ} → Out written buffer after count
      → MoveAnswered number written Kept buffer (record { answer = record { refused = 0; count = count }; buffer = after })
  unfolding moved_accepted
  answered-yes z w =
      move-answered number written buffer keeps
      ((λ i. record { answer = record { refused = 0; count = w.0 i }; buffer = w.1 i }) ∙ sym (moved-accepted number written buffer (sym e ∙ z)))

module _ (b : List ℕ) (small : AreBytes b) where
  -- the set of one stands at the front of a table that held z, and is asked about
  pub asked-as-new : old_whole b ≡ true → old_counts_in_range (old_case_of b) ≡ true → (bytes : ℕ) → buffer_large_enough bytes ≡ true → {end r : ℕ} {out : List ℕ} (z : List ℕ)
      → Out (upgraded b) z out end → r ≡ refusal (case_questions (take end out)) → r ≡ upgrade_refusal b bytes
  unfolding upgrade_refusal
  asked-as-new whole counts bytes large z w e =
      e ∙ ap (λ (l : List ℕ). refusal (case_questions l)) ((λ i. take (w.0 i) (w.1 i)) ∙ front-written (upgraded b) z)
      ∙ upgraded-asked b small whole counts ∙ sym (refusal-yes (ask 2 (buffer_large_enough bytes)) (old_questions b) large)

  -- ---- old to new

  module _ (buffer : List ℕ) {n : ℕ} (e : n ≡ upgrade_refusal b (length buffer)) where
    pub upgrade-no : (n ≡ 0 → ⊥) → UpgradeAnswered b buffer (record { answer = record { refused = n; count = 0 }; buffer = buffer })
    upgrade-no = answered-no (upgrade_refusal b (length buffer)) (upgraded b) buffer (upgrade-moved b small buffer) e

    pub upgrade-fits : n ≡ 0 → (old_whole b ≡ true) × (length (upgraded b) ≤ length buffer)
    unfolding old_questions
    upgrade-fits z =
        let f = accepted-upgrade b (length buffer) (sym e ∙ z) in
        let few : length (upgraded b) ≤ 712 = upgraded-small b small f.asked.0 f.asked.1.0 in
        (f.asked.0, omega (arith, f.buffer))

    pub upgrade-yes : n ≡ 0 → {count : ℕ} {after : List ℕ} → Out (upgraded b) buffer after count
        → UpgradeAnswered b buffer (record { answer = record { refused = 0; count = count }; buffer = after })
    upgrade-yes = answered-yes (upgrade_refusal b (length buffer)) (upgraded b) buffer (upgrade-moved b small buffer) e

  -- ---- new to old

  module _ (buffer : List ℕ) {n : ℕ} (e : n ≡ downgrade_refusal b (length buffer)) where
    pub downgrade-no : (n ≡ 0 → ⊥) → DowngradeAnswered b buffer (record { answer = record { refused = n; count = 0 }; buffer = buffer })
    downgrade-no = answered-no (downgrade_refusal b (length buffer)) (downgraded b) buffer (downgrade-moved b small buffer) e

    pub downgrade-fits : n ≡ 0 → (is_whole_case b ≡ true) × ((goes_back (case_of b) ≡ true) × (length (downgraded b) ≤ length buffer))
    unfolding case_questions case_whole
    downgrade-fits z =
        let f = accepted-downgrade b (length buffer) (sym e ∙ z) in
        let few : length (downgraded b) ≤ 646 = downgraded-small b small f.asked f.one in
        (f.asked.0, (f.one, omega (arith, f.buffer)))

    pub downgrade-yes : n ≡ 0 → {count : ℕ} {after : List ℕ} → Out (downgraded b) buffer after count
        → DowngradeAnswered b buffer (record { answer = record { refused = 0; count = count }; buffer = after })
    downgrade-yes = answered-yes (downgrade_refusal b (length buffer)) (downgraded b) buffer (downgrade-moved b small buffer) e
