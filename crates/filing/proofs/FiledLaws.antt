-- What is told of a call's answer is what the program writes: a refusal's line where a question refuses, which leaves the array as it was,
-- and else the bytes that the call wrote. Assumes nothing.
use Prim.Native.Nat.{ℕ, ◌≤◌, ◌<◌}
use mathlib.Core.Path.{◌≡◌, refl, sym, ap, ◌∙◌, subst}
use mathlib.Core.List.{List}
use native.Mathlib.Omega.{arith}
use lib.ListN.{length}
use Rattle.std.specs.Prelude.{Result, Ok, Err}
use Rattle.model.specs.Limits.{min_buffer}
use Rattle.model.specs.Calls.{CountOutcome}
use Rattle.model.specs.Moving.{upgrade_refusal, downgrade_refusal, upgraded, downgraded, moved_accepted}
use Rattle.model.specs.Normal.{normalise_refusal, normalised}
use Rattle.model.specs.Text as model
use Rattle.model.specs.Demands as demands
use Rattle.model.proofs.Calls.{by_number}
use Rattle.model.proofs.Moving.{moved-accepted}
use Rattle.model.proofs.Text.{refused-short, told-refused, told-accepted}
use Rattle.questions.specs.Refusal.{number_of}
use Rattle.questions.specs.declared.refusal.Refusal.{Refusal}
use Rattle.questions.specs.declared.refusal.Refusal.TheVariants.{Limit, Room as Room', Bytes, Counts, SummaryRecords, Siblings, PatternRecords, Positions, Tally, Document, ResultList, PatternNumber, Embedding, SetCount, OldForm, Caller, Figure}
use Rattle.questions.proofs.RefusalLaws.{number-not_zero}
use Rattle.text.specs.Put.{Room, Put}
use Rattle.text.specs.Told.{Filed, stream_of, count_of}
use Rattle.text.specs.declared.page.Page.{Page}
use Rattle.text.proofs.PutLaws.{put_front}
use Rattle.moving.specs.Answers.{moved_of}
use Rattle.filing.specs.Filed.{Answered}

-- ---- the line of a refusal

number-small : (r : Refusal) → number_of r < 100
number-small Limit = omega arith
number-small Room' = omega arith
number-small Bytes = omega arith
number-small Counts = omega arith
number-small SummaryRecords = omega arith
number-small Siblings = omega arith
number-small PatternRecords = omega arith
number-small Positions = omega arith
number-small Tally = omega arith
number-small Document = omega arith
number-small ResultList = omega arith
number-small PatternNumber = omega arith
number-small Embedding = omega arith
number-small SetCount = omega arith
number-small OldForm = omega arith
number-small Caller = omega arith
number-small Figure = omega arith

pub line-room : (r : Refusal) {n : ℕ} {page : Page} → n ≡ number_of r → page.at ≡ 0 → 11 ≤ length page.out.now → Room (model.refused_text n) page
line-room r {n} e z l = record { fits = omega (arith, refused-short n (omega (arith, e, number-small r))) }

pub line-filed : (n : ℕ) {before after : Page} → before.at ≡ 0 → Put (model.refused_text n) before after
    → Filed (record { stream = 2; bytes = model.refused_text n }) before.out.now after.out.now (Err after.at)
line-filed n z p = record { stream = refl; counted = omega (arith, p.ends); bytes = put_front z p }

-- ---- from a call's answer to what is written

module _ (refusal : ℕ → ℕ) (written : List ℕ) {before : List ℕ} (long : length before ≡ min_buffer) {after : List ℕ} {r : Result ℕ ℕ} where
  told : Filed (model.told (refusal (length before)) written) before after r → Filed (model.told (refusal min_buffer) written) before after r
  told h = subst (λ (n : ℕ). Filed (model.told (refusal n) written) before after r) long h

  -- a call that was lent 8,192 bytes and left `mid`
  filed : (Kept : CountOutcome → Type 0) (mid : List ℕ) (answer : Result ℕ Refusal) → demands.MoveAnswered (refusal (length before)) written Kept before (moved_of answer mid) → Answered answer mid after r
      → Filed (model.told (refusal min_buffer) written) before after r
  unfolding moved_accepted
  filed Kept mid (Ok n) a h =
      by_number (refusal (length before))
      (λ z.
      let o = a.outcome ∙ moved-accepted (refusal (length before)) written before z in
      told (subst (λ (t : model.Told). Filed t before after r) (sym (told-accepted (refusal (length before)) written z)) (record {
        stream = ap stream_of h.0;
        counted = ap count_of h.0 ∙ ap (λ (x : CountOutcome). x.answer.count) o;
        bytes = h.1 ∙ ap (λ (x : CountOutcome). x.buffer) o;
      })))
      (λ f. absurd (f (sym (ap (λ (x : CountOutcome). x.answer.refused) (a.demand1 f)))))
  filed Kept mid (Err refused) a h =
      by_number (refusal (length before))
      (λ z. absurd (number-not_zero refused (ap (λ (x : CountOutcome). x.answer.refused) (a.outcome ∙ moved-accepted (refusal (length before)) written before z))))
      (λ f.
      let o = a.demand1 f in
      told (subst (λ (t : model.Told). Filed t before after r) (sym (told-refused (refusal (length before)) written f))
      (subst (λ (x : List ℕ). Filed (record { stream = 2; bytes = model.refused_text (refusal (length before)) }) x after r) (ap (λ (x : CountOutcome). x.buffer) o)
      (subst (λ (n : ℕ). Filed (record { stream = 2; bytes = model.refused_text n }) mid after r) (ap (λ (x : CountOutcome). x.answer.refused) o) h))))

-- ---- the three calls

module _ (b : List ℕ) {before : List ℕ} (long : length before ≡ min_buffer) (answer : Result ℕ Refusal) {mid after : List ℕ} {r : Result ℕ ℕ} where
  pub upgrade-filed : demands.UpgradeAnswered b before (moved_of answer mid) → Answered answer mid after r → Filed (model.upgrade_told b) before after r
  unfolding model.upgrade_told
  upgrade-filed a = filed (upgrade_refusal b) (upgraded b) long _ _ answer a

  pub downgrade-filed : demands.DowngradeAnswered b before (moved_of answer mid) → Answered answer mid after r → Filed (model.downgrade_told b) before after r
  unfolding model.downgrade_told
  downgrade-filed a = filed (downgrade_refusal b) (downgraded b) long _ _ answer a

  pub normalise-filed : demands.NormaliseAnswered b before (moved_of answer mid) → Answered answer mid after r → Filed (model.normalise_told b) before after r
  unfolding model.normalise_told
  normalise-filed a = filed (normalise_refusal b) (normalised b) long _ _ answer a

-- ---- the stream's number is a small one

module _ (b : List ℕ) {before after : List ℕ} where
  pub upgrade-stream : (r : Result ℕ ℕ) → Filed (model.upgrade_told b) before after r → stream_of r ≤ 2
  upgrade-stream (Ok n) h = omega arith
  upgrade-stream (Err n) h = omega arith
