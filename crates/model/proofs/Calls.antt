-- Calls: a refusal holds its number and zero in every other field and alters nothing; a call that no question refuses has the
-- accepted outcome, which keeps the length of what it was lent, since what it writes fits. Assumes nothing.
use Prim.Native.Nat.{ℕ, zero, suc, ◌*◌, ◌≤◌}
use mathlib.Core.Path.{◌≡◌, refl, ap, ◌∙◌}
use mathlib.Core.Bool.{Bool, true, false}
use mathlib.Core.Logic.{◌≢◌}
use mathlib.Core.List.{List, ◌∷◌}
use native.Mathlib.Omega.{arith}
use lib.Dec.{eqb}
use lib.ListN.{length, replicate}
use borrow.Author.Tests.{eq-eqb, ne_eqb}
use Rattle.model.specs.Limits.{min_buffer, max_pattern}
use Rattle.model.specs.Embeddings.{is_result, nodes_at}
use Rattle.model.specs.Fitting.{fits}
use Rattle.model.specs.Verdict.{verdict}
use Rattle.model.specs.Bytes.{case_of, document_of, list_of, encode_counted}
use Rattle.model.specs.Questions.{selected, verdict_refusal, minimise_refusal, fits_refusal, result_refusal, nodes_refusal, paths_refusal, layout_refusal}
use Rattle.model.specs.Calls.{VerdictOutcome, shown, verdict_accepted, verdict_refused, verdict_call, TestAnswer, test_answer, fits_call, result_call, nodes_accepted, count_refused, nodes_call, paths_accepted, paths_refused, paths_call, LaidRecord, layout_accepted, layout_refused, layout_call}
use Rattle.model.specs.Striking.{refused_strike, minimise_accepted, minimise_refused, minimise_call}
use Rattle.model.proofs.Bytes.{length-bytes, front_length}
use Rattle.model.proofs.CallFacts.{accepted-verdict}

-- ---- the choice by the refusal's number

module _ {A : Type 0} (number : ℕ) (accepted refused : A) where
  pub chosen-accepted : number ≡ 0 → (elim (eqb number 0) as (λ _. A) [ true ↦ accepted | false ↦ refused ]) ≡ accepted
  chosen-accepted e = ap (λ (t : Bool). elim t as (λ _. A) [ true ↦ accepted | false ↦ refused ]) (eq-eqb number 0 e)

  pub chosen-refused : number ≢ 0 → (elim (eqb number 0) as (λ _. A) [ true ↦ accepted | false ↦ refused ]) ≡ refused
  chosen-refused f = ap (λ (t : Bool). elim t as (λ _. A) [ true ↦ accepted | false ↦ refused ]) (ne_eqb number 0 f)

-- what holds of an acceptance and of a refusal holds
pub by_number : {X : Type 0} (number : ℕ) → (number ≡ 0 → X) → (number ≢ 0 → X) → X
by_number zero a r = a refl
by_number (suc n) a r = r (omega arith)

-- ---- the verdict

module _ (b : List ℕ) (L caller tally : ℕ) (buffer : List ℕ) where
  pub verdict-refused : verdict_refusal b L caller tally (length buffer) ≢ 0
      → verdict_call b L caller tally buffer
      ≡ record { answer = record { refused = verdict_refusal b L caller tally (length buffer); kind = 0; tried = 0 }; buffer = buffer; tally = tally }
  unfolding verdict_call verdict_refused
  verdict-refused f =
      let number : ℕ = verdict_refusal b L caller tally (length buffer) in
      chosen-refused number (verdict_accepted (case_of b) L tally buffer) (verdict_refused number tally buffer) f

  pub verdict-accepted : verdict_refusal b L caller tally (length buffer) ≡ 0 → verdict_call b L caller tally buffer ≡ verdict_accepted (case_of b) L tally buffer
  unfolding verdict_call
  verdict-accepted e =
      let number : ℕ = verdict_refusal b L caller tally (length buffer) in
      chosen-accepted number (verdict_accepted (case_of b) L tally buffer) (verdict_refused number tally buffer) e

-- ---- striking out

module _ (b : List ℕ) (L caller tally : ℕ) (buffer : List ℕ) where
  pub minimise-refused : minimise_refusal b L caller tally (length buffer) ≢ 0
      → minimise_call b L caller tally buffer ≡ record { answer = refused_strike (minimise_refusal b L caller tally (length buffer)); buffer = buffer; tally = tally }
  unfolding minimise_call minimise_refused
  minimise-refused f =
      let number : ℕ = minimise_refusal b L caller tally (length buffer) in
      chosen-refused number (minimise_accepted (case_of b) L tally buffer) (minimise_refused number tally buffer) f

  pub minimise-accepted : minimise_refusal b L caller tally (length buffer) ≡ 0 → minimise_call b L caller tally buffer ≡ minimise_accepted (case_of b) L tally buffer
  unfolding minimise_call
  minimise-accepted e =
      let number : ℕ = minimise_refusal b L caller tally (length buffer) in
      chosen-accepted number (minimise_accepted (case_of b) L tally buffer) (minimise_refused number tally buffer) e

-- ---- fits, and is it a result

test-refused : (number : ℕ) (test : Bool) → number ≢ 0 → test_answer number test ≡ record { refused = number; holds = 0 }
unfolding test_answer
test-refused number test f = chosen-refused {A = TestAnswer} number (record { refused = 0; holds = elim test [ true ↦ 1 | false ↦ 0 ] }) (record { refused = number; holds = 0 }) f

test-accepted : (number : ℕ) (test : Bool) → number ≡ 0 → test_answer number test ≡ record { refused = 0; holds = elim test [ true ↦ 1 | false ↦ 0 ] }
unfolding test_answer
test-accepted number test e = chosen-accepted {A = TestAnswer} number (record { refused = 0; holds = elim test [ true ↦ 1 | false ↦ 0 ] }) (record { refused = number; holds = 0 }) e

pub fits_refused : (b w : List ℕ) → fits_refusal b w ≢ 0 → fits_call b w ≡ record { refused = fits_refusal b w; holds = 0 }
unfolding fits_call
fits_refused b w f = test-refused (fits_refusal b w) (fits (case_of b).summary (document_of w)) f

pub fits-accepted : (b w : List ℕ) → fits_refusal b w ≡ 0 → fits_call b w ≡ record { refused = 0; holds = elim (fits (case_of b).summary (document_of w)) [ true ↦ 1 | false ↦ 0 ] }
unfolding fits_call
fits-accepted b w e = test-accepted (fits_refusal b w) (fits (case_of b).summary (document_of w)) e

pub result-refused : (b : List ℕ) (s : ℕ) (w r : List ℕ) → result_refusal b s w r ≢ 0 → result_call b s w r ≡ record { refused = result_refusal b s w r; holds = 0 }
unfolding result_call
result-refused b s w r f = test-refused (result_refusal b s w r) (is_result (selected (case_of b) s) (document_of w) (list_of r)) f

pub result-accepted : (b : List ℕ) (s : ℕ) (w r : List ℕ) → result_refusal b s w r ≡ 0
    → result_call b s w r ≡ record { refused = 0; holds = elim (is_result (selected (case_of b) s) (document_of w) (list_of r)) [ true ↦ 1 | false ↦ 0 ] }
unfolding result_call
result-accepted b s w r e = test-accepted (result_refusal b s w r) (is_result (selected (case_of b) s) (document_of w) (list_of r)) e

-- ---- nodes at a position

module _ (b : List ℕ) (s : ℕ) (w : List ℕ) (p : ℕ) (buffer : List ℕ) where
  pub nodes-refused : nodes_refusal b s w p (length buffer) ≢ 0
      → nodes_call b s w p buffer ≡ record { answer = record { refused = nodes_refusal b s w p (length buffer); count = 0 }; buffer = buffer }
  unfolding nodes_call count_refused
  nodes-refused f =
      let number : ℕ = nodes_refusal b s w p (length buffer) in
      chosen-refused number (nodes_accepted (nodes_at (selected (case_of b) s) (document_of w) p) buffer) (count_refused number buffer) f

  pub nodes-accepted : nodes_refusal b s w p (length buffer) ≡ 0
      → nodes_call b s w p buffer ≡ nodes_accepted (nodes_at (selected (case_of b) s) (document_of w) p) buffer
  unfolding nodes_call
  nodes-accepted e =
      let number : ℕ = nodes_refusal b s w p (length buffer) in
      chosen-accepted number (nodes_accepted (nodes_at (selected (case_of b) s) (document_of w) p) buffer) (count_refused number buffer) e

-- ---- paths of each node

module _ (b : List ℕ) (s : ℕ) where
  pub paths-refused : paths_refusal b s ≢ 0
      → paths_call b s ≡ record { refused = paths_refusal b s; masks = replicate max_pattern 0; counts = replicate max_pattern 0 }
  unfolding paths_call paths_refused
  paths-refused f = chosen-refused (paths_refusal b s) (paths_accepted (case_of b).summary (selected (case_of b) s)) (paths_refused (paths_refusal b s)) f

  pub paths-accepted : paths_refusal b s ≡ 0 → paths_call b s ≡ paths_accepted (case_of b).summary (selected (case_of b) s)
  unfolding paths_call
  paths-accepted e = chosen-accepted (paths_refusal b s) (paths_accepted (case_of b).summary (selected (case_of b) s)) (paths_refused (paths_refusal b s)) e

-- ---- lay out a trial

module _ (b : List ℕ) (s : ℕ) (l : List ℕ) (table : List LaidRecord) where
  pub layout-refused : layout_refusal b s l (length table) ≢ 0
      → layout_call b s l table ≡ record { answer = record { refused = layout_refusal b s l (length table); count = 0 }; table = table }
  unfolding layout_call layout_refused
  layout-refused f =
      let number : ℕ = layout_refusal b s l (length table) in
      chosen-refused number (layout_accepted (case_of b).summary (selected (case_of b) s) (list_of l) table) (layout_refused number table) f

  pub layout-accepted : layout_refusal b s l (length table) ≡ 0
      → layout_call b s l table ≡ layout_accepted (case_of b).summary (selected (case_of b) s) (list_of l) table
  unfolding layout_call
  layout-accepted e =
      let number : ℕ = layout_refusal b s l (length table) in
      chosen-accepted number (layout_accepted (case_of b).summary (selected (case_of b) s) (list_of l) table) (layout_refused number table) e

-- ---- what is lent keeps its length

-- the verdict's answer buffer, where what is shown fits 4,096 bytes
pub verdict-length : (b : List ℕ) (L caller tally : ℕ) (buffer : List ℕ)
    → (verdict_refusal b L caller tally (length buffer) ≡ 0
    → length (shown (case_of b).summary (case_of b).first (verdict (case_of b).summary (case_of b).first (case_of b).members L)) ≤ min_buffer)
    → length (verdict_call b L caller tally buffer).buffer ≡ length buffer
unfolding verdict_accepted
verdict-length b L caller tally buffer fit =
    by_number (verdict_refusal b L caller tally (length buffer))
    (λ e.
    let large : min_buffer ≤ length buffer = (accepted-verdict b L caller tally (length buffer) e).buffer in
    let small = fit e in
    ap (λ (o : VerdictOutcome). length o.buffer) (verdict-accepted b L caller tally buffer e)
    ∙ front_length (shown (case_of b).summary (case_of b).first (verdict (case_of b).summary (case_of b).first (case_of b).members L)) buffer (omega arith))
    (λ f. ap (λ (o : VerdictOutcome). length o.buffer) (verdict-refused b L caller tally buffer f))

pub length-counted : (ns : List ℕ) → length (encode_counted ns) ≡ 2 * suc (length ns)
unfolding encode_counted
length-counted ns = length-bytes (length ns ∷ ns)
