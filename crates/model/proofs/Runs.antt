-- Runs of calls that name their caller. A call looks at its caller's tally alone and stores at that one place, so what a caller receives is
-- decided by its own calls; and it stores the tally plus tried, so every sum goes up by tried. The verdict and striking out are such calls.
-- Assumes nothing.
use Prim.Native.Nat.{ℕ, zero, suc, ◌+◌, ◌≤◌, ◌<◌}
use mathlib.Core.Path.{◌≡◌, refl, sym, ap, ap₂, ◌∙◌, subst}
use mathlib.Core.Bool.{true, false}
use mathlib.Core.Logic.{◌⊎◌, inl, inr, ◌≢◌}
use mathlib.Core.List.{List, [], ◌∷◌}
use native.Mathlib.Omega.{arith}
use lib.Dec.{eqb, ltb}
use lib.ListN.{length, get_or, set, length-set}
use lib.Seq.{set_out, get_or-set_same, get_or-set_other}
use borrow.Author.Tests.{eqb-true, eqb-false, ltb-true, ltb-false}
use Rattle.model.specs.Lists.{keep, total}
use Rattle.model.specs.Limits.{callers}
use Rattle.model.specs.Questions.{verdict_refusal, minimise_refusal}
use Rattle.model.specs.Calls.{Received, VerdictAnswer, VerdictOutcome, verdict_accepted, verdict_call, tally_of}
use Rattle.model.specs.Striking.{MinimiseAnswer, MinimiseOutcome, minimise_accepted, minimise_call}
use Rattle.model.specs.Runs.{Call, Receipt, given, after, receipts, tallies_after, calls_of, received_by, tried_over}
use Rattle.model.specs.Demands.{Separated, Summed}
use Rattle.model.proofs.ListLaws.{true-or-false}
use Rattle.model.proofs.KeepLaws.{keep-in, keep_out}
use Rattle.model.proofs.CallFacts.{accepted-verdict, accepted-minimise}
use Rattle.model.proofs.Calls.{by_number, verdict-accepted, verdict-refused, minimise-accepted, minimise-refused}

-- ---- the verdict, and striking out

-- a call whose answer has `tried`
abbrev pub RunOf : (Answer : Type 0) → (Answer → ℕ) → Type 0
RunOf Answer tried = Call (Received Answer) (λ (o : Received Answer). o.tally) (λ (o : Received Answer). tried o.answer)

-- a refusal leaves the tally and tries nothing, and an acceptance, of one of the eight, raises the tally by tried
abbrev joins : {Answer : Type 0} (tried : Answer → ℕ) (caller : ℕ) (number : ℕ → ℕ) (call : ℕ → Received Answer)
    → ((t : ℕ) → number t ≡ 0 → ((call t).tally ≡ t + tried (call t).answer) × (caller < callers))
    → ((t : ℕ) → (number t ≡ 0 → ⊥) → ((call t).tally ≡ t) × (tried (call t).answer ≡ 0)) → RunOf Answer tried
joins tried caller number call accepted refused =
    record {
      caller = caller;
      receives = call;
      raises = λ t. by_number (number t) (λ e. (accepted t e).0) (λ f. let k = refused t f in omega arith);
      nobody = λ h t. by_number (number t) (λ e. absurd (let k : caller < callers = (accepted t e).1 in omega arith)) (λ f. (refused t f).1);
    }

abbrev pub VerdictRun : Type 0
VerdictRun = RunOf VerdictAnswer (λ (a : VerdictAnswer). a.tried)

unfoldable pub verdict-joins : (b : List ℕ) (L caller : ℕ) (buffer : List ℕ) → VerdictRun
unfolding verdict_accepted
verdict-joins b L caller buffer =
    joins (λ (a : VerdictAnswer). a.tried) caller (λ t. verdict_refusal b L caller t (length buffer)) (λ t. verdict_call b L caller t buffer)
    (λ t e. (subst (λ (o : VerdictOutcome). o.tally ≡ t + o.answer.tried) (sym (verdict-accepted b L caller t buffer e)) refl, (accepted-verdict b L caller t (length buffer) e).known))
    (λ t f. let r = verdict-refused b L caller t buffer f in (ap (λ (o : VerdictOutcome). o.tally) r, ap (λ (o : VerdictOutcome). o.answer.tried) r))

abbrev pub MinimiseRun : Type 0
MinimiseRun = RunOf MinimiseAnswer (λ (a : MinimiseAnswer). a.tried)

unfoldable pub minimise-joins : (b : List ℕ) (L caller : ℕ) (buffer : List ℕ) → MinimiseRun
unfolding minimise_accepted
minimise-joins b L caller buffer =
    joins (λ (a : MinimiseAnswer). a.tried) caller (λ t. minimise_refusal b L caller t (length buffer)) (λ t. minimise_call b L caller t buffer)
    (λ t e. (subst (λ (o : MinimiseOutcome). o.tally ≡ t + o.answer.tried) (sym (minimise-accepted b L caller t buffer e)) refl, (accepted-minimise b L caller t (length buffer) e).known))
    (λ t f. let r = minimise-refused b L caller t buffer f in (ap (λ (o : MinimiseOutcome). o.tally) r, ap (λ (o : MinimiseOutcome). o.answer.tried) r))

-- ---- one call

total-set : (ts : List ℕ) (i n : ℕ) → i < length ts → total (set ts i (get_or ts i 0 + n)) ≡ total ts + n
total-set [] i n h = absurd (omega arith)
total-set (t ∷ ts) zero n h = omega arith
total-set (t ∷ ts) (suc i) n h = let e = total-set ts i n (omega arith) in omega arith

module _ {R : Type 0} {tally tried : R → ℕ} (ts : List ℕ) (size : length ts ≡ callers) (c : Call R tally tried) where
  abbrev old : ℕ
  old = tally_of ts c.caller

  size-after : length (after ts c) ≡ callers
  size-after = length-set ts c.caller (tally (given ts c)) ∙ size

  raised : tally (given ts c) ≡ old + tried (given ts c)
  raised = c.raises old

  -- the caller has a tally, or it is not 0 to 7: then nothing is altered and nothing tried
  place : (c.caller < length ts) ⊎ ((after ts c ≡ ts) × (tried (given ts c) ≡ 0))
  place = go (true-or-false (ltb c.caller callers))
    where
      go : (ltb c.caller callers ≡ true) ⊎ (ltb c.caller callers ≡ false) → (c.caller < length ts) ⊎ ((after ts c ≡ ts) × (tried (given ts c) ≡ 0))
      go (inl y) = inl (let h : c.caller < callers = ltb-true c.caller callers y in omega arith)
      go (inr n) = let h : callers ≤ c.caller = ltb-false c.caller callers n in inr (set_out ts c.caller (tally (given ts c)) (omega arith), c.nobody h old)

  -- the caller's own tally is raised by tried
  own-after : tally_of (after ts c) c.caller ≡ old + tried (given ts c)
  own-after = go place
    where
      go : (c.caller < length ts) ⊎ ((after ts c ≡ ts) × (tried (given ts c) ≡ 0)) → tally_of (after ts c) c.caller ≡ old + tried (given ts c)
      go (inl h) = get_or-set_same ts c.caller (tally (given ts c)) 0 h ∙ raised
      go (inr n) = ap (λ (us : List ℕ). tally_of us c.caller) n.0 ∙ omega (arith, n.1)

  other_after : (i : ℕ) → i ≢ c.caller → tally_of (after ts c) i ≡ tally_of ts i
  other_after i h = get_or-set_other ts c.caller i (tally (given ts c)) 0 h

  total-after : total (after ts c) ≡ total ts + tried (given ts c)
  total-after = go place
    where
      go : (c.caller < length ts) ⊎ ((after ts c ≡ ts) × (tried (given ts c) ≡ 0)) → total (after ts c) ≡ total ts + tried (given ts c)
      go (inl h) = ap (λ (n : ℕ). total (set ts c.caller n)) raised ∙ total-set ts c.caller (tried (given ts c)) h
      go (inr n) = ap total n.0 ∙ omega (arith, n.1)

-- ---- any run

module _ {R : Type 0} {tally tried : R → ℕ} (i : ℕ) where
  abbrev receipt : List ℕ → Call R tally tried → Receipt R
  receipt ts c = record { caller = c.caller; received = given ts c }

  -- is it one of caller i's?
  abbrev mine : Call R tally tried → Type 0
  mine c = eqb c.caller i ≡ true

  abbrev others : Call R tally tried → Type 0
  others c = eqb c.caller i ≡ false

  own-raised : (ts : List ℕ) → length ts ≡ callers → (c : Call R tally tried) → mine c → tally_of (after ts c) i ≡ tally_of ts i + tried (given ts c)
  own-raised ts k c y = subst (λ (j : ℕ). tally_of (after ts c) j ≡ tally_of ts j + tried (given ts c)) (eqb-true c.caller i y) (own-after ts k c)

  other-kept : (ts : List ℕ) → length ts ≡ callers → (c : Call R tally tried) → others c → tally_of (after ts c) i ≡ tally_of ts i
  other-kept ts k c n = other_after ts k c i (λ e. eqb-false c.caller i n (sym e))

  same-given : (ts us : List ℕ) → tally_of ts i ≡ tally_of us i → (c : Call R tally tried) → mine c → given ts c ≡ given us c
  same-given ts us e c y = ap c.receives (subst (λ (j : ℕ). tally_of ts j ≡ tally_of us j) (sym (eqb-true c.caller i y)) e)

  pub separated : (ts us : List ℕ) → length ts ≡ callers → length us ≡ callers → tally_of ts i ≡ tally_of us i → (cs : List (Call R tally tried)) → Separated i ts us cs
  unfolding receipts tallies_after keep
  separated ts us k l e [] = record { received = refl; left = e }
  separated ts us k l e (c ∷ cs) =
      go (true-or-false (eqb c.caller i)) (λ vs m q. separated (after ts c) vs (size-after ts k c) m q cs)
    where
      go : (mine c) ⊎ (others c) → ((vs : List ℕ) → length vs ≡ callers → tally_of (after ts c) i ≡ tally_of vs i → Separated i (after ts c) vs cs) → Separated i ts us (c ∷ cs)
      go (inl y) rest =
          let g : given ts c ≡ given us c = same-given ts us e c y in
          let q : tally_of (after ts c) i ≡ tally_of (after us c) i =
          own-raised ts k c y ∙ ap₂ (λ (m n : ℕ). m + n) e (ap tried g) ∙ sym (own-raised us l c y) in
          let s = rest (after us c) (size-after us l c) q in
          let kept : calls_of i (c ∷ cs) ≡ c ∷ calls_of i cs = keep-in (λ (d : Call R tally tried). eqb d.caller i) c cs y in
          record {
            received =
                keep-in (λ (r : Receipt R). eqb r.caller i) (receipt ts c) (receipts (after ts c) cs) y
                ∙ ap₂ (λ (r : R) (rs : List (Receipt R)). record { caller = c.caller; received = r } ∷ rs) g s.received
                ∙ sym (ap (receipts us) kept);
            left = s.left ∙ sym (ap (λ (ds : List (Call R tally tried)). tally_of (tallies_after us ds) i) kept);
          }
      go (inr n) rest =
          let s = rest us l (other-kept ts k c n ∙ e) in
          let kept : calls_of i (c ∷ cs) ≡ calls_of i cs = keep_out (λ (d : Call R tally tried). eqb d.caller i) c cs n in
          record {
            received =
                keep_out (λ (r : Receipt R). eqb r.caller i) (receipt ts c) (receipts (after ts c) cs) n ∙ s.received ∙ sym (ap (receipts us) kept);
            left = s.left ∙ sym (ap (λ (ds : List (Call R tally tried)). tally_of (tallies_after us ds) i) kept);
          }

  each-summed : (ts : List ℕ) → length ts ≡ callers → (cs : List (Call R tally tried)) → tally_of (tallies_after ts cs) i ≡ tally_of ts i + tried_over tried (received_by i (receipts ts cs))
  unfolding receipts tallies_after keep
  each-summed ts k [] = omega arith
  each-summed ts k (c ∷ cs) = go (true-or-false (eqb c.caller i)) (each-summed (after ts c) (size-after ts k c) cs)
    where
      go : (mine c) ⊎ (others c) → tally_of (tallies_after (after ts c) cs) i ≡ tally_of (after ts c) i + tried_over tried (received_by i (receipts (after ts c) cs))
          → tally_of (tallies_after (after ts c) cs) i ≡ tally_of ts i + tried_over tried (received_by i (receipt ts c ∷ receipts (after ts c) cs))
      go (inl y) rest =
          let q = own-raised ts k c y in
          let p : tried_over tried (received_by i (receipt ts c ∷ receipts (after ts c) cs)) ≡ tried (given ts c) + tried_over tried (received_by i (receipts (after ts c) cs)) =
          ap (tried_over tried) (keep-in (λ (r : Receipt R). eqb r.caller i) (receipt ts c) (receipts (after ts c) cs) y) in
          omega arith
      go (inr n) rest =
          let q = other-kept ts k c n in
          let p : tried_over tried (received_by i (receipt ts c ∷ receipts (after ts c) cs)) ≡ tried_over tried (received_by i (receipts (after ts c) cs)) =
          ap (tried_over tried) (keep_out (λ (r : Receipt R). eqb r.caller i) (receipt ts c) (receipts (after ts c) cs) n) in
          omega arith

module _ {R : Type 0} {tally tried : R → ℕ} where
  together-summed : (ts : List ℕ) → length ts ≡ callers → (cs : List (Call R tally tried)) → total (tallies_after ts cs) ≡ total ts + tried_over tried (receipts ts cs)
  unfolding receipts tallies_after
  together-summed ts k [] = omega arith
  together-summed ts k (c ∷ cs) =
      let q = total-after ts k c in
      let rest = together-summed (after ts c) (size-after ts k c) cs in
      omega arith

  pub summed : (ts : List ℕ) → length ts ≡ callers → (cs : List (Call R tally tried)) → Summed ts cs
  summed ts k cs = record { together = together-summed ts k cs; each = λ i. each-summed i ts k cs }
