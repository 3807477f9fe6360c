-- What a renumbering keeps of a verdict whose limit is at least the number of placements: with as many placements it is "included" of both cases or
-- "not included" of both, by inclusion, which is kept, and "included" tries every one. Assumes nothing.
use Prim.Native.Nat.{ℕ, ◌≤◌}
use mathlib.Core.Path.{◌≡◌, refl, sym, ap, ◌∙◌, subst}
use mathlib.Core.Logic.{◌⊎◌, inl, inr}
use mathlib.Core.List.{List, [], ◌∷◌, ◌++◌}
use native.Mathlib.Omega.{arith}
use lib.ListN.{length}
use Rattle.model.specs.Embeddings.{summary_embeddings}
use Rattle.model.specs.Verdict.{Verdict, included, not_included, stopped, verdict}
use Rattle.model.specs.Bytes.{case_of}
use Rattle.model.specs.Questions.{limit_in_range, buffer_large_enough, caller_in_range, tally_in_range, Question, ask, case_questions, verdict_refusal}
use Rattle.model.specs.Calls.{kind_included, kind_not_included, kind_stopped, kind_of, VerdictOutcome, verdict_accepted, verdict_call}
use Rattle.model.specs.Renumbering.{CaseRenumbering}
use Rattle.model.specs.Facts.{CaseFacts}
use Rattle.model.specs.Demands.{Demand3, SameKind}
use Rattle.model.proofs.Refusals.{AllYes, refusal-none, all-yes-append}
use Rattle.model.proofs.CaseFacts.{case-accepted, all_asked}
use Rattle.model.proofs.CallFacts.{accepted-verdict}
use Rattle.model.proofs.Calls.{verdict-accepted}
use Rattle.model.proofs.RenumberedTables.{renumbered-placements}
use Rattle.model.proofs.RenumberedCase.{renumbered-contained}

-- a verdict is of one of three kinds
kind-cases : (v : Verdict) → (kind_of v ≡ kind_included) ⊎ ((kind_of v ≡ kind_not_included) ⊎ (kind_of v ≡ kind_stopped))
unfolding kind_of
kind-cases (included n) = inl refl
kind-cases (not_included n es) = inr (inl refl)
kind-cases (stopped n) = inr (inr refl)

module _ (b : List ℕ) (L caller tally : ℕ) (buffer : List ℕ) (accepted : verdict_refusal b L caller tally (length buffer) ≡ 0)
    (few : length (summary_embeddings (case_of b).summary (case_of b).first) ≤ L) (demand : Demand3 b L tally buffer (verdict_call b L caller tally buffer)) where
  abbrev kind : ℕ
  kind = (verdict_call b L caller tally buffer).answer.kind

  -- and with a limit of at least the number of placements of one of two
  unstopped : (kind ≡ kind_included) ⊎ (kind ≡ kind_not_included)
  unfolding verdict_accepted
  unstopped = go (kind-cases v)
    where
      v : Verdict
      v = verdict (case_of b).summary (case_of b).first (case_of b).members L

      same : kind ≡ kind_of v
      same = ap (λ (o : VerdictOutcome). o.answer.kind) (verdict-accepted b L caller tally buffer accepted)

      go : (kind_of v ≡ kind_included) ⊎ ((kind_of v ≡ kind_not_included) ⊎ (kind_of v ≡ kind_stopped)) → (kind ≡ kind_included) ⊎ (kind ≡ kind_not_included)
      go (inl e) = inl (same ∙ e)
      go (inr (inl e)) = inr (same ∙ e)
      go (inr (inr e)) = let more = demand.only_stopped (same ∙ e) in absurd (omega (arith, few))

-- a case all of whose questions are answered yes is accepted where another is
pub accepted-alike : (b w : List ℕ) (L caller tally buffer_bytes : ℕ) → AllYes (case_questions w) → verdict_refusal b L caller tally buffer_bytes ≡ 0 → verdict_refusal w L caller tally buffer_bytes ≡ 0
unfolding verdict_refusal
accepted-alike b w L caller tally buffer_bytes asked e =
    let before : List Question = ask 1 (limit_in_range L) ∷ ask 2 (buffer_large_enough buffer_bytes) ∷ [] in
    let after : List Question = ask 16 (caller_in_range caller) ∷ ask 9 (tally_in_range tally L) ∷ [] in
    let y = all_asked b before after (omega arith, (omega arith, tt)) (omega arith, (omega arith, tt)) e in
    refusal-none (before ++ (case_questions w ++ after)) (all-yes-append before (case_questions w ++ after) y.0 (all-yes-append (case_questions w) after asked y.2))

-- of a renumbering w of b, both of which keep demand 3
pub same_kind_lem : (b w : List ℕ) (L caller tally : ℕ) (buffer : List ℕ) → AllYes (case_questions w) → CaseRenumbering (case_of b) (case_of w)
    → verdict_refusal b L caller tally (length buffer) ≡ 0 → length (summary_embeddings (case_of b).summary (case_of b).first) ≤ L
    → Demand3 b L tally buffer (verdict_call b L caller tally buffer)
    → (verdict_refusal w L caller tally (length buffer) ≡ 0 → Demand3 w L tally buffer (verdict_call w L caller tally buffer)) → SameKind b w L caller tally buffer
same_kind_lem b w L caller tally buffer asked r e few demand_b demand =
    record {
      accepted = again;
      kind = same;
      tried = λ k. demand_w.included_tried (same ∙ k) ∙ sym placements ∙ sym (demand_b.included_tried k);
    }
  where
    again : verdict_refusal w L caller tally (length buffer) ≡ 0
    again = accepted-alike b w L caller tally (length buffer) asked e

    demand_w : Demand3 w L tally buffer (verdict_call w L caller tally buffer)
    demand_w = demand again

    facts_b : CaseFacts (case_of b)
    facts_b = (accepted-verdict b L caller tally (length buffer) e).case.facts

    facts_w : CaseFacts (case_of w)
    facts_w = (case-accepted w asked).facts

    placements : length (summary_embeddings (case_of b).summary (case_of b).first) ≡ length (summary_embeddings (case_of w).summary (case_of w).first)
    placements = renumbered-placements r.summary r.first facts_b.summary.tree facts_w.summary.tree facts_b.first.tree facts_w.first.tree

    few_w : length (summary_embeddings (case_of w).summary (case_of w).first) ≤ L
    few_w = subst (λ (n : ℕ). n ≤ L) placements few

    kind_b : ℕ
    kind_b = (verdict_call b L caller tally buffer).answer.kind

    kind_w : ℕ
    kind_w = (verdict_call w L caller tally buffer).answer.kind

    go : (kind_b ≡ kind_included) ⊎ (kind_b ≡ kind_not_included) → (kind_w ≡ kind_included) ⊎ (kind_w ≡ kind_not_included) → kind_w ≡ kind_b
    go (inl k) l = (demand_w.inclusion few_w).1 ((renumbered-contained r facts_b facts_w).0 ((demand_b.inclusion few).0 k)) ∙ sym k
    go (inr k) (inl l) = let back : kind_b ≡ kind_included = (demand_b.inclusion few).1 ((renumbered-contained r facts_b facts_w).1 ((demand_w.inclusion few_w).0 l)) in absurd (omega arith)
    go (inr k) (inr l) = l ∙ sym k

    same : kind_w ≡ kind_b
    same = go (unstopped b L caller tally buffer e few demand_b) (unstopped w L caller tally buffer again few_w demand_w)
