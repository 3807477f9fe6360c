-- What a verdict call answers and leaves is what is printed: the call's record fixes the verdict, and what "not included" shows reads
-- back. The text is small enough, since a trial volume has few nodes and its labels are fields of the case. Assumes nothing.
use Prim.Native.Nat.{ℕ, ◌+◌, ◌≤◌, ◌<◌}
use mathlib.Core.Path.{◌≡◌, refl, sym, ap, ap₂, ◌∙◌, subst}
use mathlib.Core.List.Memᴰ
use mathlib.Core.List.{List, Memᴰ}
use native.Mathlib.Omega.{arith}
use lib.ListN.{length, replicate, length-replicate}
use Rattle.model.specs.Limits.{max_limit, min_buffer, max_text, max_figure}
use Rattle.model.specs.Tree.{Document, label_of, figure_of}
use Rattle.model.specs.Summary.{Summary}
use Rattle.model.specs.Pattern.{Pattern, arity}
use Rattle.model.specs.Embeddings.{summary_embeddings}
use Rattle.model.specs.Canonical.{covered}
use Rattle.model.specs.Verdict.{Verdict, included, not_included, stopped, verdict}
use Rattle.model.specs.Bytes.{case_of, document_of, list_of, shown_section, shown_list, AreBytes}
use Rattle.model.specs.Questions.{verdict_refusal}
use Rattle.model.specs.Calls.{VerdictOutcome, kind_included, kind_not_included, kind_stopped, kind_of, verdict_accepted, verdict_call}
use Rattle.model.specs.Facts.{CaseFacts}
use Rattle.model.specs.Demands.{AllEmbeddingsPass, Shown, Demand3, VerdictAnswered}
use Rattle.model.specs.Text.{ascii, first_lines, shown_text, verdict_text, refused_text, program_caller, program_refusal, printed}
use Rattle.model.proofs.Verdict.{included-judge, not-included-judge, stopped-judge, verdict-judge}
use Rattle.model.proofs.Calls.{by_number, verdict-accepted}
use Rattle.model.proofs.CallFacts.{accepted-verdict}
use Rattle.model.proofs.Decision.{placed}
use Rattle.model.proofs.ReadBack.{label_small, parent-inside, canonical-labels, result_count, result-inside, canonical-figures}
use Rattle.model.proofs.Demands.{verdict-answered}
use Rattle.model.proofs.Text.{Printable, shown-small, refused-small, first_fits, printed-refused, printed-accepted}

-- ---- from demand 3 to the verdict

module _ (S : Summary) (P : Pattern) (Qs : List Pattern) (L : ℕ) where
  shown-verdict : {tried : ℕ} {before after : List ℕ} (s : Shown S P Qs L tried before after) → verdict S P Qs L ≡ not_included tried s.placement
  shown-verdict {tried} s =
      let r : tried ≡ length s.earlier + 1 = s.rank in
      let l : tried ≤ L = s.among_first in
      verdict-judge S P Qs L
      ∙ not-included-judge (covered S P Qs) L (summary_embeddings S P) s.placement
      (record { before = s.earlier; after = s.later; split = s.ordered; pass = s.earlier_pass; fails = s.fails; within = omega arith })
      ∙ ap (λ (n : ℕ). not_included n s.placement) (omega arith)

  included-verdict : {n : ℕ} → n ≤ L → n ≡ length (summary_embeddings S P) → AllEmbeddingsPass S P Qs (summary_embeddings S P) → verdict S P Qs L ≡ included n
  included-verdict {n} l e p =
      verdict-judge S P Qs L ∙ included-judge (covered S P Qs) L (summary_embeddings S P) (record { few = omega arith; pass = p }) ∙ ap included (sym e)

-- ---- what is shown can be printed

shown-printable : (b : List ℕ) → AreBytes b → CaseFacts (case_of b) → {L tried : ℕ} {before after : List ℕ}
    → (s : Shown (case_of b).summary (case_of b).first (case_of b).members L tried before after) → Printable s.document s.result
shown-printable b small f s =
    let of_first = s.counter_example.of_first in
    let k : length s.result ≡ arity (case_of b).first = result_count of_first in
    let a = f.arity_bound in
    record {
      few = s.small;
      parents = parent-inside s.document s.counter_example.fits.tree;
      labels =
          subst (λ (W : Document). (i : ℕ) → i < length W → label_of W i < 65_536) (sym s.trial)
          (canonical-labels (case_of b).summary (case_of b).first s.placement f.summary.tree f.first.tree
          (placed f.summary f.first (subst (λ (l : List (List ℕ)). Memᴰ s.placement l) (sym s.ordered) (Memᴰ.append_right s.earlier (Memᴰ.head refl)))).1
          (λ l. l < 65_536) (label_small b small));
      figures =
          subst (λ (W : Document). (i : ℕ) → i < length W → figure_of W i ≤ max_figure) (sym s.trial)
          (canonical-figures (case_of b).summary (case_of b).first s.placement f.summary.tree f.first.tree
          (placed f.summary f.first (subst (λ (l : List (List ℕ)). Memᴰ s.placement l) (sym s.ordered) (Memᴰ.append_right s.earlier (Memᴰ.head refl)))).1
          f.first_figures);
      positions = omega arith;
      nodes = result-inside f.first of_first;
    }

-- ---- from the call to the text

module _ (b : List ℕ) {before : List ℕ} (size : length before ≡ min_buffer) {o : VerdictOutcome} (a : VerdictAnswered b max_limit program_caller 0 before o) where
  abbrev number : ℕ
  number = program_refusal b

  same_number : verdict_refusal b max_limit program_caller 0 (length before) ≡ number
  same_number = ap (verdict_refusal b max_limit program_caller 0) size

  -- an answer with a kind is no refusal
  pub accepted-kind : {k : ℕ} → o.answer.kind ≡ k → 0 < k → verdict_refusal b max_limit program_caller 0 (length before) ≡ 0
  accepted-kind {k} e h =
      by_number (verdict_refusal b max_limit program_caller 0 (length before)) (λ z. z)
      (λ f. absurd (let z : o.answer.kind ≡ 0 = ap (λ (x : VerdictOutcome). x.answer.kind) (a.demand1 f) in omega arith))

  text-by : {k : ℕ} → o.answer.kind ≡ k → 0 < k → {v : Verdict} → verdict (case_of b).summary (case_of b).first (case_of b).members max_limit ≡ v
      → printed b ≡ verdict_text (case_of b).summary (case_of b).first v
  text-by e h p = printed-accepted b (sym same_number ∙ accepted-kind e h) ∙ ap (verdict_text (case_of b).summary (case_of b).first) p

  demand : {k : ℕ} → o.answer.kind ≡ k → 0 < k → Demand3 b max_limit 0 before o
  demand e h = a.demand3 (accepted-kind e h)

  pub prints-included : o.answer.kind ≡ kind_included → printed b ≡ first_lines (ascii "included") o.answer.tried
  unfolding verdict_text
  prints-included e =
      let d = demand e (omega arith) in
      text-by e (omega arith) (included-verdict (case_of b).summary (case_of b).first (case_of b).members max_limit d.limited (d.included_tried e) (d.only_included e))

  pub prints-stopped : o.answer.kind ≡ kind_stopped → printed b ≡ first_lines (ascii "stopped") o.answer.tried
  unfolding verdict_text
  prints-stopped e =
      let d = demand e (omega arith) in
      let more = d.only_stopped e in
      text-by e (omega arith)
      (verdict-judge (case_of b).summary (case_of b).first (case_of b).members max_limit
      ∙ stopped-judge (covered (case_of b).summary (case_of b).first (case_of b).members) max_limit (summary_embeddings (case_of b).summary (case_of b).first)
      (record { more = more; pass = (d.stopped more).0 e }))
      ∙ ap (first_lines (ascii "stopped")) (sym (d.stopped_tried e))

  pub prints-shown : o.answer.kind ≡ kind_not_included
      → printed b ≡ shown_text o.answer.tried (document_of (shown_section o.buffer)) (list_of (shown_list o.buffer))
  unfolding verdict_text
  prints-shown e =
      let d = demand e (omega arith) in
      let s = d.shown e in
      let r = d.reads_back e in
      text-by e (omega arith) (shown-verdict (case_of b).summary (case_of b).first (case_of b).members max_limit s)
      ∙ ap₂ (shown_text o.answer.tried) (sym (r.document ∙ s.trial)) (sym (r.result ∙ s.own))

  pub prints-refused : o.answer.kind ≡ 0 → printed b ≡ refused_text o.answer.refused
  unfolding kind_of verdict_accepted
  prints-refused e =
      by_number (verdict_refusal b max_limit program_caller 0 (length before))
      (λ z. absurd (some (verdict (case_of b).summary (case_of b).first (case_of b).members max_limit)
      (sym (ap (λ (x : VerdictOutcome). x.answer.kind) (a.outcome ∙ verdict-accepted b max_limit program_caller 0 before z)) ∙ e)))
      (λ f.
      printed-refused b (λ z. f (same_number ∙ z))
      ∙ ap refused_text (sym (ap (λ (x : VerdictOutcome). x.answer.refused) (a.demand1 f) ∙ same_number)))
    where
      some : (v : Verdict) → kind_of v ≡ 0 → ⊥
      some (included n) z = absurd (omega arith)
      some (not_included n es) z = absurd (omega arith)
      some (stopped n) z = absurd (omega arith)

  -- each text is small
  included-small : o.answer.kind ≡ kind_included → length (printed b) ≤ max_text
  included-small e = subst (λ (x : List ℕ). length x ≤ max_text) (sym (prints-included e)) (first_fits (ascii "included") o.answer.tried (omega arith) (demand e (omega arith)).limited)

  stopped-small : o.answer.kind ≡ kind_stopped → length (printed b) ≤ max_text
  stopped-small e = subst (λ (x : List ℕ). length x ≤ max_text) (sym (prints-stopped e)) (first_fits (ascii "stopped") o.answer.tried (omega arith) (demand e (omega arith)).limited)

  not-small : AreBytes b → o.answer.kind ≡ kind_not_included → length (printed b) ≤ max_text
  not-small small e =
      let d = demand e (omega arith) in
      let s = d.shown e in
      let r = d.reads_back e in
      let p : Printable s.document s.result = shown-printable b small (accepted-verdict b max_limit program_caller 0 (length before) (accepted-kind e (omega arith))).case.facts s in
      subst (λ (x : List ℕ). length x ≤ max_text) (sym (prints-shown e ∙ ap₂ (shown_text o.answer.tried) r.document r.result)) (shown-small o.answer.tried d.limited p)

-- the text of any bytes has at most 21,263 bytes
pub printed-small : (b : List ℕ) → AreBytes b → length (printed b) ≤ max_text
unfolding verdict_accepted kind_of
printed-small b small =
    by_number (verdict_refusal b max_limit program_caller 0 (length blank))
    (λ z. go (verdict (case_of b).summary (case_of b).first (case_of b).members max_limit) (ap (λ (x : VerdictOutcome). x.answer.kind) (verdict-accepted b max_limit program_caller 0 blank z)))
    (λ f. subst (λ (x : List ℕ). length x ≤ max_text) (sym (printed-refused b (λ z. f (ap (verdict_refusal b max_limit program_caller 0) size ∙ z)))) (refused-small b))
  where
    blank : List ℕ
    blank = replicate min_buffer 0

    size : length blank ≡ min_buffer
    size = length-replicate {A = ℕ} min_buffer 0

    call : VerdictAnswered b max_limit program_caller 0 blank (verdict_call b max_limit program_caller 0 blank)
    call = verdict-answered b small max_limit program_caller 0 blank refl

    go : (v : Verdict) → (verdict_call b max_limit program_caller 0 blank).answer.kind ≡ kind_of v → length (printed b) ≤ max_text
    go (included n) e = included-small b size call e
    go (not_included n es) e = not-small b size call small e
    go (stopped n) e = stopped-small b size call e
