-- What a verdict shows: its kind tells which it is, what each kind writes, and the trial that "not included" shows is the earliest
-- counter-example. Assumes nothing.
use Prim.Native.Nat.{ℕ, suc, ◌+◌, ◌*◌, ◌≤◌, ◌<◌}
use mathlib.Core.Path.{◌≡◌, refl, sym, ap, ◌∙◌}
use mathlib.Core.Logic.Iff
use mathlib.Core.Logic.{◌↔◌}
use mathlib.Core.List.{List, [], ◌++◌}
use native.Mathlib.Omega.{arith}
use lib.ListN.{length, take, length-append, length-map}
use Rattle.model.specs.Limits.{max_position, max_canonical, min_buffer, document_width}
use Rattle.model.specs.Tree.{Document}
use Rattle.model.specs.Summary.{Summary}
use Rattle.model.specs.Pattern.{Pattern, arity, return_nodes, Contained, CounterExample}
use Rattle.model.specs.Embeddings.{image_in, summary_embeddings}
use Rattle.model.specs.Canonical.{canonical, own_nodes, own_result, covered}
use Rattle.model.specs.Verdict.{Verdict, included, not_included, stopped, verdict, tried_of}
use Rattle.model.specs.Bytes.{Case, encode_document, encode_counted, written_at_front}
use Rattle.model.specs.Calls.{kind_included, kind_not_included, kind_stopped, kind_of, shown, verdict_accepted}
use Rattle.model.specs.Facts.{CaseFacts}
use Rattle.model.specs.Demands.{SomeCounterExample, AllEmbeddingsPass, SomeEmbeddingFails, Shown}
use Rattle.model.proofs.ReturnNodes.{length-return_nodes}
use Rattle.model.proofs.Decision.{listed_small, contained-exact, counter-exact, failing-canonical}
use Rattle.model.proofs.Verdict.{Included, IsIncluded, IsNotIncluded, IsStopped, judge-included, judge-not-included, judge-stopped, few-included, few-not-included, more-stopped, more-never-included, not-included-iff, stopped-iff, included-or-not, not-or-stopped, verdict-judge, verdict-shown}
use Rattle.model.proofs.Calls.{length-counted}
use Rattle.model.proofs.Bytes.{length-document}

-- the kind of a verdict tells which it is
pub kind-included : (v : Verdict) → (kind_of v ≡ kind_included) ↔ IsIncluded v
unfolding kind_of
kind-included (included n) = (λ e. (n, refl), λ k. refl)
kind-included (not_included n es) = (λ e. absurd (omega arith), λ k. ap kind_of k.1)
kind-included (stopped n) = (λ e. absurd (omega arith), λ k. ap kind_of k.1)

pub kind-not-included : (v : Verdict) → (kind_of v ≡ kind_not_included) ↔ IsNotIncluded v
unfolding kind_of
kind-not-included (included n) = (λ e. absurd (omega arith), λ k. ap kind_of k.2)
kind-not-included (not_included n es) = (λ e. (n, es, refl), λ k. refl)
kind-not-included (stopped n) = (λ e. absurd (omega arith), λ k. ap kind_of k.2)

pub kind-stopped : (v : Verdict) → (kind_of v ≡ kind_stopped) ↔ IsStopped v
unfolding kind_of
kind-stopped (included n) = (λ e. absurd (omega arith), λ k. ap kind_of k.1)
kind-stopped (not_included n es) = (λ e. absurd (omega arith), λ k. ap kind_of k.1)
kind-stopped (stopped n) = (λ e. (n, refl), λ k. refl)

-- what each verdict writes
pub shown-nothing : (S : Summary) (P : Pattern) (v : Verdict) → (kind_of v ≡ kind_not_included → ⊥) → shown S P v ≡ []
unfolding kind_of shown
shown-nothing S P (included n) h = refl
shown-nothing S P (not_included n es) h = absurd (h refl)
shown-nothing S P (stopped n) h = refl

shown-canonical : (S : Summary) (P : Pattern) (n : ℕ) (es : List ℕ) → shown S P (not_included n es) ≡ encode_document (canonical S P es) ++ encode_counted (own_result S P es)
unfolding shown
shown-canonical S P n es = refl

module _ (c : Case) (f : CaseFacts c) (L : ℕ) where
  abbrev S : Summary
  S = c.summary

  abbrev P : Pattern
  P = c.first

  abbrev Qs : List Pattern
  Qs = c.members

  abbrev listed : List (List ℕ)
  listed = summary_embeddings S P

  -- at most L placements
  pub few-counter : length listed ≤ L → IsNotIncluded (verdict S P Qs L) ↔ SomeCounterExample S P Qs
  few-counter h =
      rw (verdict-judge S P Qs L)
      (Iff.trans (few-not-included (covered S P Qs) L listed h) (Iff.symm (counter-exact f.summary f.first f.members)))

  pub few-contained : length listed ≤ L → IsIncluded (verdict S P Qs L) ↔ Contained S P Qs
  few-contained h =
      rw (verdict-judge S P Qs L)
      (Iff.trans (few-included (covered S P Qs) L listed h) (Iff.symm (contained-exact f.summary f.first f.members)))

  -- more than L
  pub more-stops : L < length listed → IsStopped (verdict S P Qs L) ↔ AllEmbeddingsPass S P Qs (take L listed)
  more-stops h = rw (verdict-judge S P Qs L) (more-stopped (covered S P Qs) L listed h)

  pub more-fails : IsNotIncluded (verdict S P Qs L) ↔ SomeEmbeddingFails S P Qs (take L listed)
  more-fails = rw (verdict-judge S P Qs L) (not-included-iff (covered S P Qs) L listed)

  pub more-never : L < length listed → IsIncluded (verdict S P Qs L) → ⊥
  more-never h k = more-never-included (covered S P Qs) L listed h (rw (← (verdict-judge S P Qs L)) k)

  pub stops-more : IsStopped (verdict S P Qs L) → L < length listed
  stops-more k = ((stopped-iff (covered S P Qs) L listed).0 (rw (← (verdict-judge S P Qs L)) k)).more

  -- the trial that "not included" shows is a counter-example of at most 1,009 nodes
  shows : (n : ℕ) (es : List ℕ) → verdict S P Qs L ≡ not_included n es → CounterExample S P Qs (canonical S P es) (own_result S P es) × (length (canonical S P es) ≤ max_canonical)
  shows n es e =
      let k = verdict-shown S P Qs L n es e in
      (failing-canonical f.summary f.first f.members k.0 k.1, listed_small f.summary f.first k.0 f.summary_size f.first_size)

  -- it is the earliest that does not pass, and tried is its rank from 1
  pub accepted-shows : (tally : ℕ) (buffer : List ℕ) → kind_of (verdict S P Qs L) ≡ kind_not_included → Shown S P Qs L (tried_of (verdict S P Qs L)) buffer (verdict_accepted c L tally buffer).buffer
  unfolding verdict_accepted tried_of
  accepted-shows tally buffer e =
      let k = (kind-not-included (verdict S P Qs L)).0 e in
      let es : List ℕ = k.1 in
      let s = shows k.0 es k.2 in
      let d = judge-not-included (covered S P Qs) L listed k.0 es (sym (verdict-judge S P Qs L) ∙ k.2) in
      let n : tried_of (verdict S P Qs L) ≡ suc (length d.0.before) = ap tried_of k.2 ∙ d.1 in
      record {
        earlier = d.0.before;
        placement = es;
        later = d.0.after;
        ordered = d.0.split;
        earlier_pass = d.0.pass;
        fails = d.0.fails;
        rank = omega arith;
        among_first = let w : length d.0.before < L = d.0.within in omega arith;
        document = canonical S P es;
        result = own_result S P es;
        trial = refl;
        own = refl;
        counter_example = s.0;
        small = s.1;
        written = ap (λ (v : Verdict). written_at_front (shown S P v) buffer) k.2 ∙ ap (λ (w : List ℕ). written_at_front w buffer) (shown-canonical S P k.0 es);
      }

  -- tried of the other two
  pub stops-tried : IsStopped (verdict S P Qs L) → tried_of (verdict S P Qs L) ≡ L
  unfolding tried_of
  stops-tried k = ap tried_of k.1 ∙ (judge-stopped (covered S P Qs) L listed k.0 (sym (verdict-judge S P Qs L) ∙ k.1)).0

  pub includes : (k : IsIncluded (verdict S P Qs L)) → (k.0 ≡ length listed) × Included (covered S P Qs) L listed
  includes k = judge-included (covered S P Qs) L listed k.0 (sym (verdict-judge S P Qs L) ∙ k.1)

  pub includes-tried : IsIncluded (verdict S P Qs L) → tried_of (verdict S P Qs L) ≡ length listed
  unfolding tried_of
  includes-tried k = ap tried_of k.1 ∙ (includes k).0

-- ---- What is shown fits

-- at most 2 + 6 × 1,009 bytes of a volume and 2 + 2 × 8 of a result
pub shown-small : (c : Case) → CaseFacts c → (L : ℕ) → length (shown c.summary c.first (verdict c.summary c.first c.members L)) ≤ min_buffer
unfolding own_result
shown-small c f L = go (verdict c.summary c.first c.members L) refl
  where
    size : (n : ℕ) (es : List ℕ) → length (canonical c.summary c.first es) ≤ max_canonical → length (shown c.summary c.first (not_included n es)) ≤ min_buffer
    size n es h =
        let W : Document = canonical c.summary c.first es in
        let r : List ℕ = own_result c.summary c.first es in
        let a : length (encode_document W) ≡ 2 * (1 + document_width * length W) = length-document W in
        let b : length (encode_counted r) ≡ 2 * suc (length r) = length-counted r in
        let k : length r ≡ arity c.first = length-map (return_nodes c.first) (image_in (own_nodes c.summary c.first es)) ∙ length-return_nodes c.first in
        let l : arity c.first ≤ max_position = f.arity_bound in
        rw (shown-canonical c.summary c.first n es, length-append (encode_document W) (encode_counted r)) (omega arith)

    none : (v : Verdict) → (kind_of v ≡ kind_not_included → ⊥) → length (shown c.summary c.first v) ≤ min_buffer
    none v h = rw (shown-nothing c.summary c.first v h) (omega arith)

    go : (v : Verdict) → verdict c.summary c.first c.members L ≡ v → length (shown c.summary c.first v) ≤ min_buffer
    go (included n) e = none (included n) (λ k. not-kind ((kind-not-included (included n)).0 k))
      where
        not-kind : IsNotIncluded (included n) → ⊥
        not-kind k = included-or-not (included n) (n, refl) k
    go (not_included n es) e = size n es (shows c f L n es e).1
    go (stopped n) e = none (stopped n) (λ k. not-or-stopped (stopped n) ((kind-not-included (stopped n)).0 k) (n, refl))
