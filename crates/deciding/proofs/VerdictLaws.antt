-- From the verdict to what is told: an accepted case has what the verdict asks for; "not included" shows an embedding of the first
-- pattern, whose canonical document can be laid out and written, and the others show nothing. By the model's laws of the verdict.
-- Assumes nothing.
use Prim.Native.Nat.{ℕ, ◌≤◌}
use mathlib.Core.Path.{◌≡◌, refl, sym, ap, ap₂, ◌∙◌, subst}
use mathlib.Core.List.{List, []}
use native.Mathlib.Omega.{arith}
use lib.ListN.{length, take, get_or}
use Rattle.model.specs.Limits.{max_pattern, max_position}
use Rattle.model.specs.Summary.{Summary}
use Rattle.model.specs.Pattern.{Pattern, arity, SummaryEmbedding}
use Rattle.model.specs.Embeddings.{image_in}
use Rattle.model.specs.Facts.{CaseFacts}
use Rattle.model.specs.Verdict.{Verdict, included, not_included, stopped}
use Rattle.model.specs.Bytes.{Case, written_at_front}
use Rattle.model.proofs.ListLaws.{mem-at}
use Rattle.model.specs.Calls.{shown}
use Rattle.model.proofs.Bytes.{front-none, front-written}
use Rattle.model.proofs.Decision.{placed}
use Rattle.model.proofs.Verdict.{verdict-shown}
use Rattle.format.specs.Given.{SummaryKept}
use Rattle.canonical.specs.Given.{embedding_in}
use Rattle.canonical.specs.Shown.{shown_document, Showable}
use Rattle.containment.specs.Answer.{answer_of, shown_of, verdict_of, CaseKept}
use Rattle.containment.specs.declared.Containment.{Containment}
use Rattle.containment.specs.declared.Containment.TheVariants.{NotContained}
use Rattle.deciding.specs.Told.{Told}

-- ---- included and stopped

-- another verdict than "not included" shows nothing
pub told-nothing : {c : Case} {limit : ℕ} (buffer : List ℕ) {r : Containment} → r ≡ answer_of (verdict_of c limit) → ((n : ℕ) → r ≡ NotContained n → ⊥) → Told c limit buffer buffer r
unfolding shown
told-nothing {c} {limit} buffer {r} e other =
    record { verdict = e; buffer = sym (ap (λ (w : List ℕ). written_at_front w buffer) (nothing (verdict_of c limit) e) ∙ front-none buffer) }
  where
    nothing : (v : Verdict) → r ≡ answer_of v → shown c.summary c.first v ≡ []
    nothing (included n) p = refl
    nothing (not_included n es) p = absurd (other n p)
    nothing (stopped n) p = refl

-- ---- not included

not-included : (v : Verdict) {t : ℕ} → answer_of v ≡ NotContained t → v ≡ not_included t (shown_of v)
not-included (included n) e = absurd (let z : ◌≡◌ {A = ℕ} 0 1 = cc e in omega arith)
not-included (not_included n es) e = ap (λ (x : ℕ). not_included x es) (cc e)
not-included (stopped n) e = absurd (let z : ◌≡◌ {A = ℕ} 0 1 = cc e in omega arith)

shown-not : (S : Summary) (P : Pattern) (n : ℕ) (es : List ℕ) → shown S P (not_included n es) ≡ shown_document S P es
unfolding shown
shown-not S P n es = refl

-- ---- an accepted case

module _ {c : Case} (F : CaseFacts c) where
  pub summary-kept : SummaryKept c.summary
  summary-kept = record { tree = F.summary.tree; few = F.summary_size }

  pub case-kept : CaseKept c.summary c.first c.members
  case-kept =
      record {
        summary = summary-kept;
        first = record { tree = F.first.tree; few = F.first_size };
        members = record {
          few = F.few_members;
          members = λ i h. let m = F.members (get_or c.members i []) (mem-at c.members i [] h) in record { tree = m.pattern.tree; few = m.size };
        };
        facts = F;
      }

  module _ (limit : ℕ) where
    abbrev v : Verdict
    v = verdict_of c limit

    abbrev es : List ℕ
    es = shown_of v

    module _ (images₀ : List ℕ) {t : ℕ} {r : Containment} {images : List ℕ} (a : r ≡ answer_of v) (n : r ≡ NotContained t) (i : images ≡ written_at_front es images₀) where
      is-not : v ≡ not_included t es
      is-not = not-included v (sym a ∙ n)

      embedded : (length es ≡ length c.first) × SummaryEmbedding c.summary c.first (image_in es)
      embedded = placed F.summary F.first (verdict-shown c.summary c.first c.members limit t es is-not).0

      -- the images are the embedding
      shown-images : embedding_in c.first images ≡ es
      shown-images = ap₂ (λ (k : ℕ) (xs : List ℕ). take k xs) (sym embedded.0) i ∙ front-written es images₀

      pub showable : {k : ℕ} → k ≡ arity c.first → max_pattern ≤ length images → Showable c.summary c.first images k
      showable {k} p h =
          let few : arity c.first ≤ max_position = F.arity_bound in
          record {
            embedded =
                record {
                  summary = summary-kept;
                  pattern = case-kept.first;
                  enough = let l : length c.first ≤ max_pattern = F.first_size in omega arith;
                  embedding = subst (λ (xs : List ℕ). SummaryEmbedding c.summary c.first (image_in xs)) (sym shown-images) embedded.1;
                };
            facts = F.first;
            positions = p;
            few = omega arith;
          }

      -- and what is shown of it is the verdict's
      pub told-shown : {before after : List ℕ} → after ≡ written_at_front (shown_document c.summary c.first (embedding_in c.first images)) before → Told c limit before after (NotContained t)
      told-shown {before} w =
          record {
            verdict = sym n ∙ a;
            buffer =
                w ∙ ap (λ (xs : List ℕ). written_at_front (shown_document c.summary c.first xs) before) shown-images
                ∙ sym (ap (λ (x : Verdict). written_at_front (shown c.summary c.first x) before) is-not
                ∙ ap (λ (x : List ℕ). written_at_front x before) (shown-not c.summary c.first t es));
          }
