-- Containment is decided by the trials of the placements: it holds exactly when all of them pass, a trial that does not pass is
-- a counter-example, and the quick test of a placement says the same without laying anything out. Assumes nothing.
use Prim.Native.Nat.{ℕ, ◌≤◌}
use mathlib.Core.Path.{◌≡◌, sym, ◌∙◌}
use mathlib.Core.Bool.{true, false}
use mathlib.Core.Logic.{◌⊎◌, inl, inr, ◌↔◌}
use mathlib.Core.List.{List, Memᴰ}
use lib.ListN.{length}
use Rattle.model.specs.Limits.{max_summary, max_pattern, max_canonical}
use Rattle.model.specs.Tree.{Document, IsTree}
use Rattle.model.specs.Summary.{Summary, Fits}
use Rattle.model.specs.Pattern.{Pattern, Result, ResultOfSome, SummaryEmbedding, Contained, CounterExample}
use Rattle.model.specs.Lists.{any_of, all_of}
use Rattle.model.specs.Embeddings.{image_in, summary_embeddings, is_result}
use Rattle.model.specs.Canonical.{canonical, own_result, passes, covered}
use Rattle.model.specs.Quick.{quick}
use Rattle.model.specs.Facts.{SummaryFacts, PatternFacts, MemberFacts}
use Rattle.model.specs.Demands.{SomeCounterExample, AllEmbeddingsPass, SomeEmbeddingFails}
use Rattle.model.proofs.ListLaws.{true-or-false, not-both, any-intro, any-elim, any-agree, all-elim, all-counter}
use Rattle.model.proofs.Embeddings.{embeddings-exact}
use Rattle.model.proofs.Results.{result-exact}
use Rattle.model.proofs.Canonical.{canonical-laid, canonical-small}
use Rattle.model.proofs.Containment.{canonical-fits, canonical-result, contained-in-some}
use Rattle.model.proofs.Quick.{quick-passes}

-- the tests of all members say whether a list is a result of some member
some_result : {Qs : List Pattern} {W : Document} (r : List ℕ) → ((Q : Pattern) → Memᴰ Q Qs → PatternFacts Q) → IsTree W
    → (any_of (λ Q. is_result Q W r) Qs ≡ true) ↔ ResultOfSome Qs W r
some_result {Qs} {W} r g t = (
  λ e. (let k = any-elim (λ Q. is_result Q W r) Qs e in record { pattern = k.0; among = k.1; result = (result-exact r (g k.0 k.1) t).0 k.2 }),
  λ k. any-intro (λ Q. is_result Q W r) k.pattern Qs k.among ((result-exact r (g k.pattern k.among) t).1 k.result),
)

-- a list either is a result of some member or of none
pub result-or-not : {Qs : List Pattern} {W : Document} (r : List ℕ) → ((Q : Pattern) → Memᴰ Q Qs → PatternFacts Q) → IsTree W → ResultOfSome Qs W r ⊎ (ResultOfSome Qs W r → ⊥)
result-or-not {Qs} {W} r g t = go (true-or-false (any_of (λ Q. is_result Q W r) Qs))
  where
    go : (any_of (λ Q. is_result Q W r) Qs ≡ true) ⊎ (any_of (λ Q. is_result Q W r) Qs ≡ false) → ResultOfSome Qs W r ⊎ (ResultOfSome Qs W r → ⊥)
    go (inl e) = inl ((some_result r g t).0 e)
    go (inr e) = inr (λ k. not-both (any_of (λ Q. is_result Q W r) Qs) ((some_result r g t).1 k) e)

module _ {S : Summary} {P : Pattern} (s : SummaryFacts S) (p : PatternFacts P) where
  -- a list among the placements is one
  pub placed : {es : List ℕ} → Memᴰ es (summary_embeddings S P) → (length es ≡ length P) × SummaryEmbedding S P (image_in es)
  placed m = (embeddings-exact p.tree s.tree).0 m

  -- a trial volume fits, the first selection's own nodes are a result of it there, and it has at most 1,009 nodes
  pub listed-fits : {es : List ℕ} → Memᴰ es (summary_embeddings S P) → Fits S (canonical S P es)
  listed-fits {es} m = let k = placed m in canonical-fits s p es k.0 k.1

  pub listed-result : {es : List ℕ} → Memᴰ es (summary_embeddings S P) → Result P (canonical S P es) (own_result S P es)
  listed-result {es} m = let k = placed m in canonical-result s p es k.0 k.1

  pub listed_small : {es : List ℕ} → Memᴰ es (summary_embeddings S P) → length S ≤ max_summary → length P ≤ max_pattern → length (canonical S P es) ≤ max_canonical
  listed_small {es} m a b = canonical-small S P es s.tree p.tree (placed m).1 a b

  -- the own nodes are a result of one selection exactly when its test passes, and the quick test says the same
  module _ {Q : Pattern} (q : MemberFacts P Q) where
    pub passes-exact : {es : List ℕ} → Memᴰ es (summary_embeddings S P) → (passes S P Q es ≡ true) ↔ Result Q (canonical S P es) (own_result S P es)
    unfolding passes
    passes-exact {es} m = result-exact (own_result S P es) q.pattern (listed-fits m).tree

    pub quick-exact : {es : List ℕ} → Memᴰ es (summary_embeddings S P) → quick S P Q es ≡ passes S P Q es
    quick-exact {es} m =
        quick-passes (canonical-laid S P es s.tree p.tree (placed m).1) s p q.pattern q.same_arity (result-exact (own_result S P es) q.pattern (listed-fits m).tree)

  module _ {Qs : List Pattern} (q : (Q : Pattern) → Memᴰ Q Qs → MemberFacts P Q) where
    -- a trial passes exactly when the own nodes are a result of some member
    pub covered-exact : {es : List ℕ} → Memᴰ es (summary_embeddings S P) → (covered S P Qs es ≡ true) ↔ ResultOfSome Qs (canonical S P es) (own_result S P es)
    unfolding covered passes
    covered-exact {es} m = some_result (own_result S P es) (λ Q n. (q Q n).pattern) (listed-fits m).tree

    -- included exactly when every trial passes
    pub contained-exact : Contained S P Qs ↔ AllEmbeddingsPass S P Qs (summary_embeddings S P)
    contained-exact =
        let c = contained-in-some s p Qs in (
          λ k es m. (covered-exact m).1 (let l = placed m in c.0 k es l.0 l.1),
          λ k. c.1 (λ es l m. (let n : Memᴰ es (summary_embeddings S P) = (embeddings-exact p.tree s.tree).1 (l, m) in (covered-exact n).0 (k es n))),
        )

    -- a trial that does not pass is a counter-example
    pub failing-canonical : {es : List ℕ} → Memᴰ es (summary_embeddings S P) → covered S P Qs es ≡ false → CounterExample S P Qs (canonical S P es) (own_result S P es)
    failing-canonical {es} m e =
        record { fits = listed-fits m; of_first = listed-result m; of_none = λ k. not-both (covered S P Qs es) ((covered-exact m).1 k) e }

    -- included exactly when there is no counter-example
    pub contained-or-counter : Contained S P Qs ↔ (SomeCounterExample S P Qs → ⊥)
    contained-or-counter = (λ c (W, r, k). k.of_none (c W k.fits r k.of_first), λ n W w r k. go W w r k n (result-or-not r (λ Q m. (q Q m).pattern) w.tree))
      where
        go : (W : Document) → Fits S W → (r : List ℕ) → Result P W r → (SomeCounterExample S P Qs → ⊥) → ResultOfSome Qs W r ⊎ (ResultOfSome Qs W r → ⊥) → ResultOfSome Qs W r
        go W w r k n (inl y) = y
        go W w r k n (inr y) = absurd (n (W, r, record { fits = w; of_first = k; of_none = y }))

    -- a counter-example of any size exactly when some trial does not pass
    pub counter-exact : SomeCounterExample S P Qs ↔ SomeEmbeddingFails S P Qs (summary_embeddings S P)
    counter-exact = (λ c. go c (true-or-false (all_of (covered S P Qs) (summary_embeddings S P))), λ (es, m, e). (canonical S P es, own_result S P es, failing-canonical m e))
      where
        go : SomeCounterExample S P Qs → (all_of (covered S P Qs) (summary_embeddings S P) ≡ true) ⊎ (all_of (covered S P Qs) (summary_embeddings S P) ≡ false) → SomeEmbeddingFails S P Qs (summary_embeddings S P)
        go c (inl e) = absurd (contained-or-counter.0 (contained-exact.1 (all-elim (covered S P Qs) (summary_embeddings S P) e)) c)
        go c (inr e) = all-counter (covered S P Qs) (summary_embeddings S P) e

    -- the quick tests of all members say whether the trial passes
    pub quick-covered : {es : List ℕ} → Memᴰ es (summary_embeddings S P) → any_of (λ Q. quick S P Q es) Qs ≡ covered S P Qs es
    unfolding covered
    quick-covered {es} m = any-agree (λ Q. quick S P Q es) (λ Q. passes S P Q es) Qs (λ Q n. quick-exact (q Q n) m)

    -- included exactly when each placement is quick for some member
    pub quick-contained : Contained S P Qs ↔ ((es : List ℕ) → Memᴰ es (summary_embeddings S P) → any_of (λ Q. quick S P Q es) Qs ≡ true)
    quick-contained =
        (λ c es m. quick-covered m ∙ contained-exact.0 c es m, λ c. contained-exact.1 (λ es m. sym (quick-covered m) ∙ c es m))
