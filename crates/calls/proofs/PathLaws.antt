-- Paths of each node: the ones of a node's mask count its paths, and each arm of the call answers as the model does. Assumes nothing.
use Prim.Native.Nat.{ℕ, ◌<◌}
use mathlib.Core.Path.{◌≡◌, sym, ap, ◌∙◌}
use mathlib.Core.List.{List, map}
use lib.Count.{ones}
use lib.ListN.{get_or, replicate}
use Rattle.model.specs.Lists.{up_from}
use Rattle.model.specs.Pattern.{Pattern}
use Rattle.model.specs.Embeddings.{path_mask, path_count}
use Rattle.model.specs.Bytes.{case_of}
use Rattle.model.specs.Questions.{selected, paths_refusal}
use Rattle.model.specs.Calls.{paths_accepted}
use Rattle.model.specs.Demands.{PathsAnswered}
use Rattle.model.proofs.Results.{path-count-ones}
use Rattle.model.proofs.Calls.{paths-refused, paths-accepted}
use Rattle.model.proofs.Demands.{paths-answered}
use Rattle.std.specs.Prelude.{Ok, Err}
use Rattle.questions.specs.Refusal.{number_of}
use Rattle.questions.specs.declared.refusal.Refusal.{Refusal}
use Rattle.questions.proofs.RefusalLaws.{number-not_zero}
use Rattle.calls.specs.Answers.{paths_of}
use Rattle.format.proofs.RangeLaws.{get_or-map-below, map-below-ext}

-- ---- the answer

module _ (b : List ℕ) (s : ℕ) where
  pub paths-no : (r : Refusal) → number_of r ≡ paths_refusal b s → PathsAnswered b s (paths_of (Err r))
  paths-no r e =
      paths-answered b s
      ((λ i. record { refused = e i; masks = replicate 16 0; counts = replicate 16 0 }) ∙ sym (paths-refused b s (λ z. number-not_zero r (e ∙ z))))

  -- P is the pattern where the number gives it
  pub paths-yes : 0 ≡ paths_refusal b s → {P : Pattern} {masks counts : List ℕ} → selected (case_of b) s ≡ P → masks ≡ map (path_mask (case_of b).summary P) (up_from 0 16)
      → counts ≡ map (λ q. ones (get_or masks q 0)) (up_from 0 16)
      → PathsAnswered b s (paths_of (Ok (record { masks = masks; counts = counts })))
  unfolding paths_accepted
  paths-yes e {P} {masks} same m c =
      let n = c ∙ map-below-ext (λ q. ones (get_or masks q 0)) (path_count (case_of b).summary P) 16 (λ q h. counted q h) in
      paths-answered b s
      ((λ i. record { refused = 0; masks = m i; counts = n i }) ∙ sym (paths-accepted b s (sym e) ∙ ap (paths_accepted (case_of b).summary) same))
    where
      counted : (q : ℕ) → q < 16 → ones (get_or masks q 0) ≡ path_count (case_of b).summary P q
      counted q h =
          ap ones (ap (λ (l : List ℕ). get_or l q 0) m ∙ get_or-map-below (path_mask (case_of b).summary P) 16 q 0 h) ∙ sym (path-count-ones (case_of b).summary P q)
