-- The verdict as a fold over the placements.
use Rattle.std.specs.Prelude.{ℕ, zero, suc, Bool, true, false, List, [], ◌∷◌}
use Rattle.model.specs.Summary.{Summary}
use Rattle.model.specs.Pattern.{Pattern}
use Rattle.model.specs.Embeddings.{summary_embeddings}
use Rattle.model.specs.Canonical.{covered}

-- how far the trials have come: how many may still be tried and how many have passed; or the verdict is known
pub data Progress : Type 0 where
  going : ℕ → ℕ → Progress
  failed : ℕ → List ℕ → Progress
  halted : ℕ → Progress

-- one more placement: past the limit there are more, else it is tried
unfoldable pub step : (List ℕ → Bool) → Progress → List ℕ → Progress
step test (going zero tried) es = halted tried
step test (going (suc left) tried) es = elim (test es) [ true ↦ going left (suc tried) | false ↦ failed (suc tried) es ]
step test (failed tried e) es = failed tried e
step test (halted tried) es = halted tried

unfoldable pub run : (List ℕ → Bool) → Progress → List (List ℕ) → Progress
run test s [] = s
run test s (x ∷ xs) = run test (step test s x) xs

-- included, not included (with the placement whose trial is shown) and stopped, each with tried
pub data Verdict : Type 0 where
  included : ℕ → Verdict
  not_included : ℕ → List ℕ → Verdict
  stopped : ℕ → Verdict

unfoldable pub conclude : Progress → Verdict
conclude (going left tried) = included tried
conclude (failed tried es) = not_included tried es
conclude (halted tried) = stopped tried

-- the verdict with limit L on placements, by a test of one placement
unfoldable pub judge : (List ℕ → Bool) → ℕ → List (List ℕ) → Verdict
judge test L xs = conclude (run test (going L 0) xs)

-- the verdict with limit L, on the first selection and a set
unfoldable pub verdict : Summary → Pattern → List Pattern → ℕ → Verdict
verdict S P Qs L = judge (covered S P Qs) L (summary_embeddings S P)

-- tried
unfoldable pub tried_of : Verdict → ℕ
tried_of (included n) = n
tried_of (not_included n es) = n
tried_of (stopped n) = n
