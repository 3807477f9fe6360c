-- Skipping: the completions of a partial placement, how many there are, and the run over them where all pass. proofs/Skipping.antt
-- shows that this run only advances the counters: code is promised against these, and no outcome of a call and no demand is stated with
-- them. `places c x` lists the places of first-pattern node c where its parent stands at x.
use Rattle.std.specs.Prelude.{ℕ, zero, suc, ◌+◌, ◌-◌, ◌*◌, true, false, ◌&&◌, eqb, ltb, length}
use mathlib.Core.List.{List, [], ◌∷◌, ◌++◌, flat_map}
use Rattle.model.specs.Lists.{up_from, keep}
use Rattle.model.specs.Summary.{Summary, as_document}
use Rattle.model.specs.Pattern.{Pattern, descends}
use Rattle.model.specs.Embeddings.{edge_test, image_in, is_path}
use Rattle.model.specs.Verdict.{Progress, going, halted}

-- the places of node c from x: the paths of c that its edge reaches
unfoldable pub places_of : Summary → Pattern → ℕ → ℕ → List ℕ
places_of S P c x = keep (λ y. edge_test (descends P c) (as_document S) x y && is_path S P c y) (up_from 0 (length S))

-- ---- how many completions

module _ {A : Type 0} where
  unfoldable pub sum_of : (A → ℕ) → List A → ℕ
  sum_of f [] = 0
  sum_of f (x ∷ xs) = f x + sum_of f xs

  unfoldable pub product_of : (A → ℕ) → List A → ℕ
  product_of f [] = 1
  product_of f (x ∷ xs) = f x * product_of f xs

-- the completions of a partial placement: the images es of the first nodes, extended in every way to n nodes more
unfoldable pub completions : (ℕ → ℕ) → (ℕ → ℕ → List ℕ) → ℕ → List ℕ → List (List ℕ)
completions parent places zero es = es ∷ []
completions parent places (suc n) es = flat_map (λ v. completions parent places n (es ++ v ∷ [])) (places (length es) (image_in es (parent (length es))))

-- the children of node c, of m nodes
unfoldable pub children_of : ℕ → (ℕ → ℕ) → ℕ → List ℕ
children_of m parent c = keep (λ d. ltb 0 d && eqb (parent d) c) (up_from 0 m)

-- in how many ways node c and all below it can be placed where its parent stands at x, at most n levels deep
unfoldable pub ways_in : ℕ → ℕ → (ℕ → ℕ) → (ℕ → ℕ → List ℕ) → ℕ → ℕ → ℕ
ways_in zero m parent places c x = 0
ways_in (suc n) m parent places c x = sum_of (λ y. product_of (λ d. ways_in n m parent places d y) (children_of m parent c)) (places c x)

unfoldable pub ways : ℕ → (ℕ → ℕ) → (ℕ → ℕ → List ℕ) → ℕ → ℕ → ℕ
ways m = ways_in m m

-- in how many ways the nodes from q on can be placed, after the images es of the first q: those whose parent is placed stand for
-- all below them
unfoldable pub ways_left : ℕ → (ℕ → ℕ) → (ℕ → ℕ → List ℕ) → ℕ → List ℕ → ℕ
ways_left m parent places q es = product_of (λ c. ways m parent places c (image_in es (parent c))) (keep (λ c. ltb (parent c) q) (up_from q (m - q)))

-- the run over n trials that all pass: they are counted, or the limit is met among them
unfoldable pub skip : ℕ → ℕ → ℕ → Progress
skip left tried n = elim (ltb left n) [ true ↦ halted (tried + left) | false ↦ going (left - n) (tried + n) ]
