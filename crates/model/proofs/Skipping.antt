-- Skipping is sound: a completion keeps the images that it completes and places each further node at one of its places, and a run over
-- trials that all pass only advances the counters by their number. Assumes nothing.
use Prim.Native.Nat.{ℕ, zero, suc, ◌+◌, ◌-◌, ◌≤◌, ◌<◌, min}
use mathlib.Core.Path.{◌≡◌, refl, sym, ap, ◌∙◌, subst}
use mathlib.Core.Bool.{Bool, true, false}
use mathlib.Core.List.Memᴰ
use mathlib.Core.List.{List, [], ◌∷◌, ◌++◌, Memᴰ}
use native.Mathlib.Omega.{arith}
use lib.Dec.{eqb, ltb}
use lib.ListN.{length, get_or-append}
use lib.Seq.{get_or-append_seam}
use borrow.Author.Tests.{ltb-true, ltb-false, lt-ltb, eqb-true, eqb-false}
use Rattle.model.specs.Tree.{Rooted}
use Rattle.model.specs.Embeddings.{image_in}
use Rattle.model.specs.Verdict.{Progress, going, halted, run}
use Rattle.model.specs.Skipping.{completions, skip}
use Rattle.model.proofs.ListLaws.{flat-elim, length-snoc}
use Rattle.model.proofs.Verdict.{AllPass, run-pass, run-stop, take-mem}

-- ---- completions

-- fs completes the images es of the first q nodes, of m: it keeps them, and each further node goes to one of its places from its
-- parent's image
pub record Completes (m : ℕ) (parent : ℕ → ℕ) (places : ℕ → ℕ → List ℕ) (q : ℕ) (es fs : List ℕ) : Type 0 where
  pub kept : (c : ℕ) → c < q → image_in fs c ≡ image_in es c
  pub placed : (c : ℕ) → q ≤ c → c < m → Memᴰ (image_in fs c) (places c (image_in fs (parent c)))

module _ {m : ℕ} {parent : ℕ → ℕ} {places : ℕ → ℕ → List ℕ} (T : Rooted m parent) where
  -- one image less
  completes-next : (es fs : List ℕ) (v : ℕ) → 0 < length es → Memᴰ v (places (length es) (image_in es (parent (length es)))) → Completes m parent places (suc (length es)) (es ++ v ∷ []) fs
      → Completes m parent places (length es) es fs
  completes-next es fs v z k rest =
      record {
        kept = λ c h. rest.kept c (omega arith) ∙ get_or-append es (v ∷ []) 0 c h;
        placed = λ c h l. go c h l (eqb c q) refl;
      }
    where
      q : ℕ
      q = length es

      here : image_in fs q ≡ v
      here = rest.kept q (omega arith) ∙ get_or-append_seam es v [] 0

      above : q < m → image_in es (parent q) ≡ image_in fs (parent q)
      above h =
          let l : parent q < q = T.earlier q z h in
          sym (rest.kept (parent q) (omega arith) ∙ get_or-append es (v ∷ []) 0 (parent q) l)

      own : q < m → Memᴰ (image_in fs q) (places q (image_in fs (parent q)))
      own h = subst (λ (x : ℕ). Memᴰ x (places q (image_in fs (parent q)))) (sym here) (subst (λ (x : ℕ). Memᴰ v (places q x)) (above h) k)

      go : (c : ℕ) → q ≤ c → c < m → (b : Bool) → eqb c q ≡ b → Memᴰ (image_in fs c) (places c (image_in fs (parent c)))
      go c h l true d =
          let f : c ≡ q = eqb-true c q d in
          subst (λ (i : ℕ). Memᴰ (image_in fs i) (places i (image_in fs (parent i)))) (sym f) (own (omega arith))
      go c h l false d =
          let f : c ≡ q → ⊥ = eqb-false c q d in
          rest.placed c (omega arith) l

  -- every listed completion is one
  pub completions-sound : (n : ℕ) (es fs : List ℕ) → 0 < length es → n + length es ≡ m → Memᴰ fs (completions parent places n es) → Completes m parent places (length es) es fs
  unfolding completions
  completions-sound zero es fs z e k =
      let p : fs ≡ es = Memᴰ.eq_of_singleton k in
      record { kept = λ c h. ap (λ (l : List ℕ). image_in l c) p; placed = λ c h l. absurd (omega arith) }
  completions-sound (suc n) es fs z e k =
      let q : ℕ = length es in
      let r = flat-elim (λ v. completions parent places n (es ++ v ∷ [])) (places q (image_in es (parent q))) fs k in
      let s : length (es ++ r.0 ∷ []) ≡ suc q = length-snoc es r.0 in
      completes-next es fs r.0 z r.1
      (subst (λ (i : ℕ). Completes m parent places i (es ++ r.0 ∷ []) fs) s (completions-sound n (es ++ r.0 ∷ []) fs (omega arith) (omega arith) r.2))

-- ---- the run

-- over trials that all pass the counters advance
pub run-skip : (test : List ℕ → Bool) (left tried : ℕ) (xs : List (List ℕ)) → AllPass test xs → run test (going left tried) xs ≡ skip left tried (length xs)
unfolding skip
run-skip test left tried xs h = go (ltb left (length xs)) refl
  where
    go : (b : Bool) → ltb left (length xs) ≡ b → run test (going left tried) xs ≡ elim b as (λ _. Progress) [ true ↦ halted (tried + left) | false ↦ going (left - length xs) (tried + length xs) ]
    go true e = run-stop test left tried xs (λ x m. h x (take-mem left xs x m)) (ltb-true left (length xs) e)
    go false e =
        let l : length xs ≤ left = ltb-false left (length xs) e in
        run-pass test left tried (left - length xs) xs h (omega arith)

-- where fewer are left to try than the cap, a number that is cut at the cap will do
pub skip-capped : (K left tried n : ℕ) → left < K → skip left tried (min K n) ≡ skip left tried n
unfolding skip
skip-capped K left tried n h = go (ltb K n) refl
  where
    at : ℕ → Progress
    at i = elim (ltb left i) as (λ _. Progress) [ true ↦ halted (tried + left) | false ↦ going (left - i) (tried + i) ]

    stops : (i : ℕ) → left < i → at i ≡ halted (tried + left)
    stops i l = ap (λ (b : Bool). elim b as (λ _. Progress) [ true ↦ halted (tried + left) | false ↦ going (left - i) (tried + i) ]) (lt-ltb left i l)

    go : (b : Bool) → ltb K n ≡ b → at (min K n) ≡ at n
    go true e =
        let l : K < n = ltb-true K n e in
        stops (min K n) (omega arith) ∙ sym (stops n (omega arith))
    go false e =
        let l : n ≤ K = ltb-false K n e in
        ap at (omega arith)
