-- What stepping keeps so that it may skip: the images placed so far stand at places of theirs. Assumes nothing.
use Prim.Native.Nat.{ℕ, ◌+◌, ◌-◌, ◌≤◌, ◌<◌}
use mathlib.Core.Path.{◌≡◌, refl, sym, ap, ◌∙◌, subst}
use mathlib.Core.Bool.{Bool, true, false}
use mathlib.Core.List.{List, ◌∷◌, Memᴰ}
use native.Mathlib.Omega.{arith}
use lib.Dec.{ltb}
use lib.ListN.{length, get_or, set, take}
use lib.Seq.{get_or-take, get_or-set_same, get_or-set_other}
use borrow.Author.Tests.{ltb-true, ltb-false}
use Rattle.std.specs.Prelude.{Result}
use Rattle.model.specs.Lists.{has, members}
use Rattle.model.specs.Pattern.{Pattern, IsPatternTree, pattern_parent}
use Rattle.model.specs.Skipping.{skip}
use Rattle.judging.specs.Skipping.{left_by, PlacedBy, Counts}
use Rattle.judging.specs.Stepping.{Candidates, step_from, places_by, sites_by}
use Rattle.alternatives.proofs.Skipping.{covered-skips}
use Rattle.containment.specs.Steps.{progress_of, Stepped}
use Rattle.containment.specs.declared.Budget.{Budget}
use Rattle.containment.specs.declared.Halt.{Halt}
use Rattle.containment.proofs.StepLoop.{sites-take, StepInv, first-among}

-- ---- the images so far

module _ {P : Pattern} {M : Candidates} (T : IsPatternTree P) where
  -- the root's image
  pub placed-root : (es : List ℕ) {es' : List ℕ} → es' ≡ set es 0 0 → has (M.parts 0) 0 ≡ true → 0 < length es → PlacedBy P M 1 es'
  placed-root es p e h = record { top = e; first = ap (λ (l : List ℕ). get_or l 0 0) p ∙ get_or-set_same es 0 0 0 h; placed = λ c z l. absurd (omega arith) }

  -- the first q images alone are asked
  pub placed-kept : (q : ℕ) (es fs : List ℕ) → 0 < q → q ≤ length P → take q fs ≡ take q es → PlacedBy P M q es → PlacedBy P M q fs
  placed-kept q es fs z l e G =
      record {
        top = G.top;
        first = same 0 z ∙ G.first;
        placed = λ c i h.
            let k : pattern_parent P c < c = T.earlier c i (omega arith) in
            subst (λ (y : ℕ). Memᴰ y (members (places_by P M c (get_or fs (pattern_parent P c) 0)))) (sym (same c h))
            (subst (λ (x : ℕ). Memᴰ (get_or es c 0) (members (places_by P M c x))) (sym (same (pattern_parent P c) (omega arith))) (G.placed c i h));
      }
    where
      same : (c : ℕ) → c < q → get_or fs c 0 ≡ get_or es c 0
      same c h = sym (get_or-take q fs c 0 h) ∙ ap (λ (l : List ℕ). get_or l c 0) e ∙ get_or-take q es c 0 h

  -- one image more, at one of its places
  pub placed-next : (q v : ℕ) (es : List ℕ) → 0 < q → q < length P → q < length es → PlacedBy P M q es → Memᴰ v (members (places_by P M q (get_or es (pattern_parent P q) 0)))
      → PlacedBy P M (q + 1) (set es q v)
  placed-next q v es z l h G k =
      record {
        top = G.top;
        first = other 0 z ∙ G.first;
        placed = λ c i j. go c i j (ltb c q) refl;
      }
    where
      other : (c : ℕ) → c < q → get_or (set es q v) c 0 ≡ get_or es c 0
      other c j = get_or-set_other es q c v 0 (λ e. omega arith)

      above : (c : ℕ) → 0 < c → c < q + 1 → get_or es (pattern_parent P c) 0 ≡ get_or (set es q v) (pattern_parent P c) 0
      above c i j =
          let b : pattern_parent P c < c = T.earlier c i (omega arith) in
          sym (other (pattern_parent P c) (omega arith))

      at : (c y : ℕ) → 0 < c → c < q + 1 → get_or (set es q v) c 0 ≡ y → Memᴰ y (members (places_by P M c (get_or es (pattern_parent P c) 0)))
          → Memᴰ (get_or (set es q v) c 0) (members (places_by P M c (get_or (set es q v) (pattern_parent P c) 0)))
      at c y i j e n =
          subst (λ (x : ℕ). Memᴰ (get_or (set es q v) c 0) (members (places_by P M c x))) (above c i j)
          (subst (λ (x : ℕ). Memᴰ x (members (places_by P M c (get_or es (pattern_parent P c) 0)))) (sym e) n)

      go : (c : ℕ) → 0 < c → c < q + 1 → (b : Bool) → ltb c q ≡ b → Memᴰ (get_or (set es q v) c 0) (members (places_by P M c (get_or (set es q v) (pattern_parent P c) 0)))
      go c i j true e =
          let n : c < q = ltb-true c q e in
          at c (get_or es c 0) i j (other c n) (G.placed c i n)
      go c i j false e =
          let n : q ≤ c = ltb-false c q e in
          let d : q ≡ c = omega arith in
          subst (λ (a : ℕ). Memᴰ (get_or (set es q v) a 0) (members (places_by P M a (get_or (set es q v) (pattern_parent P a) 0)))) d (at q v z (omega arith) (get_or-set_same es q v 0 h) k)

-- ---- stepping

-- with the next node placed, the images still stand at places of theirs
pub placed-step : {test : List ℕ → Bool} {P : Pattern} {M : Candidates} {q : ℕ} {n : Budget} {entry images rest : List ℕ} {v : ℕ} {rest' : List ℕ} {now : Budget} {images' : List ℕ} → IsPatternTree P → length entry ≡ length P
    → StepInv test P M q n entry images rest now → PlacedBy P M q entry → 0 < q → q < length P → rest ≡ v ∷ rest' → images' ≡ set images q v → PlacedBy P M (q + 1) images'
placed-step {P = P} {M} {q} {entry = entry} {images} {v = v} t e I G z h p s =
    let k : length images ≡ length P = I.placed in
    let l : pattern_parent P q < q = t.earlier q z h in
    let same : get_or entry (pattern_parent P q) 0 ≡ get_or images (pattern_parent P q) 0 = sym (get_or-take q entry (pattern_parent P q) 0 l) ∙ ap (λ (xs : List ℕ). get_or xs (pattern_parent P q) 0) (sym I.kept) ∙ get_or-take q images (pattern_parent P q) 0 l in
    subst (λ (es : List ℕ). PlacedBy P M (q + 1) es) (sym s)
    (placed-next t q v images z h (omega arith) (placed-kept t q entry images z (omega arith) I.kept G)
    (subst (λ (x : ℕ). Memᴰ v (members (places_by P M q x))) same (subst (λ (m : ℕ). Memᴰ v (members m)) (sites-take P M entry q (omega arith) l) (first-among I p))))

-- all extensions pass, and are skipped
pub step_skip : {test : List ℕ → Bool} {P : Pattern} {M : Candidates} {counts : List ℕ} {K q : ℕ} {n : Budget} {c : ℕ} {entry : List ℕ} {r : Result Budget Halt} → Counts P M counts K → PlacedBy P M q entry
    → 0 < q → q ≤ length P → n.left < K → length entry ≡ length P → ((c : ℕ) → c < length P → get_or entry c 0 < 64)
    → ((fs : List ℕ) → Memᴰ fs (step_from (sites_by P M) (length P - q) (take q entry)) → test fs ≡ true) → c ≡ left_by K P counts q entry
    → ((es : List ℕ) → progress_of es r ≡ skip n.left n.tried c) → Stepped test P M q n entry entry r
step_skip {q = q} {n = n} {entry = entry} N G z h l p i all k s =
    record {
      kept = refl;
      inside = i;
      same = s entry ∙ ap (skip n.left n.tried) k ∙ sym (covered-skips q n.left n.tried entry N z h (omega arith) l G all);
    }
