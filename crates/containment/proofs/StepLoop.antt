-- The loop that steps through the places of one node: what is left of the fold is the fold over the places left. A node's places
-- are taken lowest first, each extended by the recursion. Assumes nothing.
use Prim.Native.Nat.{ℕ, zero, suc, ◌+◌, ◌-◌, ◌≤◌, ◌<◌}
use mathlib.Core.Path.{◌≡◌, refl, sym, ap, ap₂, ◌∙◌, subst}
use mathlib.Core.Bool.{Bool, true, false}
use mathlib.Core.List.{List, [], ◌∷◌, ◌++◌, flat_map, Memᴰ}
use native.Mathlib.Omega.{arith}
use native.Mathlib.Numerals.{add-one}
use lib.Bits.{bit_and}
use lib.Dec.{eqb}
use lib.ListN.{length, get_or, set, take, length-set}
use lib.Seq.{length-take-le, take-length, take-take, take-suc-set, take-set-le, get_or-take, get_or-set_same, get_or-set_other}
use borrow.Author.Tests.{eqb-true, eqb-false}
use Rattle.std.specs.Prelude.{Result, Ok, Err}
use Rattle.model.specs.Lists.{has, members}
use Rattle.model.specs.Pattern.{Pattern, pattern_parent, descends}
use Rattle.model.specs.Verdict.{Progress, going, failed, halted, step, run}
use Rattle.model.proofs.Verdict.{run-append, run-failed, run-halted, step-pass, step-fail}
use Rattle.judging.specs.Room.{Placed}
use Rattle.judging.specs.Stepping.{Candidates, step_from, reach_by, places_by, sites_by, all_by}
use Rattle.model.proofs.KeepLaws.{flat-cons}
use Rattle.containment.specs.Steps.{going_by, progress_of, Stepped}
use Rattle.containment.specs.declared.Budget.{Budget}
use Rattle.containment.specs.declared.Halt.{Halt}
use Rattle.containment.specs.declared.Halt.TheVariants.{Failed, Stopped}

-- ---- one embedding tried

module _ (test : List ℕ → Bool) (left tried : ℕ) (es : List ℕ) where
  pub attempt-none : left ≡ 0 → halted tried ≡ step test (going left tried) es
  unfolding step
  attempt-none e = sym (ap (λ (l : ℕ). step test (going l tried) es) e)

  some : (left ≡ 0 → ⊥) → left ≡ suc (left - 1)
  some ne = omega arith

  pub attempt-pass : (left ≡ 0 → ⊥) → test es ≡ true → going (left - 1) (tried + 1) ≡ step test (going left tried) es
  attempt-pass ne e =
      ap (going (left - 1)) (add-one tried) ∙ sym (ap (λ (l : ℕ). step test (going l tried) es) (some ne) ∙ step-pass test (left - 1) tried es e)

  pub attempt-fail : (left ≡ 0 → ⊥) → test es ≡ false → failed (tried + 1) es ≡ step test (going left tried) es
  attempt-fail ne e =
      ap (λ (n : ℕ). failed n es) (add-one tried) ∙ sym (ap (λ (l : ℕ). step test (going l tried) es) (some ne) ∙ step-fail test (left - 1) tried es e)

-- ---- a node's places

-- the places of node q after the images before it
pub sites-take : (P : Pattern) (M : Candidates) (images : List ℕ) (q : ℕ) → q ≤ length images → pattern_parent P q < q
    → sites_by P M (take q images) ≡ places_by P M q (get_or images (pattern_parent P q) 0)
unfolding sites_by
sites-take P M images q h k =
    ap (λ (n : ℕ). places_by P M n (get_or (take q images) (pattern_parent P n) 0)) (length-take-le q images h) ∙ ap (places_by P M q) (get_or-take q images (pattern_parent P q) 0 k)

-- what a child edge reaches
pub reach_near : (M : Candidates) (a : ℕ) {far : Bool} → far ≡ false → M.children a ≡ reach_by M a far
unfolding reach_by
reach_near M a e = sym (ap (λ (b : Bool). elim b as (λ _. ℕ) [ true ↦ M.descendants a | false ↦ M.children a ]) e)

-- what the code reads, with the parent j of q, its image a, and what the edge reaches from there
pub site-end : (P : Pattern) (M : Candidates) (images : List ℕ) {q j a r k : ℕ} {far : Bool} → q ≤ length images → pattern_parent P q < q → j ≡ pattern_parent P q → a ≡ get_or images j 0 → far ≡ descends P q
    → r ≡ reach_by M a far → k ≡ M.parts q → bit_and r k ≡ sites_by P M (take q images)
unfolding places_by
site-end P M images {q} {j} {a} {r} {k} {far} h l p i f e n =
    ap₂ bit_and (e ∙ ap₂ (reach_by M) (i ∙ ap (λ (x : ℕ). get_or images x 0) p) f) n ∙ sym (sites-take P M images q h l)

-- ---- the fold

-- a run that goes on has as many trials left and tried as it began with
run-sum : (test : List ℕ → Bool) (left tried l t : ℕ) (xs : List (List ℕ)) → run test (going left tried) xs ≡ going l t → l + t ≡ left + tried
unfolding run step
run-sum test left tried l t [] e = let p : going left tried ≡ going l t = e in ap₂ (λ (a b : ℕ). a + b) (sym (cc)) (sym (cc))
run-sum test zero tried l t (x ∷ xs) e = let p : halted tried ≡ going l t = sym (run-halted test tried xs) ∙ e in let z : ◌≡◌ {A = ℕ} 0 1 = cc in absurd (omega arith)
run-sum test (suc left) tried l t (x ∷ xs) e = go (test x) e (λ a b p. run-sum test a b l t xs p)
  where
    go : (b : Bool) → run test (elim b as (λ _. Progress) [ true ↦ going left (suc tried) | false ↦ failed (suc tried) x ]) xs ≡ going l t
        → ((a c : ℕ) → run test (going a c) xs ≡ going l t → l + t ≡ a + c) → l + t ≡ suc left + tried
    go true p rest = let k : l + t ≡ left + suc tried = rest left (suc tried) p in omega arith
    go false p rest = let q : failed (suc tried) x ≡ going l t = sym (run-failed test (suc tried) x xs) ∙ p in let z : ◌≡◌ {A = ℕ} 0 1 = cc in absurd (omega arith)

module _ (test : List ℕ → Bool) (P : Pattern) (M : Candidates) where
  -- what is left to step through with the places of node q in `rest`, after the images es
  abbrev pub ahead : ℕ → List ℕ → List ℕ → List (List ℕ)
  ahead q es rest = flat_map (λ v. step_from (sites_by P M) (length P - (q + 1)) (es ++ v ∷ [])) rest

  -- where the loop stands: rest has the places of node q that are left
  pub record StepInv (q : ℕ) (n : Budget) (entry images rest : List ℕ) (now : Budget) : Type 0 where
    pub kept : take q images ≡ take q entry
    pub placed : length images ≡ length P
    pub inside : (c : ℕ) → c < length P → get_or images c 0 < 64
    pub sum : now.left + now.tried ≡ n.left + n.tried
    pub among : (v : ℕ) → Memᴰ v rest → Memᴰ v (members (sites_by P M (take q entry)))
    pub same : run test (going_by now) (ahead q (take q entry) rest) ≡ run test (going_by n) (step_from (sites_by P M) (length P - q) (take q entry))

module _ {test : List ℕ → Bool} {P : Pattern} {M : Candidates} {q : ℕ} {n : Budget} {entry : List ℕ} where
  -- a whole embedding
  pub step-leaf : {r : Result Budget Halt} → q ≡ length P → length entry ≡ length P → ((c : ℕ) → c < length P → get_or entry c 0 < 64) → progress_of entry r ≡ step test (going_by n) entry
      → Stepped test P M q n entry entry r
  unfolding step_from run
  step-leaf {r} e p i s =
      record {
        kept = refl;
        inside = i;
        same = s ∙ ap (step test (going_by n)) (sym all) ∙ ap (λ (k : ℕ). run test (going_by n) (step_from (sites_by P M) k (take q entry))) none;
      }
    where
      none : 0 ≡ length P - q
      none = omega arith

      all : take q entry ≡ entry
      all = ap (λ (k : ℕ). take k entry) (e ∙ sym p) ∙ take-length entry

  pub step_start : {rest : List ℕ} → q < length P → length entry ≡ length P → ((c : ℕ) → c < length P → get_or entry c 0 < 64) → rest ≡ members (sites_by P M (take q entry))
      → StepInv test P M q n entry entry rest n
  unfolding step_from
  step_start {rest} h p i e =
      record {
        kept = refl;
        placed = p;
        inside = i;
        sum = refl;
        among = λ v k. subst (λ (s : List ℕ). Memᴰ v s) e k;
        same = ap (λ (k : List ℕ). run test (going_by n) (ahead test P M q (take q entry) k)) e ∙ ap (λ (k : ℕ). run test (going_by n) (step_from (sites_by P M) k (take q entry))) more;
      }
    where
      more : suc (length P - (q + 1)) ≡ length P - q
      more = omega arith

  pub step_end : {images rest : List ℕ} {now : Budget} → StepInv test P M q n entry images rest now → rest ≡ [] → Stepped test P M q n entry images (Ok now)
  unfolding flat_map run
  step_end {images} {rest} {now} v e =
      record {
        kept = v.kept;
        inside = v.inside;
        same = sym (ap (λ (xs : List ℕ). run test (going_by now) (flat_map (λ v. step_from (sites_by P M) (length P - (q + 1)) (take q entry ++ v ∷ [])) xs)) e) ∙ v.same;
      }

  -- one place more, by the recursion
  module _ {images rest : List ℕ} {v : ℕ} {rest' : List ℕ} {now : Budget} {images' images'' : List ℕ} {r : Result Budget Halt} (I : StepInv test P M q n entry images rest now) (h : q < length P)
      (p : rest ≡ v ∷ rest') (s : images' ≡ set images q v) (S : Stepped test P M (q + 1) now images' images'' r) where
    longer : take (q + 1) images' ≡ take q entry ++ v ∷ []
    longer =
        let k : length images ≡ length P = I.placed in
        ap₂ (λ (i : ℕ) (xs : List ℕ). take i xs) (add-one q) s ∙ take-suc-set images q v (omega arith) ∙ ap (λ (xs : List ℕ). xs ++ v ∷ []) I.kept

    next-kept : take q images'' ≡ take q entry
    next-kept =
        let k : length images ≡ length P = I.placed in
        sym (take-take q (q + 1) images'' (omega arith)) ∙ ap (take q) S.kept ∙ take-take q (q + 1) images' (omega arith) ∙ ap (take q) s ∙ take-set-le q images q v (omega arith) ∙ I.kept

    next-same : run test (progress_of images'' r) (ahead test P M q (take q entry) rest') ≡ run test (going_by n) (step_from (sites_by P M) (length P - q) (take q entry))
    next-same =
        ap (λ (g : Progress). run test g (flat_map F rest')) (S.same ∙ ap (λ (es : List ℕ). run test (going_by now) (step_from (sites_by P M) (length P - (q + 1)) es)) longer)
        ∙ sym (run-append test (going_by now) (F v) (flat_map F rest'))
        ∙ ap (run test (going_by now)) (sym (flat-cons F v rest') ∙ ap (flat_map F) (sym p))
        ∙ I.same
      where
        F : ℕ → List (List ℕ)
        F u = step_from (sites_by P M) (length P - (q + 1)) (take q entry ++ u ∷ [])

    pub step-again : {now' : Budget} → length images'' ≡ length images → r ≡ Ok now' → StepInv test P M q n entry images'' rest' now'
    step-again {now'} len e =
        let G : progress_of images'' r ≡ going_by now' = ap (progress_of images'') e in
        record {
          kept = next-kept;
          placed = len ∙ I.placed;
          inside = S.inside;
          sum = run-sum test now.left now.tried now'.left now'.tried (step_from (sites_by P M) (length P - (q + 1)) (take (q + 1) images')) (sym S.same ∙ G) ∙ I.sum;
          among = λ u k. I.among u (subst (λ (us : List ℕ). Memᴰ u us) (sym p) (Memᴰ.tail k));
          same = ap (λ (g : Progress). run test g (ahead test P M q (take q entry) rest')) (sym G) ∙ next-same;
        }

  -- the verdict is known
  pub step-over : {images rest : List ℕ} {v : ℕ} {rest' : List ℕ} {now : Budget} {images' images'' : List ℕ} {r : Result Budget Halt} (e : Halt) → StepInv test P M q n entry images rest now → q < length P
      → rest ≡ v ∷ rest' → images' ≡ set images q v → Stepped test P M (q + 1) now images' images'' r → r ≡ Err e → Stepped test P M q n entry images'' (Err e)
  step-over {rest' = rest'} {images'' = images''} e I h p s S tag =
      let S' = subst (Stepped test P M (q + 1) _ _ images'') tag S in
      record { kept = next-kept I h p s S'; inside = S'.inside; same = over e ∙ next-same I h p s S' }
    where
      over : (e : Halt) → progress_of images'' (Err e) ≡ run test (progress_of images'' (Err e)) (ahead test P M q (take q entry) rest')
      over (Failed a) = sym (run-failed test a images'' (ahead test P M q (take q entry) rest'))
      over (Stopped a) = sym (run-halted test a (ahead test P M q (take q entry) rest'))

  -- the first place left is one of the node's
  pub first-among : {images rest : List ℕ} {v : ℕ} {rest' : List ℕ} {now : Budget} → StepInv test P M q n entry images rest now → rest ≡ v ∷ rest' → Memᴰ v (members (sites_by P M (take q entry)))
  first-among {v = v} I p = I.among v (subst (λ (us : List ℕ). Memᴰ v us) (sym p) (Memᴰ.head refl))

-- ---- other images

-- images in the summary, with one more
placed-inside : {m q v : ℕ} (images : List ℕ) {images' : List ℕ} → q < length images → v < 64 → images' ≡ set images q v → ((c : ℕ) → c < m → get_or images c 0 < 64) → (c : ℕ) → c < m → get_or images' c 0 < 64
placed-inside {m} {q} {v} images {images'} h k s i c l = subst (λ (xs : List ℕ). get_or xs c 0 < 64) (sym s) (go (eqb c q) refl)
  where
    go : (b : Bool) → eqb c q ≡ b → get_or (set images q v) c 0 < 64
    go true e = subst (λ (x : ℕ). get_or (set images q v) x 0 < 64) (sym (eqb-true c q e)) (subst (λ (x : ℕ). x < 64) (sym (get_or-set_same images q v 0 h)) k)
    go false e = subst (λ (x : ℕ). x < 64) (sym (get_or-set_other images q c v 0 (eqb-false c q e))) (i c l)

-- other images in the summary do as well
pub other-images : {P : Pattern} {images : List ℕ} (images' : List ℕ) → Placed P images → length images' ≡ length images → ((c : ℕ) → c < length images → get_or images' c 0 < 64) → Placed P images'
other-images images' R e i = record { pattern = R.pattern; placed = e ∙ R.placed; inside = λ c h. i c (subst (λ (n : ℕ). c < n) (sym R.placed) h) }

-- with one node placed
pub images-placed : {P : Pattern} {q v : ℕ} {images images' : List ℕ} → Placed P images → q < length images → v < 64 → images' ≡ set images q v → Placed P images'
images-placed {q = q} {v = v} {images = images} R h k s =
    record { pattern = R.pattern; placed = ap length s ∙ length-set images q v ∙ R.placed; inside = placed-inside images h k s R.inside }

-- ---- all embeddings

module _ (test : List ℕ → Bool) (P : Pattern) (M : Candidates) (limit : ℕ) where
  pub all_none : has (M.parts 0) 0 ≡ false → going limit 0 ≡ run test (going limit 0) (all_by P M)
  unfolding all_by run
  all_none e = sym (ap (λ (b : Bool). run test (going limit 0) (elim b as (λ _. List (List ℕ)) [ true ↦ step_from (sites_by P M) (length P - 1) (0 ∷ []) | false ↦ [] ])) e)

  pub all-some : {n : Budget} (images : List ℕ) {images' images'' : List ℕ} {r : Result Budget Halt} → going_by n ≡ going limit 0 → has (M.parts 0) 0 ≡ true → 0 < length images → images' ≡ set images 0 0
      → Stepped test P M 1 n images' images'' r → progress_of images'' r ≡ run test (going limit 0) (all_by P M)
  unfolding all_by
  all-some {n} images {images'} g e h s S =
      S.same
      ∙ ap₂ (λ (a : Progress) (es : List ℕ). run test a (step_from (sites_by P M) (length P - 1) es)) g (ap (take 1) s ∙ take-suc-set images 0 0 h)
      ∙ sym (ap (λ (b : Bool). run test (going limit 0) (elim b as (λ _. List (List ℕ)) [ true ↦ step_from (sites_by P M) (length P - 1) (0 ∷ []) | false ↦ [] ])) e)
