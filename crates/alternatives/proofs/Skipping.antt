-- The places that stepping takes are the model's places, so what it lists are the completions, and by the tables their number is the
-- model's, up to the cap. Where all of them pass, the run over them is a skip. Assumes nothing.
use Prim.Native.Nat.{ℕ, zero, suc, ◌-◌, ◌*◌, ◌≤◌, ◌<◌, min}
use mathlib.Core.Path.{◌≡◌, refl, sym, ap, ap₂, ◌∙◌, subst}
use mathlib.Core.Bool.{Bool, true, false, ◌&&◌}
use mathlib.Core.Logic.{◌⊎◌, inl, inr}
use mathlib.Core.List.{List, [], ◌∷◌, ◌++◌, Memᴰ}
use native.Mathlib.Omega.{arith}
use native.Mathlib.Nat.{one-mul, eq-zero-or-pos}
use lib.Bits.{bit_and}
use lib.Dec.{ltb}
use lib.ListN.{length, get_or, take}
use lib.Seq.{length-take-le, get_or-take}
use borrow.Author.Tests.{ltb-true, ltb-false}
use Rattle.model.specs.Lists.{up_from, keep, mask_below, has, members}
use Rattle.model.specs.Tree.{parent_of, Edge}
use Rattle.model.specs.Summary.{Summary, as_document}
use Rattle.model.specs.Pattern.{Pattern, IsPatternTree, pattern_parent, descends, Embeds}
use Rattle.model.specs.Embeddings.{edge_test, image_in, is_path}
use Rattle.model.specs.Facts.{SummaryFacts}
use Rattle.model.specs.Verdict.{going, run}
use Rattle.model.specs.Skipping.{places_of, product_of, completions, ways, ways_left, skip}
use Rattle.model.proofs.ListLaws.{and_left, and_right, up_from-mem, keep-elim}
use Rattle.model.proofs.Masks.{mask_below_lem, members-mask}
use Rattle.model.proofs.TreeLaws.{test-edge, length-as_document}
use Rattle.model.proofs.WaysLaws.{product-agree, length-completions}
use Rattle.model.proofs.Skipping.{Completes, completions-sound, run-skip, skip-capped}
use Rattle.bits.proofs.MaskLaws.{mask-and}
use Rattle.judging.specs.Blocks.{cell}
use Rattle.judging.specs.Prepared.{StepSets}
use Rattle.judging.specs.Skipping.{loop, ways_table, left_turn, left_by, PlacedBy, Counts}
use Rattle.judging.specs.Stepping.{step_from, Candidates, places_by, sites_by}
use Rattle.model.proofs.KeepLaws.{keep-keep, flat-agree}
use Rattle.judging.proofs.Deciding.{reach-mask, path-parts}
use Rattle.judging.proofs.RowLaws.{loop-keep, loop-product}
use Rattle.judging.proofs.SkipTables.{ways-table}
use Rattle.alternatives.specs.Alternatives.{Finishes}

-- ---- completions

-- stepping goes through the completions
steps-completions : (P : Pattern) (M : Candidates) (n : ℕ) (es : List ℕ) → step_from (sites_by P M) n es ≡ completions (pattern_parent P) (λ c x. members (places_by P M c x)) n es
unfolding step_from completions sites_by
steps-completions P M zero es = refl
steps-completions P M (suc n) es =
    flat-agree (λ v. step_from (sites_by P M) n (es ++ v ∷ [])) (λ v. completions (pattern_parent P) (λ c x. members (places_by P M c x)) n (es ++ v ∷ [])) (members (sites_by P M es))
    (λ v k. steps-completions P M n (es ++ v ∷ []))

-- ---- how many

module _ (P : Pattern) (n : ℕ) (counts : List ℕ) (places : ℕ → ℕ → List ℕ) (K : ℕ) (some : 0 < K)
    (counted : (c x : ℕ) → 0 < c → c < length P → x < n → get_or counts (cell c x) 0 ≡ min K (ways (length P) (pattern_parent P) places c x)) where
  abbrev up : ℕ → ℕ
  up = pattern_parent P

  abbrev m : ℕ
  m = length P

  -- the nodes from q on whose parent is placed
  abbrev free : ℕ → List ℕ
  free q = keep (λ c. ltb (up c) q) (up_from q (m - q))

  free-says : (q c : ℕ) → q ≤ m → Memᴰ c (free q) → (q ≤ c) × (c < m) × (up c < q)
  free-says q c l k =
      let r = keep-elim (λ c. ltb (up c) q) c (up_from q (m - q)) k in
      let u = up_from-mem q (m - q) c r.0 in
      (u.0, omega arith, ltb-true (up c) q r.1)

  left-right : (q : ℕ) (es : List ℕ) → 0 < q → q ≤ m → ((j : ℕ) → j < q → get_or es j 0 < n) → left_by K P counts q es ≡ min K (ways_left m up places q es)
  unfolding left_by left_turn ways_left
  left-right q es z l inside =
      let one : 1 ≡ min K 1 = omega arith in
      loop-keep (λ c. ltb (up c) q) (λ acc c. min K (acc * get_or counts (cell c (get_or es (up c) 0)) 0)) 1 (up_from q (m - q))
      ∙ ap (λ (a : ℕ). loop (λ acc c. min K (acc * get_or counts (cell c (get_or es (up c) 0)) 0)) a (free q)) one
      ∙ loop-product K (λ c. get_or counts (cell c (get_or es (up c) 0)) 0) (λ c. ways m up places c (get_or es (up c) 0)) 1 (free q) (λ c k. (let r = free-says q c l k in counted c (get_or es (up c) 0) (omega arith) r.1 (inside (up c) r.2)))
      ∙ ap (min K) (one-mul (product_of (λ c. ways m up places c (get_or es (up c) 0)) (free q)))

  -- only the first q images are read
  left-take : (q : ℕ) (es : List ℕ) → q ≤ m → ways_left m up places q (take q es) ≡ ways_left m up places q es
  unfolding ways_left
  left-take q es l =
      product-agree (λ c. ways m up places c (get_or (take q es) (up c) 0)) (λ c. ways m up places c (get_or es (up c) 0)) (free q)
      (λ c k. (let r = free-says q c l k in ap (ways m up places c) (get_or-take q es (up c) 0 r.2)))

-- ---- with the right masks

module _ (S : Summary) (P : Pattern) (M : Candidates) (Z : StepSets S P M) (s : SummaryFacts S) (p : IsPatternTree P) (narrow : length S ≤ 64) where
  abbrev parent : ℕ → ℕ
  parent = pattern_parent P

  abbrev places : ℕ → ℕ → List ℕ
  places c x = members (places_by P M c x)

  -- what a place says
  record Place (c x y : ℕ) : Type 0 where
    pub edge : Edge (descends P c) (as_document S) x y
    pub path : is_path S P c y ≡ true
    pub inside : y < length S

  place-mask : (c x : ℕ) → c < length P → x < length S → places_by P M c x ≡ mask_below (λ y. edge_test (descends P c) (as_document S) x y && is_path S P c y) (length S)
  unfolding places_by
  place-mask c x h l =
      ap₂ bit_and (reach-mask S P M Z x (descends P c) l) (Z.part c h) ∙ mask-and (edge_test (descends P c) (as_document S) x) (is_path S P c) (length S)

  -- the places by masks are the model's
  places-right : (c x : ℕ) → c < length P → x < length S → members (places_by P M c x) ≡ places_of S P c x
  unfolding places_of
  places-right c x h l = ap members (place-mask c x h l) ∙ members-mask (λ y. edge_test (descends P c) (as_document S) x y && is_path S P c y) (length S) narrow

  place-says : (c x y : ℕ) → c < length P → x < length S → Memᴰ y (places c x) → Place c x y
  unfolding places_of
  place-says c x y h l m =
      let k = keep-elim test y (up_from 0 (length S)) (subst (λ (ys : List ℕ). Memᴰ y ys) (places-right c x h l) m) in
      let i = up_from-mem 0 (length S) y k.0 in
      record {
        edge = test-edge (descends P c) (as_document S) x y s.tree (and_left (edge_test (descends P c) (as_document S) x y) (is_path S P c y) k.1);
        path = and_right (edge_test (descends P c) (as_document S) x y) (is_path S P c y) k.1;
        inside = omega arith;
      }
    where
      test : ℕ → Bool
      test y = edge_test (descends P c) (as_document S) x y && is_path S P c y

  root-inside : 0 < length S
  root-inside = subst (λ (n : ℕ). 0 < n) (length-as_document S) s.tree.inhabited

  -- ---- images that stand at places of theirs

  module _ (q : ℕ) (es : List ℕ) (le : q ≤ length P) (G : PlacedBy P M q es) where
    inside-below : (n c : ℕ) → c < n → c < q → image_in es c < length S
    inside-below zero c i h = absurd (omega arith)
    inside-below (suc n) c i h = go (eq-zero-or-pos c) (λ j l k. inside-below n j l k)
      where
        go : (c ≡ 0) ⊎ (0 < c) → ((j : ℕ) → j < n → j < q → image_in es j < length S) → image_in es c < length S
        go (inl e) rest = subst (λ (x : ℕ). x < length S) (sym (ap (image_in es) e ∙ G.first)) root-inside
        go (inr z) rest =
            let l : parent c < c = p.earlier c z (omega arith) in
            (place-says c (image_in es (parent c)) (image_in es c) (omega arith) (rest (parent c) (omega arith) (omega arith)) (G.placed c z h)).inside

    pub images-inside : (c : ℕ) → c < q → image_in es c < length S
    images-inside c h = inside-below (suc c) c (omega arith) h

    images-place : (c : ℕ) → 0 < c → c < q → Place c (image_in es (parent c)) (image_in es c)
    images-place c z h =
        let l : parent c < c = p.earlier c z (omega arith) in
        place-says c (image_in es (parent c)) (image_in es c) (omega arith) (images-inside (parent c) (omega arith)) (G.placed c z h)

  -- where all do, they are an embedding
  module _ (fs : List ℕ) (G : PlacedBy P M (length P) fs) where
    stands : (c : ℕ) → 0 < c → c < length P → Place c (image_in fs (parent c)) (image_in fs c)
    stands = images-place (length P) fs (omega arith) G

    placed-path : (c : ℕ) → c < length P → is_path S P c (image_in fs c) ≡ true
    placed-path zero h =
        subst (λ (x : ℕ). is_path S P 0 x ≡ true) (sym G.first)
        (sym (ap (λ (m : ℕ). has m 0) (Z.part 0 h) ∙ mask_below_lem (is_path S P 0) (length S) 0 root-inside) ∙ G.top)
    placed-path (suc c) h = (stands (suc c) (omega arith) h).path

    within : (c : ℕ) → c < length P → image_in fs c < length (as_document S)
    within c h = subst (λ (n : ℕ). image_in fs c < n) (sym (length-as_document S)) (images-inside (length P) fs (omega arith) G c h)

    pub placed-embeds : Embeds P (as_document S) (image_in fs)
    placed-embeds =
        record {
          inside = within;
          root = G.first;
          labels = λ c h. (path-parts S P s p).label c (image_in fs c) h (within c h) (placed-path c h);
          edges = λ c i h. (stands c i h).edge;
        }

  -- ---- completions

  module _ (q : ℕ) (es : List ℕ) (z : 0 < q) (le : q ≤ length P) (long : q ≤ length es) (G : PlacedBy P M q es) where
    -- what stepping lists
    listed : (fs : List ℕ) → Memᴰ fs (completions parent places (length P - q) (take q es)) → Completes (length P) parent places q es fs
    listed fs k =
        let n : length (take q es) ≡ q = length-take-le q es long in
        let m = completions-sound p (length P - q) (take q es) fs (omega arith) (omega arith) k in
        record {
          kept = λ c h. m.kept c (omega arith) ∙ get_or-take q es c 0 h;
          placed = λ c l h. m.placed c (omega arith) h;
        }

    -- a completion's images stand at places of theirs
    all-chosen : (fs : List ℕ) → Completes (length P) parent places q es fs → (c : ℕ) → 0 < c → c < length P → Memᴰ (image_in fs c) (places c (image_in fs (parent c)))
    all-chosen fs N c i h = go (ltb c q) refl
      where
        go : (b : Bool) → ltb c q ≡ b → Memᴰ (image_in fs c) (places c (image_in fs (parent c)))
        go true e =
            let k : c < q = ltb-true c q e in
            let l : parent c < c = p.earlier c i h in
            subst (λ (y : ℕ). Memᴰ y (places c (image_in fs (parent c)))) (sym (N.kept c k))
            (subst (λ (x : ℕ). Memᴰ (image_in es c) (places c x)) (sym (N.kept (parent c) (omega arith))) (G.placed c i k))
        go false e = N.placed c (ltb-false c q e) h

    -- so stepping goes through whole embeddings that keep the images
    pub listed-finishes : (fs : List ℕ) → Memᴰ fs (step_from (sites_by P M) (length P - q) (take q es)) → Finishes P M q es fs
    listed-finishes fs k =
        let N = listed fs (subst (λ (l : List (List ℕ)). Memᴰ fs l) (steps-completions P M (length P - q) (take q es)) k) in
        record { placed = record { top = G.top; first = N.kept 0 z ∙ G.first; placed = all-chosen fs N }; kept = N.kept }

    -- their number, up to the cap
    module _ (cap : ℕ) (counts : List ℕ) (some : 0 < cap) (counted : (c x : ℕ) → 0 < c → c < length P → x < length S → get_or counts (cell c x) 0 ≡ min cap (ways (length P) parent places c x)) where
      count-all : min cap (length (completions parent places (length P - q) (take q es))) ≡ left_by cap P counts q es
      count-all =
          let n : length (take q es) ≡ q = length-take-le q es long in
          ap (min cap) (length-completions (length P) parent places p (length P - q) (take q es) (omega arith) (omega arith)
          ∙ ap (λ (i : ℕ). ways_left (length P) parent places i (take q es)) n ∙ left-take P (length S) counts places cap some counted q es le)
          ∙ sym (left-right P (length S) counts places cap some counted q es z le (images-inside q es le G))

  -- ---- the tables of a case

  across : {x : ℕ} → x < length S → x < length (as_document S)
  across {x} l = subst (λ (n : ℕ). x < n) (sym (length-as_document S)) l

  back : {x : ℕ} → x < length (as_document S) → x < length S
  back {x} l = subst (λ (n : ℕ). x < n) (length-as_document S) l

  -- a node's paths
  paths : (c : ℕ) → c < length P → members (M.parts c) ≡ keep (is_path S P c) (up_from 0 (length S))
  paths c h = ap members (Z.part c h) ∙ members-mask (is_path S P c) (length S) narrow

  paths-inside : (c y : ℕ) → c < length P → Memᴰ y (members (M.parts c)) → y < length (as_document S)
  paths-inside c y h k =
      let r = keep-elim (is_path S P c) y (up_from 0 (length S)) (subst (λ (ys : List ℕ). Memᴰ y ys) (paths c h) k) in
      let u = up_from-mem 0 (length S) y r.0 in
      across (omega arith)

  -- those that the edge reaches from x are the places
  paths-reached : (c x : ℕ) → c < length P → x < length (as_document S) → keep (edge_test (descends P c) (as_document S) x) (members (M.parts c)) ≡ members (places_by P M c x)
  unfolding places_of
  paths-reached c x h l =
      ap (keep (edge_test (descends P c) (as_document S) x)) (paths c h)
      ∙ keep-keep (edge_test (descends P c) (as_document S) x) (is_path S P c) (up_from 0 (length S))
      ∙ sym (places-right c x h (back l))

  wide : length (as_document S) ≤ 64
  wide = subst (λ (n : ℕ). n ≤ 64) (sym (length-as_document S)) narrow

  -- the counts are those of the completions; they are filled from such as begin with no ways, by any table of the summary's parents
  pub ways-counted : length P ≤ 16 → (K : ℕ) (counts₀ : List ℕ) (parents : ℕ → ℕ) → 0 < K → 1024 ≤ length counts₀ → ((i : ℕ) → i < 1024 → get_or counts₀ i 0 ≡ 0)
      → ((b : ℕ) → b < length (as_document S) → parents b ≡ parent_of (as_document S) b)
      → Counts P M (ways_table K parents P M (length (as_document S)) counts₀) K
  ways-counted small K counts₀ parents some room none ups =
      record {
        same = λ q es z le long G.
            ap (λ (xs : List (List ℕ)). min K (length xs)) (steps-completions P M (length P - q) (take q es))
            ∙ count-all q es z le long G K (ways_table K parents P M (length (as_document S)) counts₀) some counted;
      }
    where
      counted : (c x : ℕ) → 0 < c → c < length P → x < length S → get_or (ways_table K parents P M (length (as_document S)) counts₀) (cell c x) 0 ≡ min K (ways (length P) parent places c x)
      counted c x z h l = ways-table (as_document S) s.tree wide parents P M p ups paths-inside paths-reached K some counts₀ (omega arith) (λ d y i j. none (cell d y) (let w = wide in omega arith)) c x z h (across l)

-- where all completions pass, the run over them is a skip of their number
pub covered-skips : {test : List ℕ → Bool} {P : Pattern} {M : Candidates} {counts : List ℕ} {K : ℕ} (q left tried : ℕ) (es : List ℕ) → Counts P M counts K → 0 < q → q ≤ length P → q ≤ length es → left < K
    → PlacedBy P M q es → ((fs : List ℕ) → Memᴰ fs (step_from (sites_by P M) (length P - q) (take q es)) → test fs ≡ true)
    → run test (going left tried) (step_from (sites_by P M) (length P - q) (take q es)) ≡ skip left tried (left_by K P counts q es)
covered-skips {test} {P} {M} {counts} {K} q left tried es N z le long h G all =
    let xs : List (List ℕ) = step_from (sites_by P M) (length P - q) (take q es) in
    run-skip test left tried xs all ∙ sym (skip-capped K left tried (length xs) h) ∙ ap (skip left tried) (N.same q es z le long G)
