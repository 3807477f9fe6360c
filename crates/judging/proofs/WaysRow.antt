-- Ways handed up a tree, from the last node on: what has come to a node is the sum over the nodes that the edge reaches from it by way of
-- nodes that have had their turn, so in the end over all that it reaches. Assumes nothing.
use Prim.Native.Nat.{ℕ, zero, suc, ◌+◌, ◌*◌, ◌≤◌, ◌<◌}
use mathlib.Core.Path.{◌≡◌, refl, sym, ap, ap₂, ◌∙◌, subst}
use mathlib.Core.Bool.{Bool, true, false, ◌&&◌}
use mathlib.Core.List.{List, [], ◌∷◌, Memᴰ}
use native.Mathlib.Omega.{arith}
use native.Mathlib.Nat.{add-mul, one-mul, zero-mul, mul-zero, zero-add}
use lib.Dec.{eqb, ltb}
use lib.ListN.{length}
use borrow.Author.Tests.{eqb-true, eqb-false, eq-eqb, ne_eqb, ltb-true, ltb-false, lt-ltb, le-ltb}
use Rattle.model.specs.Lists.{up_from, keep}
use Rattle.model.specs.Tree.{Document, IsTree, parent_of}
use Rattle.model.specs.Embeddings.{child_test, climbs, below_test, edge_test}
use Rattle.model.specs.Skipping.{sum_of}
use Rattle.model.proofs.ListLaws.{up_from-mem}
use Rattle.model.proofs.WaysLaws.{sum-agree}

-- ---- sums

abbrev pub unless : Bool → ℕ → ℕ
unless b n = elim b as (λ _. ℕ) [ true ↦ n | false ↦ 0 ]

sum-add : (f g : ℕ → ℕ) (xs : List ℕ) → sum_of (λ x. f x + g x) xs ≡ sum_of f xs + sum_of g xs
unfolding sum_of
sum-add f g [] = refl
sum-add f g (x ∷ xs) = let e : sum_of (λ y. f y + g y) xs ≡ sum_of f xs + sum_of g xs = sum-add f g xs in omega arith

sum-zero : (f : ℕ → ℕ) (xs : List ℕ) → ((x : ℕ) → Memᴰ x xs → f x ≡ 0) → sum_of f xs ≡ 0
unfolding sum_of
sum-zero f [] h = refl
sum-zero f (x ∷ xs) h = let a : f x ≡ 0 = h x (Memᴰ.head refl) in let b : sum_of f xs ≡ 0 = sum-zero f xs (λ y m. h y (Memᴰ.tail m)) in omega arith

-- of one number alone
sum_one : (f : ℕ → ℕ) (z a n : ℕ) → a ≤ z → z < a + n → sum_of (λ y. unless (eqb y z) 1 * f y) (up_from a n) ≡ f z
unfolding sum_of up_from
sum_one f z a zero h l = absurd (omega arith)
sum_one f z a (suc n) h l = go (eqb a z) refl (λ k. sum_one f z (suc a) n k (omega arith))
  where
    rest : ℕ
    rest = sum_of (λ y. unless (eqb y z) 1 * f y) (up_from (suc a) n)

    go : (b : Bool) → eqb a z ≡ b → (suc a ≤ z → rest ≡ f z) → unless (eqb a z) 1 * f a + rest ≡ f z
    go true e up =
        let s : a ≡ z = eqb-true a z e in
        let none : rest ≡ 0 = sum-zero (λ y. unless (eqb y z) 1 * f y) (up_from (suc a) n)
        (λ y m. (let k = up_from-mem (suc a) n y m in ap (λ (b : Bool). unless b 1 * f y) (ne_eqb y z (λ q. omega arith)) ∙ zero-mul (f y))) in
        let one : unless (eqb a z) 1 * f a ≡ f z = ap (λ (b : Bool). unless b 1 * f a) e ∙ one-mul (f a) ∙ ap f s in
        omega arith
    go false e up =
        let ne : a ≡ z → ⊥ = eqb-false a z e in
        let r : rest ≡ f z = up (omega arith) in
        let none : unless (eqb a z) 1 * f a ≡ 0 = ap (λ (b : Bool). unless b 1 * f a) e ∙ zero-mul (f a) in
        omega arith

-- what is kept
pub sum-keep : (test : ℕ → Bool) (f : ℕ → ℕ) (xs : List ℕ) → sum_of f (keep test xs) ≡ sum_of (λ y. unless (test y) (f y)) xs
unfolding sum_of keep
sum-keep test f [] = refl
sum-keep test f (x ∷ xs) = go (test x) (sum-keep test f xs)
  where
    go : (b : Bool) → sum_of f (keep test xs) ≡ sum_of (λ y. unless (test y) (f y)) xs
        → sum_of f (elim b as (λ _. List ℕ) [ true ↦ x ∷ keep test xs | false ↦ keep test xs ]) ≡ unless b (f x) + sum_of (λ y. unless (test y) (f y)) xs
    go true r = ap (λ (n : ℕ). f x + n) r
    go false r = r ∙ sym (zero-add (sum_of (λ y. unless (test y) (f y)) xs))

-- ---- what is reached

module _ (up : ℕ → ℕ) where
  -- 1 where the edge reaches y from x and every node on the way, y among them, is after k
  pub reached : ℕ → Bool → ℕ → ℕ → ℕ → ℕ
  reached zero far k x y = 0
  reached (suc m) far k x y =
      elim (ltb k y) as (λ _. ℕ) [ true ↦ elim (eqb (up y) x) as (λ _. ℕ) [ true ↦ 1 | false ↦ unless far (reached m far k x (up y)) ] | false ↦ 0 ]

  reached-none : (m : ℕ) (far : Bool) (k x y : ℕ) → y ≤ k → reached m far k x y ≡ 0
  unfolding reached
  reached-none zero far k x y h = refl
  reached-none (suc m) far k x y h =
      ap (λ (b : Bool). elim b as (λ _. ℕ) [ true ↦ elim (eqb (up y) x) as (λ _. ℕ) [ true ↦ 1 | false ↦ unless far (reached m far k x (up y)) ] | false ↦ 0 ]) (le-ltb k y h)

  reached-after : (m : ℕ) (far : Bool) (k x y : ℕ) → k < y
      → reached (suc m) far k x y ≡ (elim (eqb (up y) x) as (λ _. ℕ) [ true ↦ 1 | false ↦ unless far (reached m far k x (up y)) ])
  unfolding reached
  reached-after m far k x y h =
      ap (λ (b : Bool). elim b as (λ _. ℕ) [ true ↦ elim (eqb (up y) x) as (λ _. ℕ) [ true ↦ 1 | false ↦ unless far (reached m far k x (up y)) ] | false ↦ 0 ]) (lt-ltb k y h)

  reached-child : (m : ℕ) (far : Bool) (k x y : ℕ) → k < y → up y ≡ x → reached (suc m) far k x y ≡ 1
  reached-child m far k x y h e =
      reached-after m far k x y h ∙ ap (λ (b : Bool). elim b as (λ _. ℕ) [ true ↦ 1 | false ↦ unless far (reached m far k x (up y)) ]) (eq-eqb (up y) x e)

  reached-on : (m : ℕ) (far : Bool) (k x y : ℕ) → k < y → (up y ≡ x → ⊥) → reached (suc m) far k x y ≡ unless far (reached m far k x (up y))
  reached-on m far k x y h ne =
      reached-after m far k x y h ∙ ap (λ (b : Bool). elim b as (λ _. ℕ) [ true ↦ 1 | false ↦ unless far (reached m far k x (up y)) ]) (ne_eqb (up y) x ne)

  module _ (n : ℕ) (falls : (y : ℕ) → 0 < y → y < n → up y < y) (k : ℕ) (l : suc k < n) (far : Bool) where
    abbrev z : ℕ
    z = suc k

    -- with z's turn, z and what is reached from it are reached from its parent
    reached-in : (m y : ℕ) → y ≤ m → y < n → reached m far k (up z) y ≡ reached m far z (up z) y + (unless (eqb y z) 1 + unless far (reached m far z z y))
    unfolding reached
    reached-in zero y h i = both far
      where
        none : unless (eqb y z) 1 ≡ 0
        none = ap (λ (b : Bool). unless b 1) (ne_eqb y z (λ e. omega arith))

        both : (f : Bool) → 0 ≡ 0 + (unless (eqb y z) 1 + unless f 0)
        both true = let a = none in omega arith
        both false = let a = none in omega arith
    reached-in (suc m) y h i = by_order (ltb z y) refl (eqb y z) refl (λ o p. reached-in m (up y) o p)
      where
        fall : up z < z
        fall = falls z (omega arith) l

        nothing : (f : Bool) → unless f 0 ≡ 0
        nothing true = refl
        nothing false = refl

        after : z < y → (up y ≤ m → up y < n → reached m far k (up z) (up y) ≡ reached m far z (up z) (up y) + (unless (eqb (up y) z) 1 + unless far (reached m far z z (up y))))
            → (b : Bool) → eqb (up y) (up z) ≡ b → (c : Bool) → eqb (up y) z ≡ c
            → reached (suc m) far k (up z) y ≡ reached (suc m) far z (up z) y + (unless (eqb y z) 1 + unless far (reached (suc m) far z z y))
        after g rest true e c q =
            let s : up y ≡ up z = eqb-true (up y) (up z) e in
            let u : up z < z = fall in
            let one : reached (suc m) far k (up z) y ≡ 1 = reached-child m far k (up z) y (omega arith) s in
            let two : reached (suc m) far z (up z) y ≡ 1 = reached-child m far z (up z) y g s in
            let own : unless (eqb y z) 1 ≡ 0 = ap (λ (b : Bool). unless b 1) (ne_eqb y z (λ r. omega arith)) in
            let far-off : reached (suc m) far z z y ≡ 0 = reached-on m far z z y g (λ r. omega arith) ∙ ap (unless far) (reached-none m far z z (up y) (omega arith)) ∙ nothing far in
            let last : unless far (reached (suc m) far z z y) ≡ 0 = ap (unless far) far-off ∙ nothing far in
            omega arith
        after g rest false e true q =
            let ne : up y ≡ up z → ⊥ = eqb-false (up y) (up z) e in
            let s : up y ≡ z = eqb-true (up y) z q in
            let one : reached (suc m) far k (up z) y ≡ unless far (reached m far k (up z) (up y)) = reached-on m far k (up z) y (omega arith) ne in
            let two : reached (suc m) far z (up z) y ≡ 0 = reached-on m far z (up z) y g ne ∙ ap (unless far) (reached-none m far z (up z) (up y) (omega arith)) ∙ nothing far in
            let own : unless (eqb y z) 1 ≡ 0 = ap (λ (b : Bool). unless b 1) (ne_eqb y z (λ r. omega arith)) in
            let here : reached (suc m) far z z y ≡ 1 = reached-child m far z z y g s in
            let inner : reached m far k (up z) (up y) ≡ 1 = (let r = rest (omega arith) (omega arith) in
            let a : reached m far z (up z) (up y) ≡ 0 = reached-none m far z (up z) (up y) (omega arith) in
            let b : unless (eqb (up y) z) 1 ≡ 1 = ap (λ (b : Bool). unless b 1) q in
            let d : unless far (reached m far z z (up y)) ≡ 0 = ap (unless far) (reached-none m far z z (up y) (omega arith)) ∙ nothing far in
            omega arith) in
            let same : unless far (reached m far k (up z) (up y)) ≡ unless far (reached (suc m) far z z y) = ap (unless far) (inner ∙ sym here) in
            omega arith
        after g rest false e false q =
            let ne : up y ≡ up z → ⊥ = eqb-false (up y) (up z) e in
            let nz : up y ≡ z → ⊥ = eqb-false (up y) z q in
            let one : reached (suc m) far k (up z) y ≡ unless far (reached m far k (up z) (up y)) = reached-on m far k (up z) y (omega arith) ne in
            let two : reached (suc m) far z (up z) y ≡ unless far (reached m far z (up z) (up y)) = reached-on m far z (up z) y g ne in
            let own : unless (eqb y z) 1 ≡ 0 = ap (λ (b : Bool). unless b 1) (ne_eqb y z (λ r. omega arith)) in
            let three : reached (suc m) far z z y ≡ unless far (reached m far z z (up y)) = reached-on m far z z y g nz in
            let f : up y < y = falls y (omega arith) i in
            let r : reached m far k (up z) (up y) ≡ reached m far z (up z) (up y) + (unless (eqb (up y) z) 1 + unless far (reached m far z z (up y))) = rest (omega arith) (omega arith) in
            let b : unless (eqb (up y) z) 1 ≡ 0 = ap (λ (b : Bool). unless b 1) q in
            let r' : reached m far k (up z) (up y) ≡ reached m far z (up z) (up y) + unless far (reached m far z z (up y)) = omega arith in
            one ∙ ap (unless far) r' ∙ spread far (reached m far z (up z) (up y)) (reached m far z z (up y))
            ∙ sym (ap₂ (λ (u v : ℕ). u + v) two (ap (λ (v : ℕ). v + unless far (reached (suc m) far z z y)) own ∙ ap (λ (v : ℕ). 0 + unless far v) three))
          where
            spread : (f : Bool) (u v : ℕ) → unless f (u + unless f v) ≡ unless f u + (0 + unless f (unless f v))
            spread true u v = omega arith
            spread false u v = refl

        by_order : (b : Bool) → ltb z y ≡ b → (c : Bool) → eqb y z ≡ c
            → (up y ≤ m → up y < n → reached m far k (up z) (up y) ≡ reached m far z (up z) (up y) + (unless (eqb (up y) z) 1 + unless far (reached m far z z (up y))))
            → reached (suc m) far k (up z) y ≡ reached (suc m) far z (up z) y + (unless (eqb y z) 1 + unless far (reached (suc m) far z z y))
        by_order true e c q rest = after (ltb-true z y e) rest (eqb (up y) (up z)) refl (eqb (up y) z) refl
        by_order false e true q rest =
            let s : y ≡ z = eqb-true y z q in
            let one : reached (suc m) far k (up z) y ≡ 1 = reached-child m far k (up z) y (omega arith) (ap up s) in
            let two : reached (suc m) far z (up z) y ≡ 0 = reached-none (suc m) far z (up z) y (omega arith) in
            let own : unless (eqb y z) 1 ≡ 1 = ap (λ (b : Bool). unless b 1) q in
            let last : unless far (reached (suc m) far z z y) ≡ 0 = ap (unless far) (reached-none (suc m) far z z y (omega arith)) ∙ nothing far in
            omega arith
        by_order false e false q rest =
            let o : y ≤ z = ltb-false z y e in
            let ne : y ≡ z → ⊥ = eqb-false y z q in
            let one : reached (suc m) far k (up z) y ≡ 0 = reached-none (suc m) far k (up z) y (omega arith) in
            let two : reached (suc m) far z (up z) y ≡ 0 = reached-none (suc m) far z (up z) y (omega arith) in
            let own : unless (eqb y z) 1 ≡ 0 = ap (λ (b : Bool). unless b 1) q in
            let last : unless far (reached (suc m) far z z y) ≡ 0 = ap (unless far) (reached-none (suc m) far z z y (omega arith)) ∙ nothing far in
            omega arith

    -- and nothing more from another node
    reached-out : (m x y : ℕ) → (x ≡ up z → ⊥) → y < n → reached m far k x y ≡ reached m far z x y
    unfolding reached
    reached-out zero x y ne i = refl
    reached-out (suc m) x y ne i = go (ltb z y) refl (eqb y z) refl (eqb (up y) x) refl (λ p. reached-out m x (up y) ne p)
      where
        nothing : (f : Bool) → unless f 0 ≡ 0
        nothing true = refl
        nothing false = refl

        go : (b : Bool) → ltb z y ≡ b → (c : Bool) → eqb y z ≡ c → (d : Bool) → eqb (up y) x ≡ d → (up y < n → reached m far k x (up y) ≡ reached m far z x (up y)) → reached (suc m) far k x y ≡ reached (suc m) far z x y
        go true e c q true r rest =
            let g : z < y = ltb-true z y e in
            reached-child m far k x y (omega arith) (eqb-true (up y) x r) ∙ sym (reached-child m far z x y g (eqb-true (up y) x r))
        go true e c q false r rest =
            let g : z < y = ltb-true z y e in
            let f : up y < y = falls y (omega arith) i in
            reached-on m far k x y (omega arith) (eqb-false (up y) x r) ∙ ap (unless far) (rest (omega arith)) ∙ sym (reached-on m far z x y g (eqb-false (up y) x r))
        go false e true q d r rest =
            let s : y ≡ z = eqb-true y z q in
            let f : up z < z = falls z (omega arith) l in
            let u : up y ≡ up z = ap up s in
            reached-on m far k x y (omega arith) (λ a. ne (sym a ∙ u)) ∙ ap (unless far) (reached-none m far k x (up y) (omega arith)) ∙ nothing far ∙ sym (reached-none (suc m) far z x y (omega arith))
        go false e false q d r rest =
            let o : y ≤ z = ltb-false z y e in
            let n : y ≡ z → ⊥ = eqb-false y z q in
            reached-none (suc m) far k x y (omega arith) ∙ sym (reached-none (suc m) far z x y (omega arith))

-- ---- the tree of a document

module _ (W : Document) (tree : IsTree W) (up : ℕ → ℕ) (ups : (y : ℕ) → y < length W → up y ≡ parent_of W y) where
  falls : (y : ℕ) → 0 < y → y < length W → up y < y
  falls y z h = subst (λ (a : ℕ). a < y) (sym (ups y h)) (tree.earlier y z h)

  -- in the end what is reached is what the edge reaches
  reached-below : (m x y : ℕ) → y < length W → reached up m true 0 x y ≡ unless (climbs m W x y) 1
  unfolding reached climbs child_test
  reached-below zero x y h = refl
  reached-below (suc m) x y h =
      go (ltb 0 y) refl (eqb (up y) x) refl (λ i. reached-below m x (up y) i)
      ∙ sym (ap (λ (d : Bool). rest (ltb 0 y) (ltb y (length W)) d) (ap (λ (a : ℕ). eqb a x) (sym (ups y h))) ∙ ap (λ (b : Bool). rest (ltb 0 y) b (eqb (up y) x)) (lt-ltb y (length W) h))
    where
      -- climbing, by its three tests
      rest : Bool → Bool → Bool → ℕ
      rest b i d = unless (elim (b && i && d) as (λ _. Bool) [ true ↦ true | false ↦ b && climbs m W x (parent_of W y) ]) 1

      go : (b : Bool) → ltb 0 y ≡ b → (d : Bool) → eqb (up y) x ≡ d → (up y < length W → reached up m true 0 x (up y) ≡ unless (climbs m W x (up y)) 1) → reached up (suc m) true 0 x y ≡ rest (ltb 0 y) true (eqb (up y) x)
      go false e d q ih = reached-none up (suc m) true 0 x y (ltb-false 0 y e) ∙ sym (ap (λ (b : Bool). rest b true (eqb (up y) x)) e)
      go true e true q ih = reached-child up m true 0 x y (ltb-true 0 y e) (eqb-true (up y) x q) ∙ sym (ap₂ (λ (b c : Bool). rest b true c) e q)
      go true e false q ih =
          let z : 0 < y = ltb-true 0 y e in
          let f : up y < y = falls y z h in
          reached-on up m true 0 x y z (eqb-false (up y) x q) ∙ ih (omega arith) ∙ ap (λ (a : ℕ). unless (climbs m W x a) 1) (ups y h) ∙ sym (ap₂ (λ (b c : Bool). rest b true c) e q)

  reached-edge : (far : Bool) (x y : ℕ) → y < length W → reached up y far 0 x y ≡ unless (edge_test far W x y) 1
  unfolding edge_test below_test child_test reached
  reached-edge true x y h = reached-below y x y h
  reached-edge false x zero h = ap (λ (b : Bool). unless (b && ltb 0 (length W) && eqb (parent_of W 0) x) 1) (sym (le-ltb 0 0 (omega arith)))
  reached-edge false x (suc y) h = go (eqb (up (suc y)) x) refl
      ∙ sym (ap (λ (d : Bool). near (ltb 0 (suc y)) (ltb (suc y) (length W)) d) (ap (λ (a : ℕ). eqb a x) (sym (ups (suc y) h)))
      ∙ ap₂ (λ (b i : Bool). near b i (eqb (up (suc y)) x)) (lt-ltb 0 (suc y) (omega arith)) (lt-ltb (suc y) (length W) h))
    where
      near : Bool → Bool → Bool → ℕ
      near b i d = unless (b && i && d) 1

      go : (d : Bool) → eqb (up (suc y)) x ≡ d → reached up (suc y) false 0 x (suc y) ≡ near true true (eqb (up (suc y)) x)
      go true q = reached-child up y false 0 x (suc y) (omega arith) (eqb-true (up (suc y)) x q) ∙ sym (ap (near true true) q)
      go false q = reached-on up y false 0 x (suc y) (omega arith) (eqb-false (up (suc y)) x q) ∙ sym (ap (near true true) q)

  -- ---- what has come to x where the nodes after k have had their turn, each with f of its own

  module _ (narrow : length W ≤ 64) (far : Bool) (f : ℕ → ℕ) (beyond : (y : ℕ) → y < 64 → length W ≤ y → f y ≡ 0) where
    abbrev pub total : ℕ → ℕ → ℕ
    total k x = sum_of (λ y. reached up y far k x y * f y) (up_from 0 64)

    -- two sums agree where they do at the document's nodes
    agree : (a b : ℕ → ℕ) → ((y : ℕ) → y < length W → a y ≡ b y) → sum_of (λ y. a y * f y) (up_from 0 64) ≡ sum_of (λ y. b y * f y) (up_from 0 64)
    agree a b h = sum-agree (λ y. a y * f y) (λ y. b y * f y) (up_from 0 64) (λ y m. (let u = up_from-mem 0 64 y m in go y u.1 (ltb y (length W)) refl))
      where
        go : (y : ℕ) → y < 64 → (c : Bool) → ltb y (length W) ≡ c → a y * f y ≡ b y * f y
        go y i true e = ap (λ (v : ℕ). v * f y) (h y (ltb-true y (length W) e))
        go y i false e =
            let z : f y ≡ 0 = beyond y i (ltb-false y (length W) e) in
            ap (λ (v : ℕ). a y * v) z ∙ mul-zero (a y) ∙ sym (ap (λ (v : ℕ). b y * v) z ∙ mul-zero (b y))

    -- nothing, where the nodes after k have nothing of their own
    pub total-start : (k x : ℕ) → ((y : ℕ) → k < y → y < length W → f y ≡ 0) → total k x ≡ 0
    total-start k x none = sum-zero (λ y. reached up y far k x y * f y) (up_from 0 64) (λ y m. (let u = up_from-mem 0 64 y m in go y u.1 (ltb k y) refl (ltb y (length W)) refl))
      where
        nothing : (y : ℕ) → f y ≡ 0 → reached up y far k x y * f y ≡ 0
        nothing y e = ap (λ (v : ℕ). reached up y far k x y * v) e ∙ mul-zero (reached up y far k x y)

        go : (y : ℕ) → y < 64 → (b : Bool) → ltb k y ≡ b → (c : Bool) → ltb y (length W) ≡ c → reached up y far k x y * f y ≡ 0
        go y i false e c q = ap (λ (v : ℕ). v * f y) (reached-none up y far k x y (ltb-false k y e)) ∙ zero-mul (f y)
        go y i true e true q = nothing y (none y (ltb-true k y e) (ltb-true y (length W) q))
        go y i true e false q = nothing y (beyond y i (ltb-false y (length W) q))

    pub total-out : (k x : ℕ) → suc k < length W → (x ≡ up (suc k) → ⊥) → total k x ≡ total (suc k) x
    total-out k x l ne = agree (λ y. reached up y far k x y) (λ y. reached up y far (suc k) x y) (λ y h. reached-out up (length W) falls k l far y x y ne h)

    pub total-in : (k : ℕ) → suc k < length W → total k (up (suc k)) ≡ total (suc k) (up (suc k)) + (f (suc k) + unless far (total (suc k) (suc k)))
    total-in k l =
        agree (λ y. reached up y far k (up z) y) (λ y. old y + (own y + below y)) (λ y h. reached-in up (length W) falls k l far y y (omega arith) h)
        ∙ sum-agree (λ y. (old y + (own y + below y)) * f y) (λ y. old y * f y + (own y * f y + below y * f y)) (up_from 0 64)
        (λ y m. add-mul (old y) (own y + below y) (f y) ∙ ap (λ (v : ℕ). old y * f y + v) (add-mul (own y) (below y) (f y)))
        ∙ sum-add (λ y. old y * f y) (λ y. own y * f y + below y * f y) (up_from 0 64)
        ∙ ap (λ (v : ℕ). total z (up z) + v) (sum-add (λ y. own y * f y) (λ y. below y * f y) (up_from 0 64) ∙ ap₂ (λ (u v : ℕ). u + v) (sum_one f z 0 64 (omega arith) (omega arith)) (deep far))
      where
        z : ℕ
        z = suc k

        old : ℕ → ℕ
        old y = reached up y far z (up z) y

        own : ℕ → ℕ
        own y = unless (eqb y z) 1

        below : ℕ → ℕ
        below y = unless far (reached up y far z z y)

        deep : (g : Bool) → sum_of (λ y. unless g (reached up y far z z y) * f y) (up_from 0 64) ≡ unless g (total z z)
        deep true = refl
        deep false = sum-zero (λ y. 0 * f y) (up_from 0 64) (λ y m. zero-mul (f y))

    pub total-end : (x : ℕ) → total 0 x ≡ sum_of (λ y. unless (edge_test far W x y) (f y)) (up_from 0 64)
    total-end x =
        agree (λ y. reached up y far 0 x y) (λ y. unless (edge_test far W x y) 1) (λ y h. reached-edge far x y h)
        ∙ sum-agree (λ y. unless (edge_test far W x y) 1 * f y) (λ y. unless (edge_test far W x y) (f y)) (up_from 0 64) (λ y m. one (edge_test far W x y) (f y))
      where
        one : (b : Bool) (n : ℕ) → unless b 1 * n ≡ unless b n
        one true n = one-mul n
        one false n = zero-mul n
