-- How many completions a partial placement has. A completion chooses for each further node one of the places from its parent's
-- image, so the parts below different nodes are chosen independently: the numbers of ways multiply over nodes and add over places.
-- A bound on depth suffices since children have the greater numbers. Counts that are cut at a cap on the way come to the same as
-- cut at the end. Assumes nothing.
use Prim.Native.Nat.{ℕ, zero, suc, ◌+◌, ◌-◌, ◌*◌, ◌≤◌, ◌<◌, min}
use mathlib.Core.Path.{◌≡◌, refl, sym, ap, ap₂, ◌∙◌, subst}
use mathlib.Core.Bool.{Bool, true, false, ◌&&◌}
use mathlib.Core.List.{List, [], ◌∷◌, ◌++◌, flat_map, Memᴰ}
use native.Mathlib.Omega.{arith}
use native.Mathlib.Nat.{add-mul, one-mul, mul-one, mul-zero, zero-mul, mul_comm, mul-mul-mul_comm, le-mul_of_pos_right, min-eq_left, min-eq_right}
use lib.Dec.{eqb, ltb}
use lib.ListN.{length, length-append, get_or-append}
use lib.Seq.{get_or-append_seam}
use borrow.Author.Tests.{ltb-true, ltb-false, lt-ltb, le-ltb, eqb-true, eqb-false, eq-eqb, ne_eqb}
use Rattle.model.specs.Lists.{up_from, keep}
use Rattle.model.specs.Tree.{Rooted}
use Rattle.model.specs.Embeddings.{image_in}
use Rattle.model.specs.Skipping.{sum_of, product_of, completions, children_of, ways_in, ways, ways_left}
use Rattle.model.proofs.ListLaws.{and_intro, and_left, and_right, length-snoc, up_from-mem, keep-elim}

-- ---- sums and products

-- a factor, or 1 where it does not count
abbrev or_one : ℕ → Bool → ℕ
or_one n b = elim b as (λ _. ℕ) [ true ↦ n | false ↦ 1 ]

module _ {A : Type 0} where
  pub sum-agree : (f g : A → ℕ) (xs : List A) → ((x : A) → Memᴰ x xs → f x ≡ g x) → sum_of f xs ≡ sum_of g xs
  unfolding sum_of
  sum-agree f g [] h = refl
  sum-agree f g (x ∷ xs) h = ap₂ ◌+◌ (h x (Memᴰ.head refl)) (sum-agree f g xs (λ y m. h y (Memᴰ.tail m)))

  pub product-agree : (f g : A → ℕ) (xs : List A) → ((x : A) → Memᴰ x xs → f x ≡ g x) → product_of f xs ≡ product_of g xs
  unfolding product_of
  product-agree f g [] h = refl
  product-agree f g (x ∷ xs) h = ap₂ ◌*◌ (h x (Memᴰ.head refl)) (product-agree f g xs (λ y m. h y (Memᴰ.tail m)))

  -- a common factor
  sum-times : (f : A → ℕ) (k : ℕ) (xs : List A) → sum_of (λ x. f x * k) xs ≡ sum_of f xs * k
  unfolding sum_of
  sum-times f k [] = sym (zero-mul k)
  sum-times f k (x ∷ xs) = ap (λ (n : ℕ). f x * k + n) (sum-times f k xs) ∙ sym (add-mul (f x) (sum_of f xs) k)

  product-times : (f g : A → ℕ) (xs : List A) → product_of (λ x. f x * g x) xs ≡ product_of f xs * product_of g xs
  unfolding product_of
  product-times f g [] = refl
  product-times f g (x ∷ xs) = ap (λ (n : ℕ). f x * g x * n) (product-times f g xs) ∙ mul-mul-mul_comm (f x) (g x) (product_of f xs) (product_of g xs)

  -- what is left out counts as 1
  product-keep : (f : A → ℕ) (test : A → Bool) (xs : List A) → product_of f (keep test xs) ≡ product_of (λ x. or_one (f x) (test x)) xs
  unfolding product_of keep
  product-keep f test [] = refl
  product-keep f test (x ∷ xs) = go (test x) (product-keep f test xs)
    where
      rest : ℕ
      rest = product_of (λ x. or_one (f x) (test x)) xs

      go : (b : Bool) → product_of f (keep test xs) ≡ rest
          → product_of f (elim b as (λ _. List A) [ true ↦ x ∷ keep test xs | false ↦ keep test xs ]) ≡ or_one (f x) b * rest
      go true e = ap (λ (n : ℕ). f x * n) e
      go false e = e ∙ sym (one-mul rest)

module _ {A B : Type 0} where
  length-flat : (f : A → List B) (xs : List A) → length (flat_map f xs) ≡ sum_of (λ x. length (f x)) xs
  unfolding flat_map sum_of
  length-flat f [] = refl
  length-flat f (x ∷ xs) = length-append (f x) (flat_map f xs) ∙ ap (λ (n : ℕ). length (f x) + n) (length-flat f xs)

-- what is kept of a range begins later, where nothing before is kept
keep-later : (test : ℕ → Bool) (k a n : ℕ) → ((i : ℕ) → a ≤ i → i < a + k → test i ≡ false) → keep test (up_from a (k + n)) ≡ keep test (up_from (a + k) n)
unfolding keep up_from
keep-later test zero a n h =
    let e : zero + n ≡ n = omega arith in
    let d : a ≡ a + zero = omega arith in
    ap₂ (λ (i j : ℕ). keep test (up_from i j)) d e
keep-later test (suc k) a n h =
    let e : suc k + n ≡ suc (k + n) = omega arith in
    let d : suc a + k ≡ a + suc k = omega arith in
    ap (λ (i : ℕ). keep test (up_from a i)) e
    ∙ ap (λ (b : Bool). elim b as (λ _. List ℕ) [ true ↦ a ∷ keep test (up_from (suc a) (k + n)) | false ↦ keep test (up_from (suc a) (k + n)) ]) (h a (omega arith) (omega arith))
    ∙ keep-later test k (suc a) n (λ i l u. h i (omega arith) (omega arith)) ∙ ap (λ (i : ℕ). keep test (up_from i n)) d

-- ---- the number of ways

module _ (m : ℕ) (parent : ℕ → ℕ) (places : ℕ → ℕ → List ℕ) (T : Rooted m parent) where
  -- a child has the greater number
  pub children-later : (c d : ℕ) → Memᴰ d (children_of m parent c) → (c < d) × (d < m)
  unfolding children_of
  children-later c d k =
      let r = keep-elim (λ d. ltb 0 d && eqb (parent d) c) d (up_from 0 m) k in
      let u = up_from-mem 0 m d r.0 in
      let z : 0 < d = ltb-true 0 d (and_left (ltb 0 d) (eqb (parent d) c) r.1) in
      let e : parent d ≡ c = eqb-true (parent d) c (and_right (ltb 0 d) (eqb (parent d) c) r.1) in
      let h : d < m = omega arith in
      (subst (λ (i : ℕ). i < d) e (T.earlier d z h), h)

  -- the children of c are after c
  pub children-after : (c : ℕ) → c < m → children_of m parent c ≡ keep (λ d. ltb 0 d && eqb (parent d) c) (up_from (suc c) (m - suc c))
  unfolding children_of
  children-after c h =
      let e : m ≡ suc c + (m - suc c) = omega arith in
      let f : 0 + suc c ≡ suc c = omega arith in
      ap (λ (i : ℕ). keep test (up_from 0 i)) e ∙ keep-later test (suc c) 0 (m - suc c) (λ i l u. before i (omega arith)) ∙ ap (λ (i : ℕ). keep test (up_from i (m - suc c))) f
    where
      test : ℕ → Bool
      test d = ltb 0 d && eqb (parent d) c

      before : (i : ℕ) → i < suc c → test i ≡ false
      before zero u = refl
      before (suc i) u =
          let l : parent (suc i) < suc i = T.earlier (suc i) (omega arith) (omega arith) in
          ap₂ (λ (a b : Bool). a && b) (lt-ltb 0 (suc i) (omega arith)) (ne_eqb (parent (suc i)) c (λ w. omega arith))

  -- a bound that reaches the last node is as good as any
  ways-enough : (n k c x : ℕ) → m ≤ n + c → m ≤ k + c → c < m → ways_in n m parent places c x ≡ ways_in k m parent places c x
  unfolding ways_in
  ways-enough zero k c x h l i = absurd (omega arith)
  ways-enough (suc n) zero c x h l i = absurd (omega arith)
  ways-enough (suc n) (suc k) c x h l i =
      sum-agree (λ y. product_of (λ d. ways_in n m parent places d y) (children_of m parent c)) (λ y. product_of (λ d. ways_in k m parent places d y) (children_of m parent c)) (places c x)
      (λ y u. product-agree (λ d. ways_in n m parent places d y) (λ d. ways_in k m parent places d y) (children_of m parent c)
      (λ d v. let r = children-later c d v in ways-enough n k d y (omega arith) (omega arith) r.1))

  -- so `ways` keeps its own equation: the sum over the places of the product over the children
  pub ways-equation : (c x : ℕ) → c < m → ways m parent places c x ≡ sum_of (λ y. product_of (λ d. ways m parent places d y) (children_of m parent c)) (places c x)
  unfolding ways ways_in
  ways-equation c x h = ways-enough m (suc m) c x (omega arith) (omega arith) h

  -- ---- one node more

  -- the factor of a node from q on, after the images es of the first q nodes
  abbrev factor : ℕ → List ℕ → ℕ → ℕ
  factor q es c = or_one (ways m parent places c (image_in es (parent c))) (ltb (parent c) q)

  -- and of a child of q, which stands at v
  abbrev child_factor : ℕ → ℕ → ℕ → ℕ
  child_factor q v c = or_one (ways m parent places c v) (ltb 0 c && eqb (parent c) q)

  child-in : (q v c : ℕ) → 0 < c → parent c ≡ q → child_factor q v c ≡ ways m parent places c v
  child-in q v c z e = ap (or_one (ways m parent places c v)) (and_intro (lt-ltb 0 c z) (eq-eqb (parent c) q e))

  child-out : (q v c : ℕ) → 0 < c → (parent c ≡ q → ⊥) → child_factor q v c ≡ 1
  child-out q v c z e = ap₂ (λ (a b : Bool). or_one (ways m parent places c v) (a && b)) (lt-ltb 0 c z) (ne_eqb (parent c) q e)

  factor-in : (q : ℕ) (es : List ℕ) (c : ℕ) → parent c < q → factor q es c ≡ ways m parent places c (image_in es (parent c))
  factor-in q es c h = ap (or_one (ways m parent places c (image_in es (parent c)))) (lt-ltb (parent c) q h)

  factor-out : (q : ℕ) (es : List ℕ) (c : ℕ) → q ≤ parent c → factor q es c ≡ 1
  factor-out q es c h = ap (or_one (ways m parent places c (image_in es (parent c)))) (le-ltb (parent c) q h)

  -- with one image more, a node's parent is that of the new image, or was placed before, or is not placed
  factor-next : (es : List ℕ) (v c : ℕ) → 0 < c → factor (suc (length es)) (es ++ v ∷ []) c ≡ child_factor (length es) v c * factor (length es) es c
  factor-next es v c z = go (ltb (parent c) q) refl (eqb (parent c) q) refl
    where
      q : ℕ
      q = length es

      go : (b : Bool) → ltb (parent c) q ≡ b → (d : Bool) → eqb (parent c) q ≡ d → factor (suc q) (es ++ v ∷ []) c ≡ child_factor q v c * factor q es c
      go true e d f =
          let l : parent c < q = ltb-true (parent c) q e in
          factor-in (suc q) (es ++ v ∷ []) c (omega arith) ∙ ap (ways m parent places c) (get_or-append es (v ∷ []) 0 (parent c) l)
          ∙ sym (ap₂ ◌*◌ (child-out q v c z (λ u. omega arith)) (factor-in q es c l) ∙ one-mul (ways m parent places c (image_in es (parent c))))
      go false e true f =
          let u : parent c ≡ q = eqb-true (parent c) q f in
          let s : image_in (es ++ v ∷ []) (parent c) ≡ v = ap (image_in (es ++ v ∷ [])) u ∙ get_or-append_seam es v [] 0 in
          factor-in (suc q) (es ++ v ∷ []) c (omega arith) ∙ ap (ways m parent places c) s
          ∙ sym (ap₂ ◌*◌ (child-in q v c z u) (factor-out q es c (omega arith)) ∙ mul-one (ways m parent places c v))
      go false e false f =
          let l : q ≤ parent c = ltb-false (parent c) q e in
          let u : parent c ≡ q → ⊥ = eqb-false (parent c) q f in
          factor-out (suc q) (es ++ v ∷ []) c (omega arith) ∙ sym (ap₂ ◌*◌ (child-out q v c z u) (factor-out q es c l))

  left-factors : (q : ℕ) (es : List ℕ) → ways_left m parent places q es ≡ product_of (factor q es) (up_from q (m - q))
  unfolding ways_left
  left-factors q es = product-keep (λ c. ways m parent places c (image_in es (parent c))) (λ c. ltb (parent c) q) (up_from q (m - q))

  children-factors : (q v : ℕ) → q < m → product_of (λ d. ways m parent places d v) (children_of m parent q) ≡ product_of (child_factor q v) (up_from (suc q) (m - suc q))
  children-factors q v h =
      ap (product_of (λ d. ways m parent places d v)) (children-after q h) ∙ product-keep (λ d. ways m parent places d v) (λ d. ltb 0 d && eqb (parent d) q) (up_from (suc q) (m - suc q))

  ways_next : (es : List ℕ) (v : ℕ) → length es < m
      → ways_left m parent places (suc (length es)) (es ++ v ∷ [])
      ≡ product_of (λ d. ways m parent places d v) (children_of m parent (length es)) * product_of (factor (length es) es) (up_from (suc (length es)) (m - suc (length es)))
  ways_next es v h =
      left-factors (suc q) (es ++ v ∷ [])
      ∙ product-agree (factor (suc q) (es ++ v ∷ [])) (λ c. child_factor q v c * factor q es c) range (λ c k. (let u = up_from-mem (suc q) (m - suc q) c k in factor-next es v c (omega arith)))
      ∙ product-times (child_factor q v) (factor q es) range ∙ ap (λ (i : ℕ). i * product_of (factor q es) range) (sym (children-factors q v h))
    where
      q : ℕ
      q = length es

      range : List ℕ
      range = up_from (suc q) (m - suc q)

  ways-split : (es : List ℕ) → 0 < length es → length es < m
      → ways_left m parent places (length es) es
      ≡ ways m parent places (length es) (image_in es (parent (length es))) * product_of (factor (length es) es) (up_from (suc (length es)) (m - suc (length es)))
  unfolding product_of up_from
  ways-split es z h =
      let q : ℕ = length es in
      let e : m - q ≡ suc (m - suc q) = omega arith in
      left-factors q es ∙ ap (λ (i : ℕ). product_of (factor q es) (up_from q i)) e ∙ ap (λ (i : ℕ). i * product_of (factor q es) (up_from (suc q) (m - suc q))) (factor-in q es q (T.earlier q z h))

  -- ---- the number of completions

  pub length-completions : (n : ℕ) (es : List ℕ) → 0 < length es → n + length es ≡ m → length (completions parent places n es) ≡ ways_left m parent places (length es) es
  unfolding completions product_of up_from
  length-completions zero es z e =
      let k : m - length es ≡ 0 = omega arith in
      sym (left-factors (length es) es ∙ ap (λ (i : ℕ). product_of (factor (length es) es) (up_from (length es) i)) k)
  length-completions (suc n) es z e =
      let h : length es < m = omega arith in
      length-flat (λ v. completions parent places n (es ++ v ∷ [])) (places q x)
      ∙ sum-agree (λ v. length (completions parent places n (es ++ v ∷ []))) (λ v. below v * rest) (places q x) (λ v k. each v h (λ z' e'. length-completions n (es ++ v ∷ []) z' e'))
      ∙ sum-times below rest (places q x)
      ∙ ap (λ (i : ℕ). i * rest) (sym (ways-equation q x h)) ∙ sym (ways-split es z h)
    where
      q : ℕ
      q = length es

      x : ℕ
      x = image_in es (parent q)

      below : ℕ → ℕ
      below v = product_of (λ d. ways m parent places d v) (children_of m parent q)

      rest : ℕ
      rest = product_of (factor q es) (up_from (suc q) (m - suc q))

      each : (v : ℕ) → q < m
          → (0 < length (es ++ v ∷ []) → n + length (es ++ v ∷ []) ≡ m → length (completions parent places n (es ++ v ∷ [])) ≡ ways_left m parent places (length (es ++ v ∷ [])) (es ++ v ∷ []))
          → length (completions parent places n (es ++ v ∷ [])) ≡ below v * rest
      each v h count =
          let s : length (es ++ v ∷ []) ≡ suc q = length-snoc es v in
          count (omega arith) (omega arith) ∙ ap (λ (i : ℕ). ways_left m parent places i (es ++ v ∷ [])) s ∙ ways_next es v h

-- ---- counts that are cut at a cap

-- a factor of 0 is kept by the cap, and any other leaves what reaches the cap there
pub cap-product : (K a b : ℕ) → min K (min K a * b) ≡ min K (a * b)
cap-product K a zero = ap (min K) (mul-zero (min K a) ∙ sym (mul-zero a))
cap-product K a (suc b) = go (ltb K a) refl
  where
    go : (t : Bool) → ltb K a ≡ t → min K (min K a * suc b) ≡ min K (a * suc b)
    go true e =
        let h : K < a = ltb-true K a e in
        let k : K ≤ K * suc b = le-mul_of_pos_right K (omega arith) in
        let l : a ≤ a * suc b = le-mul_of_pos_right a (omega arith) in
        ap (λ (i : ℕ). min K (i * suc b)) (min-eq_left (omega arith)) ∙ min-eq_left k ∙ sym (min-eq_left (omega arith))
    go false e =
        let h : a ≤ K = ltb-false K a e in
        ap (λ (i : ℕ). min K (i * suc b)) (min-eq_right h)

-- both cut
pub cap-products : (K a b : ℕ) → min K (min K a * min K b) ≡ min K (a * b)
cap-products K a b = cap-product K a (min K b) ∙ ap (min K) (mul_comm a (min K b)) ∙ cap-product K b a ∙ ap (min K) (mul_comm b a)
