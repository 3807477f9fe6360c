-- The list of a tree in preorder as a renumbering: each node stands in it once, and the last entry before a node of the depth above is its
-- parent's. So the table that the list stands for is the given tree under other numbers. Assumes nothing.
use Prim.Native.Nat.{ℕ, zero, suc, ◌+◌, ◌-◌, ◌≤◌, ◌<◌}
use mathlib.Core.Path.{◌≡◌, refl, sym, ap, ◌∙◌, subst}
use mathlib.Core.Bool.{Bool, true, false}
use mathlib.Core.Logic.{◌⊎◌, inl, inr}
use mathlib.Core.List.Memᴰ
use mathlib.Core.List.{List, [], ◌∷◌, ◌++◌, map, flatten, Memᴰ, append-nil, append_assoc}
use native.Mathlib.Omega.{arith}
use native.Mathlib.Nat.{zero-add}
use lib.Dec.{eqb}
use lib.ListN.{length, get_or, drop, length-map, length-drop}
use borrow.Author.Tests.{eqb-true, eqb-false, eq-eqb, ne_eqb}
use Rattle.model.specs.Lists.{up_from, count_of, first_of}
use Rattle.model.specs.Pattern.{PatternRecord, Pattern, no_pattern_record, pattern_parent, IsPatternTree}
use Rattle.model.specs.Renumbering.{pattern_others, PatternRenumbering}
use Rattle.model.specs.Normal.{ordered, depth_of, Entry, no_entry, entry_at, entries, by_subtree, by_written, children_of, preorder, listed, last_at, record_of, table_of, normal_pattern}
use Rattle.model.specs.Gathering.{gathered}
use Rattle.model.proofs.ListLaws.{mem-at, drop-begins, get_or_map, length-map-up_from, get_or-map-up_from, up_from-mem, mem-up_from, first-hit}
use Rattle.model.proofs.Counting.{pigeonhole}
use Rattle.model.proofs.CountLaws.{some-count, count-once}
use Rattle.model.proofs.Ordering.{ordered-elim}
use Rattle.model.proofs.Preorder.{depth-child, child-elim, child-later, preorder-whole, flatten-elim}
use Rattle.model.proofs.Gathering.{gathered-start, gathered-other, gathered-whole, gathered-count}

-- ---- sums

-- f 0 to f (n - 1) together
sum_below : (ℕ → ℕ) → ℕ → ℕ
sum_below f zero = 0
sum_below f (suc n) = sum_below f n + f n

sum-agree : (f g : ℕ → ℕ) (n : ℕ) → ((i : ℕ) → i < n → g i ≡ f i) → sum_below g n ≡ sum_below f n
unfolding sum_below
sum-agree f g zero h = refl
sum-agree f g (suc n) h = let e = sum-agree f g n (λ i l. h i (omega arith)) in let k = h n (omega arith) in omega arith

-- where one number is a more, so is the sum
sum_more : (f g : ℕ → ℕ) (a p n : ℕ) → p < n → g p ≡ a + f p → ((i : ℕ) → i < n → (p ≡ i → ⊥) → g i ≡ f i) → sum_below g n ≡ a + sum_below f n
unfolding sum_below
sum_more f g a p zero l e h = absurd (omega arith)
sum_more f g a p (suc n) l e h = go (eqb p n) refl (λ k. sum_more f g a p n k e (λ i m ne. h i (omega arith) ne))
  where
    go : (t : Bool) → eqb p n ≡ t → (p < n → sum_below g n ≡ a + sum_below f n) → sum_below g n + g n ≡ a + (sum_below f n + f n)
    go true q rest =
        let same : p ≡ n = eqb-true p n q in
        let s : sum_below g n ≡ sum_below f n = sum-agree f g n (λ i m. h i (omega arith) (λ r. omega arith)) in
        let k : g n ≡ a + f n = ap g (sym same) ∙ e ∙ ap (λ (x : ℕ). a + f x) same in
        omega arith
    go false q rest =
        let ne : p ≡ n → ⊥ = eqb-false p n q in
        let s : sum_below g n ≡ a + sum_below f n = rest (omega arith) in
        let k : g n ≡ f n = h n (omega arith) ne in
        omega arith

sum-none : (f : ℕ → ℕ) (n : ℕ) → ((i : ℕ) → i < n → f i ≡ 0) → sum_below f n ≡ 0
unfolding sum_below
sum-none f zero h = refl
sum-none f (suc n) h = let e = sum-none f n (λ i l. h i (omega arith)) in let k = h n (omega arith) in omega arith

sum_ones : (f : ℕ → ℕ) (n : ℕ) → ((i : ℕ) → f i ≡ 1) → sum_below f n ≡ n
unfolding sum_below
sum_ones f zero h = refl
sum_ones f (suc n) h = let e = sum_ones f n h in let k = h n in omega arith

sum-part : (f : ℕ → ℕ) (n i : ℕ) → i < n → f i ≤ sum_below f n
unfolding sum_below
sum-part f zero i h = absurd (omega arith)
sum-part f (suc n) i h = go (eqb i n) refl (λ k. sum-part f n i k)
  where
    go : (t : Bool) → eqb i n ≡ t → (i < n → f i ≤ sum_below f n) → f i ≤ sum_below f n + f n
    go true q rest = let e : f i ≡ f n = ap f (eqb-true i n q) in omega arith
    go false q rest = let ne : i ≡ n → ⊥ = eqb-false i n q in let l = rest (omega arith) in omega arith

count-all : (xs : List ℕ) → count_of (λ _. true) xs ≡ length xs
unfolding count_of
count-all [] = refl
count-all (x ∷ xs) = ap suc (count-all xs)

module _ (P : Pattern) (t : IsPatternTree P) where
  -- ---- each node stands once

  abbrev is : ℕ → ℕ → Bool
  is j x = eqb x j

  one : (i j : ℕ) → i ≡ j → count_of (is j) (i ∷ []) ≡ 1
  unfolding count_of
  one i j e = rw (eq-eqb i j e, count_of) refl

  none : (i j : ℕ) → (i ≡ j → ⊥) → count_of (is j) (i ∷ []) ≡ 0
  unfolding count_of
  none i j ne = rw (ne_eqb i j ne, count_of) refl

  -- in the subtrees of the nodes below k, when children from k on stand in them, is what is in all nodes by themselves
  same-in-all : (test : ℕ → Bool) (m k : ℕ) → k + m ≡ length P → 1 ≤ k → sum_below (λ i. count_of test (gathered P k i)) k ≡ sum_below (λ i. count_of test (i ∷ [])) (length P)
  unfolding sum_below
  same-in-all test zero k e l =
      let n : k ≡ length P = omega arith in
      sum-agree (λ i. count_of test (i ∷ [])) (λ i. count_of test (gathered P k i)) k (λ i q. ap (λ (x : ℕ). count_of test (gathered P x i)) n ∙ ap (count_of test) (gathered-start P i))
      ∙ ap (sum_below (λ i. count_of test (i ∷ []))) n
  same-in-all test (suc m) k e l =
      let inside : k < length P = omega arith in
      let later : sum_below (λ i. count_of test (gathered P (suc k) i)) k + count_of test (gathered P (suc k) k) ≡ sum_below (λ i. count_of test (i ∷ [])) (length P) = same-in-all test m (suc k) (omega arith) (omega arith) in
      let more : sum_below (λ i. count_of test (gathered P k i)) k ≡ count_of test (gathered P (suc k) k) + sum_below (λ i. count_of test (gathered P (suc k) i)) k =
      sum_more (λ i. count_of test (gathered P (suc k) i)) (λ i. count_of test (gathered P k i)) (count_of test (gathered P (suc k) k)) (pattern_parent P k) k
      (t.earlier k (omega arith) inside) (gathered-count P t test k (omega arith) inside) (λ i q ne. ap (count_of test) (gathered-other P k i inside ne)) in
      omega arith

  -- none has more nodes than the tree
  pub gathered-length : (k i : ℕ) → i < k → k ≤ length P → length (gathered P k i) ≤ length P
  gathered-length k i h l =
      let e = same-in-all (λ _. true) (length P - k) k (omega arith) (omega arith) in
      let n : sum_below (λ x. count_of (λ _. true) (x ∷ [])) (length P) ≡ length P = sum_ones (λ x. count_of (λ _. true) (x ∷ [])) (length P) (λ x. count-all (x ∷ [])) in
      let part : count_of (λ _. true) (gathered P k i) ≤ sum_below (λ x. count_of (λ _. true) (gathered P k x)) k = sum-part (λ x. count_of (λ _. true) (gathered P k x)) k i h in
      let c : count_of (λ _. true) (gathered P k i) ≡ length (gathered P k i) = count-all (gathered P k i) in
      omega arith

  -- the nodes in preorder
  abbrev pub order : List ℕ
  order = preorder by_subtree (length P) P 0

  once : (j : ℕ) → j < length P → count_of (is j) order ≡ 1
  unfolding sum_below
  once j h =
      let s : 0 + count_of (is j) (gathered P 1 0) ≡ sum_below (λ i. count_of (is j) (i ∷ [])) (length P) = same-in-all (is j) (length P - 1) 1 (omega arith) (omega arith) in
      let n : sum_below (λ i. count_of (is j) (i ∷ [])) (length P) ≡ 1 + sum_below (λ _. 0) (length P) =
      sum_more (λ _. 0) (λ i. count_of (is j) (i ∷ [])) 1 j (length P) h (one j j refl) (λ i q ne. none i j (λ r. ne (sym r))) in
      let z : sum_below (λ _. 0) (length P) ≡ 0 = sum-none (λ _. 0) (length P) (λ i q. refl) in
      ap (count_of (is j)) (sym (gathered-whole P t 0 1 t.inhabited (omega arith))) ∙ omega arith

  -- and nothing else
  pub inside-within : (n i x : ℕ) → i < length P → length P ≤ n + i → Memᴰ x (preorder by_subtree (length P) P i) → x < length P
  inside-within zero i x h k m = absurd (omega arith)
  inside-within (suc n) i x h k m =
      go (Memᴰ.cases_cons (subst (λ (o : List ℕ). Memᴰ x o) (preorder-whole P by_subtree t i h) m))
      (λ c q. inside-within n c x (child-elim P i c q).1 (let p = child-later P t i c q in omega arith))
    where
      blocks : List (List ℕ)
      blocks = map (preorder by_subtree (length P) P) (children_of P i)

      go : (x ≡ i) ⊎ Memᴰ x (flatten (ordered (by_written by_subtree P) blocks)) → ((c : ℕ) → Memᴰ c (children_of P i) → Memᴰ x (preorder by_subtree (length P) P c) → x < length P) → x < length P
      go (inl e) rest = omega arith
      go (inr p) rest =
          let l = flatten-elim x (ordered (by_written by_subtree P) blocks) p in
          let o = Memᴰ.of_map (preorder by_subtree (length P) P) (children_of P i) (ordered-elim (by_written by_subtree P) l.0 blocks l.1) in
          rest o.0 o.1 (subst (λ (y : List ℕ). Memᴰ x y) (sym o.2) l.2)

  pub node-inside : (k : ℕ) → k < length order → get_or order k 0 < length P
  node-inside k h = inside-within (length P) 0 (get_or order k 0) t.inhabited (omega arith) (mem-at order k 0 h)

  -- the place of a node
  place_of : ℕ → ℕ
  place_of j = first_of (λ k. eqb (get_or order k 0) j) 0 (up_from 0 (length order))

  placed_at : (j : ℕ) → j < length P → (place_of j < length order) × (get_or order (place_of j) 0 ≡ j)
  unfolding place_of
  placed_at j h =
      let some = some-count (is j) order 0 (let e = once j h in omega arith) in
      let hit = first-hit (λ k. eqb (get_or order k 0) j) 0 (up_from 0 (length order)) some.0 (mem-up_from 0 (length order) some.0 (omega arith) (let l = some.1 in omega arith)) some.2 in
      let l = up_from-mem 0 (length order) (place_of j) hit.0 in
      (omega arith, eqb-true (get_or order (place_of j) 0) j hit.1)

  -- no two places hold one node
  apart : (k l : ℕ) → k < length order → l < length order → get_or order k 0 ≡ get_or order l 0 → k ≡ l
  apart k l h m e =
      let j : ℕ = get_or order l 0 in
      let c = once j (node-inside l m) in
      count-once (is j) order 0 (omega arith) k l h m (eq-eqb (get_or order k 0) j e) (eq-eqb (get_or order l 0) j refl)

  place-back : (k : ℕ) → k < length order → place_of (get_or order k 0) ≡ k
  place-back k h = let p = placed_at (get_or order k 0) (node-inside k h) in apart (place_of (get_or order k 0)) k p.0 h p.1

  pub order-length : length order ≡ length P
  order-length =
      let low : length P ≤ length order = pigeonhole (length P) (length order) place_of (λ i h. (placed_at i h).0)
      (λ i j h k e. sym (placed_at i h).1 ∙ ap (λ (x : ℕ). get_or order x 0) e ∙ (placed_at j k).1) in
      let high : length order ≤ length P = pigeonhole (length order) (length P) (λ k. get_or order k 0) node-inside apart in
      omega arith

  -- ---- parents

  -- u has the last node so far at each depth: each further one's parent is the last one at the depth above
  abbrev next : (ℕ → ℕ) → ℕ → ℕ → ℕ
  next u x e = elim (eqb (depth_of P x) e) [ true ↦ x | false ↦ u e ]

  abbrev Linked : (ℕ → ℕ) → List ℕ → Type 0
  Linked u [] = Unit {0}
  Linked u (x ∷ xs) = (u (depth_of P x - 1) ≡ pattern_parent P x) × Linked (next u x) xs

  next-own : (u : ℕ → ℕ) (x : ℕ) → next u x (depth_of P x) ≡ x
  next-own u x = ap (λ (b : Bool). elim b as (λ _. ℕ) [ true ↦ x | false ↦ u (depth_of P x) ]) (eq-eqb (depth_of P x) (depth_of P x) refl)

  next-other : (u : ℕ → ℕ) (x e : ℕ) → (depth_of P x ≡ e → ⊥) → next u x e ≡ u e
  next-other u x e ne = ap (λ (b : Bool). elim b as (λ _. ℕ) [ true ↦ x | false ↦ u e ]) (ne_eqb (depth_of P x) e ne)

  -- a subtree is linked where its root is, and leaves what stands above it
  abbrev Above : ℕ → (ℕ → ℕ) → (ℕ → ℕ) → Type 0
  Above d u v = (e : ℕ) → e < d → v e ≡ u e

  -- a subtree below node i: it is linked where i was the last at its depth, whatever follows
  abbrev Link : ℕ → List ℕ → Type 0
  Link i o = (v : ℕ → ℕ) → v (depth_of P i) ≡ i → (more : List ℕ) → ((w : ℕ → ℕ) → Above (suc (depth_of P i)) v w → Linked w more) → Linked v (o ++ more)

  link-blocks : (i : ℕ) (u : ℕ → ℕ) (rest : List ℕ) → ((v : ℕ → ℕ) → Above (depth_of P i) u v → Linked v rest) → (os : List (List ℕ)) → ((o : List ℕ) → Memᴰ o os → Link i o)
      → (v : ℕ → ℕ) → v (depth_of P i) ≡ i → Above (depth_of P i) u v → Linked v (flatten os ++ rest)
  unfolding flatten
  link-blocks i u rest after [] links v q a = after v a
  link-blocks i u rest after (o ∷ os) links v q a =
      subst (λ (l : List ℕ). Linked v l) (sym (append_assoc o (flatten os) rest))
      (links o (Memᴰ.head refl) v q (flatten os ++ rest)
      (λ w b. link-blocks i u rest after os (λ l m. links l (Memᴰ.tail m)) w (b (depth_of P i) (omega arith) ∙ q) (λ e l. b e (omega arith) ∙ a e l)))

  link-within : (n i : ℕ) → i < length P → length P ≤ n + i → (u : ℕ → ℕ) → u (depth_of P i - 1) ≡ pattern_parent P i → (rest : List ℕ)
      → ((v : ℕ → ℕ) → Above (depth_of P i) u v → Linked v rest) → Linked u (preorder by_subtree (length P) P i ++ rest)
  link-within zero i h k u p rest after = absurd (omega arith)
  link-within (suc n) i h k u p rest after =
      subst (λ (o : List ℕ). Linked u (o ++ rest)) (sym (preorder-whole P by_subtree t i h)) (
        p,
        link-blocks i u rest after (ordered (by_written by_subtree P) subtrees)
            (λ o m. child o (ordered-elim (by_written by_subtree P) o subtrees m) (λ c q. link-within n c (child-elim P i c q).1 (let l = child-later P t i c q in omega arith)))
            (next u i) (next-own u i) (λ e l. next-other u i e (λ q. omega arith)),
      )
    where
      subtrees : List (List ℕ)
      subtrees = map (preorder by_subtree (length P) P) (children_of P i)

      child : (o : List ℕ) → Memᴰ o subtrees
          → ((c : ℕ) → Memᴰ c (children_of P i) → (v : ℕ → ℕ) → v (depth_of P c - 1) ≡ pattern_parent P c → (more : List ℕ) → ((w : ℕ → ℕ) → Above (depth_of P c) v w → Linked w more)
          → Linked v (preorder by_subtree (length P) P c ++ more)) → Link i o
      child o m deeper v q more then =
          let r = Memᴰ.of_map (preorder by_subtree (length P) P) (children_of P i) m in
          let c : ℕ = r.0 in
          let e = child-elim P i c r.1 in
          let d : depth_of P c ≡ suc (depth_of P i) = depth-child P t c e.0 e.1 ∙ ap (λ (x : ℕ). suc (depth_of P x)) e.2 in
          let up : depth_of P c - 1 ≡ depth_of P i = omega arith in
          subst (λ (l : List ℕ). Linked v (l ++ more)) r.2
          (deeper c r.1 v (ap v up ∙ q ∙ sym e.2) more (λ w a. then w (λ x l. a x (omega arith))))

  linked : Linked (λ _. 0) order
  linked =
      subst (λ (l : List ℕ). Linked (λ _. 0) l) (append-nil order)
      (link-within (length P) 0 t.inhabited (omega arith) (λ _. 0) (sym t.root) [] (λ v a. tt))

  -- what u has so far is what the list of entries says
  linked-places : (xs : List ℕ) (k : ℕ) (u : ℕ → ℕ) → drop k order ≡ xs → ((e : ℕ) → u e ≡ get_or order (last_at (entries P order) e k) 0) → Linked u xs
      → (j : ℕ) → k ≤ j → j < length order → get_or order (last_at (entries P order) (depth_of P (get_or order j 0) - 1) j) 0 ≡ pattern_parent P (get_or order j 0)
  unfolding last_at
  linked-places [] k u d same l j low high =
      let n : length order - k ≡ 0 = sym (length-drop k order) ∙ ap length d in
      absurd (omega arith)
  linked-places (x ∷ xs) k u d same l j low high =
      go (eqb j k) refl (λ h. linked-places xs (suc k) (next u x) begins.2 again l.1 j h high)
    where
      begins : (k < length order) × (get_or order k 0 ≡ x) × (drop (suc k) order ≡ xs)
      begins = drop-begins order k x xs 0 d

      here : (get_or (entries P order) k no_entry).depth ≡ depth_of P x
      here = ap (λ (e : Entry). e.depth) (get_or_map (entry_at P) order k 0 no_entry begins.0) ∙ ap (depth_of P) begins.1

      again : (e : ℕ) → next u x e ≡ get_or order (last_at (entries P order) e (suc k)) 0
      again e = at (eqb (depth_of P x) e) refl ∙ ap (λ (y : ℕ). get_or order y 0) (ap (λ (n : ℕ). elim (eqb n e) as (λ _. ℕ) [ true ↦ k | false ↦ last_at (entries P order) e k ]) (sym here))
        where
          at : (b : Bool) → eqb (depth_of P x) e ≡ b → (elim b as (λ _. ℕ) [ true ↦ x | false ↦ u e ]) ≡ get_or order (elim b as (λ _. ℕ) [ true ↦ k | false ↦ last_at (entries P order) e k ]) 0
          at true q = sym begins.1
          at false q = same e

      go : (b : Bool) → eqb j k ≡ b → (suc k ≤ j → get_or order (last_at (entries P order) (depth_of P (get_or order j 0) - 1) j) 0 ≡ pattern_parent P (get_or order j 0))
          → get_or order (last_at (entries P order) (depth_of P (get_or order j 0) - 1) j) 0 ≡ pattern_parent P (get_or order j 0)
      go true q later =
          let own : j ≡ k = eqb-true j k q in
          let node : get_or order j 0 ≡ x = ap (λ (y : ℕ). get_or order y 0) own ∙ begins.1 in
          ap (λ (y : ℕ). get_or order (last_at (entries P order) (depth_of P y - 1) j) 0) node ∙ ap (λ (y : ℕ). get_or order (last_at (entries P order) (depth_of P x - 1) y) 0) own
          ∙ sym (same (depth_of P x - 1)) ∙ l.0 ∙ ap (pattern_parent P) (sym node)
      go false q later = let ne : j ≡ k → ⊥ = eqb-false j k q in later (omega arith)

  root-first : get_or order 0 0 ≡ 0
  root-first = ap (λ (o : List ℕ). get_or o 0 0) (preorder-whole P by_subtree t 0 t.inhabited)

  parent_place : (j : ℕ) → j < length order → get_or order (last_at (entries P order) (depth_of P (get_or order j 0) - 1) j) 0 ≡ pattern_parent P (get_or order j 0)
  unfolding last_at
  parent_place j h = linked-places order 0 (λ _. 0) refl (λ e. sym root-first) linked j (omega arith) h

-- ---- the table that a list stands for

last_none : (es : List Entry) (d : ℕ) → last_at es d 0 ≡ 0
unfolding last_at
last_none es d = refl

last-most : (es : List Entry) (d k : ℕ) → last_at es d k ≤ k
unfolding last_at
last-most es d zero = omega arith
last-most es d (suc k) = go (eqb (get_or es k no_entry).depth d) (last-most es d k)
  where
    go : (b : Bool) → last_at es d k ≤ k → (elim b as (λ _. ℕ) [ true ↦ k | false ↦ last_at es d k ]) ≤ suc k
    go true h = omega arith
    go false h = omega arith

pub last-below : (es : List Entry) (d k : ℕ) → 0 < k → last_at es d k < k
unfolding last_at
last-below es d zero z = absurd (omega arith)
last-below es d (suc k) z = go (eqb (get_or es k no_entry).depth d) (last-most es d k)
  where
    go : (b : Bool) → last_at es d k ≤ k → (elim b as (λ _. ℕ) [ true ↦ k | false ↦ last_at es d k ]) < suc k
    go true h = omega arith
    go false h = omega arith

pub table-length : (es : List Entry) → length (table_of es) ≡ length es
unfolding table_of
table-length es = length-map-up_from (record_of es) 0 (length es)

pub table-record : (es : List Entry) (k : ℕ) → k < length es → get_or (table_of es) k no_pattern_record ≡ record_of es k
unfolding table_of
table-record es k h = get_or-map-up_from (record_of es) 0 (length es) k no_pattern_record h ∙ ap (record_of es) (zero-add k)

pub table-tree : (es : List Entry) → 0 < length es → IsPatternTree (table_of es)
table-tree es z =
    let n = table-length es in
    record {
      inhabited = omega arith;
      root = root;
      earlier = λ i p h. subst (λ (r : PatternRecord). r.parent < i) (sym (table-record es i (omega arith))) (last-below es _ i p);
    }
  where
    root : pattern_parent (table_of es) 0 ≡ 0
    root = ap (λ (r : PatternRecord). r.parent) (table-record es 0 z) ∙ last_none es _

module _ (P : Pattern) (t : IsPatternTree P) where
  -- the list of entries in preorder
  abbrev es : List Entry
  es = entries P (order P t)

  size : length es ≡ length P
  size = length-map (order P t) (entry_at P) ∙ order-length P t

  entry_of : (k : ℕ) → k < length P → get_or es k no_entry ≡ entry_at P (get_or (order P t) k 0)
  entry_of k h = let n = order-length P t in get_or_map (entry_at P) (order P t) k 0 no_entry (omega arith)

  record_of_lem : (k : ℕ) → k < length P → get_or (table_of es) k no_pattern_record ≡ record_of es k
  record_of_lem k h = let n = size in table-record es k (omega arith)

  -- the record of a node at its place
  parents : (i : ℕ) → i < length P → pattern_parent (table_of es) (place_of P t i) ≡ place_of P t (pattern_parent P i)
  parents i h =
      let n = order-length P t in
      let k : ℕ = place_of P t i in
      let at = placed_at P t i h in
      let inside : k < length P = let l = at.0 in omega arith in
      let up : ℕ = last_at es (depth_of P i - 1) k in
      let low : up ≤ k = last-most es (depth_of P i - 1) k in
      let depth : (get_or es k no_entry).depth ≡ depth_of P i = ap (λ (e : Entry). e.depth) (entry_of k inside) ∙ ap (depth_of P) at.1 in
      let own : get_or (order P t) up 0 ≡ pattern_parent P i =
      ap (λ (x : ℕ). get_or (order P t) (last_at es (depth_of P x - 1) k) 0) (sym at.1) ∙ parent_place P t k at.0 ∙ ap (pattern_parent P) at.1 in
      ap (λ (r : PatternRecord). r.parent) (record_of_lem k inside) ∙ ap (λ (d : ℕ). last_at es (d - 1) k) depth
      ∙ sym (place-back P t up (let l = at.0 in omega arith)) ∙ ap (place_of P t) own

  fields : (i : ℕ) → i < length P → pattern_others (get_or (table_of es) (place_of P t i) no_pattern_record) ≡ pattern_others (get_or P i no_pattern_record)
  fields i h =
      let n = order-length P t in
      let at = placed_at P t i h in
      let inside : place_of P t i < length P = let l = at.0 in omega arith in
      ap pattern_others (record_of_lem (place_of P t i) inside)
      ∙ ap (λ (e : Entry). e.label ∷ e.edge ∷ e.position ∷ e.figure ∷ []) (entry_of (place_of P t i) inside)
      ∙ ap (λ (x : ℕ). pattern_others (get_or P x no_pattern_record)) at.1

  -- what is written of a selection is a renumbering of it, and a tree
  pub normal-renumbers : PatternRenumbering P (normal_pattern P)
  unfolding normal_pattern listed
  normal-renumbers =
      let n = order-length P t in
      let m = table-length es in
      let s = size in
      record {
        to = place_of P t;
        from = λ k. get_or (order P t) k 0;
        inside = λ i h. (let l = (placed_at P t i h).0 in omega arith);
        inside_back = λ k h. node-inside P t k (omega arith);
        back = λ i h. (placed_at P t i h).1;
        forth = λ k h. place-back P t k (omega arith);
        root = ap (place_of P t) (sym (root-first P t)) ∙ place-back P t 0 (let l = t.inhabited in omega arith);
        parents = parents;
        fields = fields;
      }

  pub normal-tree : IsPatternTree (normal_pattern P)
  unfolding normal_pattern listed
  normal-tree = let s = size in let l = t.inhabited in table-tree es (omega arith)

  -- a node's new number is its place in the list
  pub normal-place : (k : ℕ) → k < length (order P t) → normal-renumbers.to (get_or (order P t) k 0) ≡ k
  unfolding normal-renumbers
  normal-place k h = place-back P t k h

  pub normal-length : length (normal_pattern P) ≡ length P
  unfolding normal_pattern listed
  normal-length = table-length es ∙ size
