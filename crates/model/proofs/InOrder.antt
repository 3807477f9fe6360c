-- What is written is in order already: the preorder of the written tree, siblings in their order, is 0, 1, 2 and so on. A node's place in the
-- list rises along the list, so the children of a written node stand in the order into which they were put. Assumes nothing.
use Prim.Native.Nat.{ℕ, zero, suc, ◌+◌, ◌≤◌, ◌<◌}
use mathlib.Core.Path.{◌≡◌, refl, sym, ap, ap₂, ◌∙◌, subst}
use mathlib.Core.Bool.{true}
use mathlib.Core.Logic.{◌⊎◌, inl, inr}
use mathlib.Core.List.{List, [], ◌∷◌, ◌++◌, map, flatten, Memᴰ, map-map}
use native.Mathlib.Omega.{arith}
use native.Mathlib.Nat.{zero-add}
use lib.ListN.{length, get_or, length-map}
use lib.Seq.{ext_get_or}
use Rattle.model.specs.Lists.{up_from, Ascending}
use Rattle.model.specs.Pattern.{Pattern, IsPatternTree}
use Rattle.model.specs.Normal.{ordered, entry_at, entries, by_subtree, by_written, children_of, preorder, normal_pattern}
use Rattle.model.proofs.ListLaws.{map-agree, at_mem, get_or_map, length-up_from, get_or-up_from}
use Rattle.model.proofs.Ascending.{ascending-unique, ascending-map}
use Rattle.model.proofs.Ordering.{Matched, ordered-elim, ordered-intro, ordered-already}
use Rattle.model.proofs.Preorder.{child-elim, child-later, preorder-whole, map-flatten}
use Rattle.model.proofs.Numbering.{order, order-length, inside-within, normal-place, normal-renumbers, normal-tree, normal-length}
use Rattle.model.proofs.Alike.{entry-same, children-ascend, children-matched, siblings-ascend}

-- ---- what ascends, in parts

module _ {A : Type 0} (R : A → A → Type 0) where
  ascending-parts : (xs ys : List A) → Ascending R (xs ++ ys) → Ascending R xs × Ascending R ys × ((x y : A) → Memᴰ x xs → Memᴰ y ys → R x y)
  ascending-parts [] ys a = (tt, a, λ x y m n. absurd (mathlib.Core.List.Memᴰ.not-nil m))
  ascending-parts (u ∷ xs) ys a =
      let r = ascending-parts xs ys a.1 in
      ((λ y m. a.0 y (mathlib.Core.List.Memᴰ.append_left ys m), r.0), r.1, λ x y m n. go x y (mathlib.Core.List.Memᴰ.cases_cons m) n (r.2 x y))
    where
      go : (x y : A) → (x ≡ u) ⊎ Memᴰ x xs → Memᴰ y ys → (Memᴰ x xs → Memᴰ y ys → R x y) → R x y
      go x y (inl e) n rest = subst (λ (z : A). R z y) (sym e) (a.0 y (mathlib.Core.List.Memᴰ.append_right xs n))
      go x y (inr m) n rest = rest m n

  -- the blocks of a flattened list, and an element of each
  ascending-block : (ls : List (List A)) → Ascending R (flatten ls) → (l : List A) → Memᴰ l ls → Ascending R l
  unfolding flatten
  ascending-block [] a l m = absurd (mathlib.Core.List.Memᴰ.not-nil m)
  ascending-block (k ∷ ls) a l m = go (mathlib.Core.List.Memᴰ.cases_cons m) (λ n. ascending-block ls (ascending-parts k (flatten ls) a).1 l n)
    where
      go : (l ≡ k) ⊎ Memᴰ l ls → (Memᴰ l ls → Ascending R l) → Ascending R l
      go (inl e) rest = subst (λ (x : List A). Ascending R x) (sym e) (ascending-parts k (flatten ls) a).0
      go (inr n) rest = rest n

  flatten-intro : (ls : List (List A)) (l : List A) → Memᴰ l ls → (x : A) → Memᴰ x l → Memᴰ x (flatten ls)
  unfolding flatten
  flatten-intro [] l m x n = absurd (mathlib.Core.List.Memᴰ.not-nil m)
  flatten-intro (k ∷ ls) l m x n = go (mathlib.Core.List.Memᴰ.cases_cons m) (λ p. flatten-intro ls l p x n)
    where
      go : (l ≡ k) ⊎ Memᴰ l ls → (Memᴰ l ls → Memᴰ x (flatten ls)) → Memᴰ x (k ++ flatten ls)
      go (inl e) rest = mathlib.Core.List.Memᴰ.append_left (flatten ls) (subst (λ (y : List A). Memᴰ x y) e n)
      go (inr p) rest = mathlib.Core.List.Memᴰ.append_right k (rest p)

  ascending-heads : (head : List A → A) (ls : List (List A)) → ((l : List A) → Memᴰ l ls → Memᴰ (head l) l) → Ascending R (flatten ls) → Ascending R (map head ls)
  unfolding flatten
  ascending-heads head [] own a = tt
  ascending-heads head (k ∷ ls) own a =
      let r = ascending-parts k (flatten ls) a in
      (λ y m. first y r.2 (mathlib.Core.List.Memᴰ.of_map head ls m), ascending-heads head ls (λ l m. own l (mathlib.Core.List.Memᴰ.tail m)) r.1)
    where
      first : (y : A) → ((u w : A) → Memᴰ u k → Memᴰ w (flatten ls) → R u w) → (l : List A) × Memᴰ l ls × (head l ≡ y) → R (head k) y
      first y across (l, m, e) = subst (R (head k)) e (across (head k) (head l) (own k (mathlib.Core.List.Memᴰ.head refl)) (flatten-intro ls l m (head l) (own l (mathlib.Core.List.Memᴰ.tail m))))

-- ---- the written tree

module _ (P : Pattern) (t : IsPatternTree P) where
  abbrev written : Pattern
  written = normal_pattern P

  -- a node's place in the list, which is its number in what is written
  abbrev to : ℕ → ℕ
  to = (normal-renumbers P t).to

  abbrev Rises : ℕ → ℕ → Type 0
  Rises x y = to x < to y

  abbrev part : ℕ → List ℕ
  part i = preorder by_subtree (length P) P i

  abbrev part_w : ℕ → List ℕ
  part_w k = preorder by_subtree (length written) written k

  tree : IsPatternTree written
  tree = normal-tree P t

  -- places rise along the list
  rising-from : (xs : List ℕ) (k : ℕ) → ((j : ℕ) → j < length xs → to (get_or xs j 0) ≡ k + j) → Ascending Rises xs
  rising-from [] k h = tt
  rising-from (x ∷ xs) k h = (
    λ y m. (
        let w = at_mem xs y 0 m in
        let l = w.1 in
        let e : to x ≡ k + 0 = h 0 (omega arith) in
        let g : to (get_or xs w.0 0) ≡ k + suc w.0 = h (suc w.0) (omega arith) in
        let f : to y ≡ to (get_or xs w.0 0) = ap to (sym w.2) in
        omega arith
        ),
    rising-from xs (suc k) (λ j l. (let e : to (get_or xs j 0) ≡ k + suc j = h (suc j) (omega arith) in omega arith)),
  )

  rising : Ascending Rises (order P t)
  rising = rising-from (order P t) 0 (λ j h. normal-place P t j h ∙ sym (zero-add j))

  -- the subtrees of a node's children in their order, and these children
  abbrev blocks : ℕ → List (List ℕ)
  blocks i = ordered (by_written by_subtree P) (map part (children_of P i))

  abbrev head_of : List ℕ → ℕ
  head_of o = get_or o 0 0

  block_of : (i : ℕ) (o : List ℕ) → Memᴰ o (blocks i) → Memᴰ (head_of o) (children_of P i) × (part (head_of o) ≡ o) × Memᴰ (head_of o) o
  block_of i o m =
      let w = mathlib.Core.List.Memᴰ.of_map part (children_of P i) (ordered-elim (by_written by_subtree P) o (map part (children_of P i)) m) in
      let c : ℕ = w.0 in
      let whole = preorder-whole P by_subtree t c (child-elim P i c w.1).1 in
      let head : head_of o ≡ c = ap head_of (sym w.2) ∙ ap head_of whole in (
        subst (λ (x : ℕ). Memᴰ x (children_of P i)) (sym head) w.1,
        ap part head ∙ w.2,
        subst (λ (l : List ℕ). Memᴰ (head_of o) l) w.2 (subst (λ (l : List ℕ). Memᴰ (head_of o) l) (sym whole) (mathlib.Core.List.Memᴰ.head head)),
      )

  -- written, the children are these, in this order
  children-written : (i : ℕ) → i < length P → Ascending Rises (flatten (blocks i)) → children_of written (to i) ≡ map to (map head_of (blocks i))
  children-written i h a =
      ascending-unique ◌<◌ (λ x y l m. omega arith) (children_of written (to i)) (map to (map head_of (blocks i))) (children-ascend written (to i))
      (ascending-map Rises ◌<◌ to (map head_of (blocks i)) (λ x y m n r. r) (ascending-heads Rises head_of (blocks i) (λ o m. (block_of i o m).2) a))
      (λ x. (λ m. given x (matched.onto x m), λ m. found x (mathlib.Core.List.Memᴰ.of_map to (map head_of (blocks i)) m)))
    where
      matched : Matched to (children_of P i) (children_of written (to i))
      matched = children-matched t tree (normal-renumbers P t) i h

      given : (x : ℕ) → (c : ℕ) × Memᴰ c (children_of P i) × (to c ≡ x) → Memᴰ x (map to (map head_of (blocks i)))
      given x (c, m, e) =
          let own : Memᴰ (part c) (blocks i) = ordered-intro (by_written by_subtree P) (part c) (map part (children_of P i)) (mathlib.Core.List.Memᴰ.map part m) in
          let head : head_of (part c) ≡ c = ap head_of (preorder-whole P by_subtree t c (child-elim P i c m).1) in
          subst (λ (y : ℕ). Memᴰ y (map to (map head_of (blocks i)))) (ap to head ∙ e) (mathlib.Core.List.Memᴰ.map to (mathlib.Core.List.Memᴰ.map head_of own))

      found : (x : ℕ) → (c : ℕ) × Memᴰ c (map head_of (blocks i)) × (to c ≡ x) → Memᴰ x (children_of written (to i))
      found x (c, m, e) =
          let w = mathlib.Core.List.Memᴰ.of_map head_of (blocks i) m in
          subst (λ (y : ℕ). Memᴰ y (children_of written (to i))) (ap to w.2 ∙ e) (matched.into (head_of w.0) (block_of i w.0 w.1).0)

  -- what is written of a node is what was
  entries-written : (o : List ℕ) → ((x : ℕ) → Memᴰ x o → x < length P) → entries written (map to o) ≡ entries P o
  entries-written o inside =
      map-map (entry_at written) to o ∙ map-agree (λ x. entry_at written (to x)) (entry_at P) o (λ x m. sym (entry-same t tree (normal-renumbers P t) x (inside x m)))

  block_inside : (i : ℕ) (o : List ℕ) → Memᴰ o (blocks i) → (x : ℕ) → Memᴰ x o → x < length P
  block_inside i o m x n =
      let b = block_of i o m in
      inside-within P t (length P) (head_of o) x (child-elim P i (head_of o) b.0).1 (omega arith) (subst (λ (l : List ℕ). Memᴰ x l) (sym b.1) n)

  -- so the subtrees that were put in order are in order
  blocks-written : (i : ℕ) → ordered (by_written by_subtree written) (map (map to) (blocks i)) ≡ map (map to) (blocks i)
  blocks-written i =
      ordered-already (by_written by_subtree written) (map (map to) (blocks i))
      (ascending-map (λ a b. by_written by_subtree P a b ≡ true) (λ a b. by_written by_subtree written a b ≡ true) (map to) (blocks i)
      (λ a b m n e. ap₂ by_subtree (entries-written a (block_inside i a m)) (entries-written b (block_inside i b n)) ∙ e) (siblings-ascend P i))

  -- what is written of a node's subtree is what the subtree was, in its new numbers
  part-written : (n i : ℕ) → i < length P → length P ≤ n + i → Ascending Rises (part i) → part_w (to i) ≡ map to (part i)
  part-written zero i h k a = absurd (omega arith)
  part-written (suc n) i h k a =
      preorder-whole written by_subtree tree (to i) inside
      ∙ ap (λ (cs : List ℕ). to i ∷ flatten (ordered (by_written by_subtree written) (map part_w cs))) (children-written i h below)
      ∙ ap (λ (os : List (List ℕ)). to i ∷ flatten (ordered (by_written by_subtree written) os))
      (map-map part_w to (map head_of (blocks i)) ∙ map-map (λ c. part_w (to c)) head_of (blocks i)
      ∙ map-agree (λ o. part_w (to (head_of o))) (map to) (blocks i)
      (λ o m. (
      let b = block_of i o m in
      let c = child-elim P i (head_of o) b.0 in
      let l = child-later P t i (head_of o) b.0 in
      part-written n (head_of o) c.1 (omega arith) (subst (λ (x : List ℕ). Ascending Rises x) (sym b.1) (ascending-block Rises (blocks i) below o m)) ∙ ap (map to) b.1
      )))
      ∙ ap (λ (os : List (List ℕ)). to i ∷ flatten os) (blocks-written i)
      ∙ ap (λ (x : List ℕ). to i ∷ x) (sym (map-flatten to (blocks i)))
      ∙ ap (map to) (sym whole)
    where
      whole : part i ≡ i ∷ flatten (blocks i)
      whole = preorder-whole P by_subtree t i h

      below : Ascending Rises (flatten (blocks i))
      below = (subst (λ (x : List ℕ). Ascending Rises x) whole a).1

      inside : to i < length written
      inside = (normal-renumbers P t).inside i h

  -- what is written is in order
  pub normal-order : preorder by_subtree (length (normal_pattern P)) (normal_pattern P) 0 ≡ up_from 0 (length (normal_pattern P))
  normal-order =
      let n = order-length P t in
      let m = normal-length P t in
      let k = length-map (order P t) to in
      let u = length-up_from 0 (length written) in
      ap part_w (sym (normal-renumbers P t).root) ∙ part-written (length P) 0 t.inhabited (omega arith) rising
      ∙ ext_get_or 0 (map to (order P t)) (up_from 0 (length written)) (omega arith)
      (λ j h. get_or_map to (order P t) j 0 0 (omega arith) ∙ normal-place P t j (omega arith) ∙ sym (get_or-up_from 0 (length written) j 0 (omega arith) ∙ zero-add j))
