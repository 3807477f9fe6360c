-- Laws of depth, of children and of a subtree in preorder, without their bounds on steps; and that a subtree's list begins with its root's
-- entry, all others being deeper. Assumes nothing.
use Prim.Native.Nat.{ℕ, zero, suc, ◌+◌, ◌≤◌, ◌<◌}
use mathlib.Core.Path.{◌≡◌, refl, sym, ap, ◌∙◌, subst}
use mathlib.Core.Bool.{Bool}
use mathlib.Core.Logic.{◌⊎◌, inl, inr}
use mathlib.Core.List.{List, [], ◌∷◌, ◌++◌, map, flatten, Memᴰ, map-append, map-map}
use native.Mathlib.Omega.{arith}
use lib.Dec.{eqb, ltb}
use lib.ListN.{length}
use borrow.Author.Tests.{eqb-true, eq-eqb, ne_eqb, ltb-true, lt-ltb}
use Rattle.model.specs.Lists.{up_from}
use Rattle.model.specs.Pattern.{Pattern, pattern_parent, IsPatternTree}
use Rattle.model.specs.Normal.{ordered, depth_from, depth_of, Entry, entry_at, entries, is_child_of, children_of, by_written, preorder}
use Rattle.model.proofs.ListLaws.{and_intro, and_left, and_right, map-agree, keep-intro, keep-elim, up_from-mem, mem-up_from}
use Rattle.model.proofs.Ordering.{ordered-elim, ordered-map}

pub none_or_some : (i : ℕ) → (i ≡ 0) ⊎ (0 < i)
none_or_some zero = inl refl
none_or_some (suc i) = inr (omega arith)

module _ (P : Pattern) where
  -- ---- depth

  depth-zero : (n : ℕ) → depth_from n P 0 ≡ 0
  unfolding depth_from
  depth-zero zero = refl
  depth-zero (suc n) = refl

  depth-step : (n i : ℕ) → 0 < i → depth_from (suc n) P i ≡ suc (depth_from n P (pattern_parent P i))
  unfolding depth_from
  depth-step n i z = rw (ne_eqb i 0 (λ e. omega arith), depth_from) refl

  pub depth-root : depth_of P 0 ≡ 0
  unfolding depth_of
  depth-root = depth-zero 0

  module _ (t : IsPatternTree P) where
    -- as many steps as the node's number are enough
    depth-enough : (n m i : ℕ) → i < length P → i ≤ n → i ≤ m → depth_from n P i ≡ depth_from m P i
    depth-enough zero m i h k l = let z : i ≡ 0 = omega arith in ap (depth_from 0 P) z ∙ depth-zero 0 ∙ sym (depth-zero m) ∙ ap (depth_from m P) (sym z)
    depth-enough (suc n) m i h k l = go m (none_or_some i) l (λ r z. depth-enough n r (pattern_parent P i) (let e = up z in omega arith) (let e = up z in omega arith))
      where
        up : 0 < i → pattern_parent P i < i
        up z = t.earlier i z h

        go : (m : ℕ) → (i ≡ 0) ⊎ (0 < i) → i ≤ m → ((r : ℕ) → 0 < i → pattern_parent P i ≤ r → depth_from n P (pattern_parent P i) ≡ depth_from r P (pattern_parent P i))
            → depth_from (suc n) P i ≡ depth_from m P i
        go m (inl z) l rest = ap (depth_from (suc n) P) z ∙ depth-zero (suc n) ∙ sym (depth-zero m) ∙ ap (depth_from m P) (sym z)
        go zero (inr z) l rest = absurd (omega arith)
        go (suc r) (inr z) l rest = depth-step n i z ∙ ap suc (rest r z (let e = up z in omega arith)) ∙ sym (depth-step r i z)

    pub depth-child : (i : ℕ) → 0 < i → i < length P → depth_of P i ≡ suc (depth_of P (pattern_parent P i))
    unfolding depth_of
    depth-child i z h =
        let e : pattern_parent P i < i = t.earlier i z h in
        depth-enough i (suc i) i h (omega arith) (omega arith) ∙ depth-step i i z
        ∙ ap suc (depth-enough i (pattern_parent P i) (pattern_parent P i) (omega arith) (omega arith) (omega arith))

    depth-within : (n i : ℕ) → i < n → i < length P → depth_of P i ≤ i
    depth-within zero i k h = absurd (omega arith)
    depth-within (suc n) i k h = go (none_or_some i) (λ j p q. depth-within n j p q)
      where
        go : (i ≡ 0) ⊎ (0 < i) → ((j : ℕ) → j < n → j < length P → depth_of P j ≤ j) → depth_of P i ≤ i
        go (inl z) rest = let e : depth_of P i ≡ 0 = ap (depth_of P) z ∙ depth-root in omega arith
        go (inr z) rest =
            let e : pattern_parent P i < i = t.earlier i z h in
            let c : depth_of P i ≡ suc (depth_of P (pattern_parent P i)) = depth-child i z h in
            let r : depth_of P (pattern_parent P i) ≤ pattern_parent P i = rest (pattern_parent P i) (omega arith) (omega arith) in
            omega arith

    pub depth_small : (i : ℕ) → i < length P → depth_of P i ≤ i
    depth_small i h = depth-within (suc i) i (omega arith) h

  -- ---- children

  pub child-elim : (i c : ℕ) → Memᴰ c (children_of P i) → (0 < c) × (c < length P) × (pattern_parent P c ≡ i)
  unfolding children_of
  child-elim i c m =
      let k = keep-elim (is_child_of P i) c (up_from 0 (length P)) m in
      let l = up_from-mem 0 (length P) c k.0 in
      (ltb-true 0 c (and_left (ltb 0 c) (eqb (pattern_parent P c) i) k.1), omega arith, eqb-true (pattern_parent P c) i (and_right (ltb 0 c) (eqb (pattern_parent P c) i) k.1))

  pub child-intro : (c : ℕ) → 0 < c → c < length P → Memᴰ c (children_of P (pattern_parent P c))
  unfolding children_of
  child-intro c z h =
      keep-intro (is_child_of P (pattern_parent P c)) c (up_from 0 (length P)) (mem-up_from 0 (length P) c (omega arith) (omega arith))
      (and_intro (lt-ltb 0 c z) (eq-eqb (pattern_parent P c) (pattern_parent P c) refl))

  pub child-later : IsPatternTree P → (i c : ℕ) → Memᴰ c (children_of P i) → i < c
  child-later t i c m = let k = child-elim i c m in let e : pattern_parent P c < c = t.earlier c k.0 k.1 in let q = k.2 in omega arith

  -- ---- a subtree

  module _ (by : List Entry → List Entry → Bool) (t : IsPatternTree P) where
    -- as many steps down as there are nodes from its root's number on are enough
    preorder-enough : (n m i : ℕ) → i < length P → length P ≤ n + i → length P ≤ m + i → preorder by n P i ≡ preorder by m P i
    unfolding preorder
    preorder-enough zero m i h k l = absurd (omega arith)
    preorder-enough (suc n) m i h k l = go m l (λ r c q. preorder-enough n r c (child-elim i c q).1 (let p = child-later t i c q in omega arith))
      where
        go : (m : ℕ) → length P ≤ m + i → ((r c : ℕ) → Memᴰ c (children_of P i) → length P ≤ r + c → preorder by n P c ≡ preorder by r P c) → preorder by (suc n) P i ≡ preorder by m P i
        go zero l rest = absurd (omega arith)
        go (suc r) l rest =
            ap (λ (os : List (List ℕ)). i ∷ flatten (ordered (by_written by P) os))
            (map-agree (preorder by n P) (preorder by r P) (children_of P i) (λ c q. rest r c q (let p = child-later t i c q in omega arith)))

    pub preorder-whole : (i : ℕ) → i < length P → preorder by (length P) P i ≡ i ∷ flatten (ordered (by_written by P) (map (preorder by (length P) P) (children_of P i)))
    unfolding preorder
    preorder-whole i h = preorder-enough (length P) (suc (length P)) i h (omega arith) (omega arith)

-- ---- members and maps of a flattened list

module _ {A : Type 0} where
  pub flatten-elim : (x : A) (ls : List (List A)) → Memᴰ x (flatten ls) → (l : List A) × Memᴰ l ls × Memᴰ x l
  unfolding flatten
  flatten-elim x [] m = absurd (mathlib.Core.List.Memᴰ.not-nil m)
  flatten-elim x (l ∷ ls) m = go (mathlib.Core.List.Memᴰ.append_cases l m) (λ p. flatten-elim x ls p)
    where
      go : Memᴰ x l ⊎ Memᴰ x (flatten ls) → (Memᴰ x (flatten ls) → (k : List A) × Memᴰ k ls × Memᴰ x k) → (k : List A) × Memᴰ k (l ∷ ls) × Memᴰ x k
      go (inl p) rest = (l, mathlib.Core.List.Memᴰ.head refl, p)
      go (inr p) rest = let r = rest p in (r.0, mathlib.Core.List.Memᴰ.tail r.1, r.2)

pub map-flatten : {A B : Type 0} (f : A → B) (ls : List (List A)) → map f (flatten ls) ≡ flatten (map (map f) ls)
unfolding flatten
map-flatten f [] = refl
map-flatten {B = B} f (l ∷ ls) = map-append f l (flatten ls) ∙ ap (λ (r : List B). map f l ++ r) (map-flatten f ls)

-- ---- the list of a subtree

-- it begins with an entry of depth d, and all others are deeper
pub record Headed (d : ℕ) (r : List Entry) : Type 0 where
  pub root : Entry
  pub rest : List Entry
  pub begins : r ≡ root ∷ rest
  pub at_depth : root.depth ≡ d
  pub deeper : (e : Entry) → Memᴰ e rest → d < e.depth

pub headed-least : {d : ℕ} {r : List Entry} → Headed d r → (e : Entry) → Memᴰ e r → d ≤ e.depth
headed-least {d} {r} h e m = go (mathlib.Core.List.Memᴰ.cases_cons (subst (λ (l : List Entry). Memᴰ e l) h.begins m))
  where
    go : (e ≡ h.root) ⊎ Memᴰ e h.rest → d ≤ e.depth
    go (inl q) = let k : e.depth ≡ h.root.depth = ap (λ (x : Entry). x.depth) q in let l = h.at_depth in omega arith
    go (inr n) = let l = h.deeper e n in omega arith

-- of a node with the subtrees of some children, in their order
pub over-row : (P : Pattern) (by : List Entry → List Entry → Bool) (i : ℕ) (cs : List ℕ) → entries P (i ∷ flatten (ordered (by_written by P) (map (preorder by (length P) P) cs)))
    ≡ entry_at P i ∷ flatten (ordered by (map (λ c. entries P (preorder by (length P) P c)) cs))
over-row P by i cs =
    ap (λ (es : List Entry). entry_at P i ∷ es)
    (map-flatten (entry_at P) (ordered (by_written by P) (map (preorder by (length P) P) cs))
    ∙ ap flatten (ordered-map (entries P) by (map (preorder by (length P) P) cs))
    ∙ ap (λ (es : List (List Entry)). flatten (ordered by es)) (map-map (entries P) (preorder by (length P) P) cs))

module _ (P : Pattern) (by : List Entry → List Entry → Bool) (t : IsPatternTree P) where
  -- of a whole subtree: the lists of all children
  pub rows-flat : (i : ℕ) → i < length P → entries P (preorder by (length P) P i) ≡ entry_at P i ∷ flatten (ordered by (map (λ c. entries P (preorder by (length P) P c)) (children_of P i)))
  rows-flat i h = ap (entries P) (preorder-whole P by t i h) ∙ over-row P by i (children_of P i)

  headed-within : (n i : ℕ) → i < length P → length P ≤ n + i → Headed (depth_of P i) (entries P (preorder by (length P) P i))
  headed-within zero i h k = absurd (omega arith)
  headed-within (suc n) i h k =
      record {
        root = entry_at P i;
        rest = flatten (ordered by (map row (children_of P i)));
        begins = rows-flat i h;
        at_depth = refl;
        deeper = λ e m. below e m (λ c q. headed-within n c (child-elim P i c q).1 (let p = child-later P t i c q in omega arith));
      }
    where
      row : ℕ → List Entry
      row c = entries P (preorder by (length P) P c)

      below : (e : Entry) → Memᴰ e (flatten (ordered by (map row (children_of P i)))) → ((c : ℕ) → Memᴰ c (children_of P i) → Headed (depth_of P c) (row c)) → depth_of P i < e.depth
      below e m heads =
          let l = flatten-elim e (ordered by (map row (children_of P i))) m in
          let o = mathlib.Core.List.Memᴰ.of_map row (children_of P i) (ordered-elim by l.0 (map row (children_of P i)) l.1) in
          let c : ℕ = o.0 in
          let own : Memᴰ e (row c) = subst (λ (r : List Entry). Memᴰ e r) (sym o.2) l.2 in
          let least : depth_of P c ≤ e.depth = headed-least (heads c o.1) e own in
          let child = child-elim P i c o.1 in
          let deep : depth_of P c ≡ suc (depth_of P i) = depth-child P t c child.0 child.1 ∙ ap (λ (p : ℕ). suc (depth_of P p)) child.2 in
          omega arith

  pub headed : (i : ℕ) → i < length P → Headed (depth_of P i) (entries P (preorder by (length P) P i))
  headed i h = headed-within (length P) i h (omega arith)
