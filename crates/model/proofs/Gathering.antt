-- A tree's list from its last node to its first: a subtree put into its parent's list at the first place where that goes on with one that it
-- does not come after stands there among its siblings. Since every subtree's list begins at one depth and is deeper after that, comparing it
-- with the rest of the parent's list is comparing it with one sibling. Assumes nothing.
use Prim.Native.Nat.{ℕ, zero, suc, ◌+◌, ◌-◌, ◌≤◌, ◌<◌}
use mathlib.Core.Path.{◌≡◌, refl, sym, ap, ◌∙◌, subst}
use mathlib.Core.Bool.{Bool, true, false, ◌&&◌, and-false, true≢false}
use mathlib.Core.Logic.{◌⊎◌, inl, inr}
use mathlib.Core.List.Memᴰ
use mathlib.Core.List.{List, [], ◌∷◌, ◌++◌, map, flat_map, flatten, Memᴰ}
use native.Mathlib.Omega.{arith}
use native.Mathlib.Nat.{add-zero, zero-add}
use lib.Dec.{eqb, ltb}
use lib.ListN.{length, get_or}
use borrow.Author.Tests.{eqb-true, eq-eqb, ne_eqb, lt-ltb}
use Rattle.model.specs.Lists.{up_from, keep, count_of}
use Rattle.model.specs.Pattern.{Pattern, pattern_parent, IsPatternTree}
use Rattle.model.specs.Normal.{not_after, placed, ordered, depth_of, Entry, no_entry, entry_at, entries, entry_numbers, by_subtree, by_written, is_child_of, children_of, preorder}
use Rattle.model.specs.Gathering.{gathered, opens, place_in, joined}
use Rattle.model.proofs.ListLaws.{and_intro, and_right, true-or-false, keep-intro, keep-elim, up_from-mem, mem-up_from}
use Rattle.model.proofs.KeepLaws.{keep-in, keep_out}
use Rattle.model.proofs.Ordering.{after-cases, after-fails, after_same, after_less, after-greater, placed_first, placed-later, ordered-elim, count-placed}
use Rattle.model.proofs.CountLaws.{count-append}
use Rattle.model.proofs.Preorder.{depth-child, child-later, preorder-whole, Headed, headed, over-row}

-- ---- comparing with the rest of a list

-- a list that does not come after another does not come after what goes on from that
after-longer : (xs ys zs : List ℕ) → not_after xs ys ≡ true → not_after xs (ys ++ zs) ≡ true
unfolding not_after
after-longer [] ys zs e = refl
after-longer (x ∷ xs) [] zs e = absurd (true≢false (sym e))
after-longer (x ∷ xs) (y ∷ ys) zs e = go (after-cases x y xs ys e) (λ p. after-longer xs ys zs p)
  where
    go : (x < y) ⊎ ((x ≡ y) × (not_after xs ys ≡ true)) → (not_after xs ys ≡ true → not_after xs (ys ++ zs) ≡ true) → not_after (x ∷ xs) (y ∷ (ys ++ zs)) ≡ true
    go (inl h) rest = after_less x y xs (ys ++ zs) h
    go (inr p) rest = after_same x y xs (ys ++ zs) p.0 ∙ rest p.1

-- where one comes after another, they differ within their first parts, whatever follows, or these are the same
after-parts : (p q xs ys : List ℕ) → length p ≡ length q → not_after (p ++ xs) (q ++ ys) ≡ false → ((us vs : List ℕ) → not_after (p ++ us) (q ++ vs) ≡ false) ⊎ ((p ≡ q) × (not_after xs ys ≡ false))
after-parts [] [] xs ys l e = inr (refl, e)
after-parts [] (y ∷ q) xs ys l e = absurd (omega (arith, l))
after-parts (x ∷ p) [] xs ys l e = absurd (omega (arith, l))
after-parts (x ∷ p) (y ∷ q) xs ys l e = go (after-fails x y (p ++ xs) (q ++ ys) e) (λ k. after-parts p q xs ys (omega (arith, l)) k)
  where
    later : x ≡ y → ((us vs : List ℕ) → not_after (p ++ us) (q ++ vs) ≡ false) ⊎ ((p ≡ q) × (not_after xs ys ≡ false))
        → ((us vs : List ℕ) → not_after (x ∷ (p ++ us)) (y ∷ (q ++ vs)) ≡ false) ⊎ ((x ∷ p ≡ y ∷ q) × (not_after xs ys ≡ false))
    later k (inl f) = inl (λ us vs. after_same x y (p ++ us) (q ++ vs) k ∙ f us vs)
    later k (inr f) = inr (cc (k, f.0), f.1)

    go : (y < x) ⊎ ((x ≡ y) × (not_after (p ++ xs) (q ++ ys) ≡ false))
        → (not_after (p ++ xs) (q ++ ys) ≡ false → ((us vs : List ℕ) → not_after (p ++ us) (q ++ vs) ≡ false) ⊎ ((p ≡ q) × (not_after xs ys ≡ false)))
        → ((us vs : List ℕ) → not_after (x ∷ (p ++ us)) (y ∷ (q ++ vs)) ≡ false) ⊎ ((x ∷ p ≡ y ∷ q) × (not_after xs ys ≡ false))
    go (inl h) rest = inl (λ us vs. after-greater x y (p ++ us) (q ++ vs) h)
    go (inr k) rest = later k.0 (rest k.1)

-- what two lists begin with alike does not tell which comes after
after-alike : (p us vs : List ℕ) → not_after (p ++ us) (p ++ vs) ≡ not_after us vs
after-alike [] us vs = refl
after-alike (x ∷ p) us vs = after_same x x (p ++ us) (p ++ vs) refl ∙ after-alike p us vs

numbers-append : (a b : List Entry) → flat_map entry_numbers (a ++ b) ≡ flat_map entry_numbers a ++ flat_map entry_numbers b
unfolding flat_map
numbers-append [] b = refl
numbers-append (x ∷ a) b = ap (λ (ns : List ℕ). x.depth ∷ x.label ∷ x.edge ∷ x.position ∷ x.figure ∷ ns) (numbers-append a b)

-- nothing, or a list that begins at depth d
abbrev Opening : ℕ → List Entry → Type 0
Opening d s = (s ≡ []) ⊎ ((e : Entry) × (es : List Entry) × (s ≡ e ∷ es) × (e.depth ≡ d))

-- what is deeper and comes after a list comes after it still when it goes on at depth d
module _ (d : ℕ) (s : List Entry) (o : Opening d s) where
  -- by the first entries, and if these are alike by what follows
  after_next : (x y : Entry) (a b : List Entry) → (by_subtree a b ≡ false → by_subtree a (b ++ s) ≡ false) → by_subtree (x ∷ a) (y ∷ b) ≡ false → by_subtree (x ∷ a) (y ∷ (b ++ s)) ≡ false
  unfolding by_subtree flat_map
  after_next x y a b rest e = go (after-parts (entry_numbers x) (entry_numbers y) (flat_map entry_numbers a) (flat_map entry_numbers b) refl e)
    where
      go : ((us vs : List ℕ) → not_after (entry_numbers x ++ us) (entry_numbers y ++ vs) ≡ false) ⊎ ((entry_numbers x ≡ entry_numbers y) × (not_after (flat_map entry_numbers a) (flat_map entry_numbers b) ≡ false))
          → by_subtree (x ∷ a) (y ∷ (b ++ s)) ≡ false
      go (inl f) = f (flat_map entry_numbers a) (flat_map entry_numbers (b ++ s))
      go (inr f) =
          ap (λ (p : List ℕ). not_after (p ++ flat_map entry_numbers a) (entry_numbers y ++ flat_map entry_numbers (b ++ s))) f.0
          ∙ after-alike (entry_numbers y) (flat_map entry_numbers a) (flat_map entry_numbers (b ++ s)) ∙ rest f.1

  after-rest : (a b : List Entry) → ((e : Entry) → Memᴰ e a → d < e.depth) → by_subtree a b ≡ false → by_subtree a (b ++ s) ≡ false
  unfolding by_subtree flat_map not_after
  after-rest [] b deep e = absurd (true≢false e)
  after-rest (x ∷ a) [] deep e = go o
    where
      go : Opening d s → by_subtree (x ∷ a) s ≡ false
      go (inl n) = ap (by_subtree (x ∷ a)) n
      go (inr (y, ys, n, k)) =
          let l : d < x.depth = deep x (Memᴰ.head refl) in
          ap (by_subtree (x ∷ a)) n ∙ after-greater x.depth y.depth (x.label ∷ x.edge ∷ x.position ∷ x.figure ∷ flat_map entry_numbers a) (y.label ∷ y.edge ∷ y.position ∷ y.figure ∷ flat_map entry_numbers ys) (omega arith)
  after-rest (x ∷ a) (y ∷ b) deep e = after_next x y a b (λ p. after-rest a b (λ z m. deep z (Memᴰ.tail m)) p) e

  -- a subtree's list comes after the rest of a list that begins with one as deep exactly when it comes after that one
  after-sibling : (a b : List Entry) → Headed d a → Headed d b → by_subtree a (b ++ s) ≡ by_subtree a b
  unfolding by_subtree
  after-sibling a b h k = go (true-or-false (by_subtree a b))
    where
      longer : by_subtree a b ≡ true → by_subtree a (b ++ s) ≡ true
      longer e = ap (not_after (flat_map entry_numbers a)) (numbers-append b s) ∙ after-longer (flat_map entry_numbers a) (flat_map entry_numbers b) (flat_map entry_numbers s) e

      later : by_subtree a b ≡ false → by_subtree a (b ++ s) ≡ false
      later e =
          ap (λ (l : List Entry). by_subtree l (b ++ s)) h.begins ∙ ap (λ (l : List Entry). by_subtree (h.root ∷ h.rest) (l ++ s)) k.begins
          ∙ after_next h.root k.root h.rest k.rest (λ p. after-rest h.rest k.rest h.deeper p)
          (ap (by_subtree (h.root ∷ h.rest)) (sym k.begins) ∙ ap (λ (l : List Entry). by_subtree l b) (sym h.begins) ∙ e)

      go : (by_subtree a b ≡ true) ⊎ (by_subtree a b ≡ false) → by_subtree a (b ++ s) ≡ by_subtree a b
      go (inl e) = longer e ∙ sym e
      go (inr e) = later e ∙ sym e

-- ---- the place

module _ (r : List Entry) where
  joined_end : joined r [] ≡ r ++ []
  unfolding joined place_in
  joined_end = refl

  joined-here : (e : Entry) (es : List Entry) → opens r (e ∷ es) ≡ true → joined r (e ∷ es) ≡ r ++ e ∷ es
  unfolding joined place_in
  joined-here e es q = rw (q, place_in) refl

  joined-later : (e : Entry) (es : List Entry) → opens r (e ∷ es) ≡ false → joined r (e ∷ es) ≡ e ∷ joined r es
  unfolding joined place_in
  joined-later e es q = rw (q, place_in) refl

  module _ (d : ℕ) (h : Headed d r) where
    head-depth : (get_or r 0 no_entry).depth ≡ d
    head-depth = ap (λ (l : List Entry). (get_or l 0 no_entry).depth) h.begins ∙ h.at_depth

    opens_not : (e : Entry) (es : List Entry) → (e.depth ≡ d → ⊥) → opens r (e ∷ es) ≡ false
    unfolding opens
    opens_not e es ne = ap (λ (b : Bool). b && by_subtree r (e ∷ es)) (ne_eqb e.depth (get_or r 0 no_entry).depth (λ q. ne (q ∙ head-depth)))

    opens-same : (e : Entry) (es : List Entry) → e.depth ≡ d → opens r (e ∷ es) ≡ by_subtree r (e ∷ es)
    unfolding opens
    opens-same e es q = ap (λ (b : Bool). b && by_subtree r (e ∷ es)) (eq-eqb e.depth (get_or r 0 no_entry).depth (q ∙ sym head-depth))

    -- what is deeper is passed over
    joined-past : (a s : List Entry) → ((e : Entry) → Memᴰ e a → d < e.depth) → joined r (a ++ s) ≡ a ++ joined r s
    joined-past [] s deep = refl
    joined-past (x ∷ a) s deep =
        joined-later x (a ++ s) (opens_not x (a ++ s) (λ q. (let l : d < x.depth = deep x (Memᴰ.head refl) in omega arith)))
        ∙ ap (λ (es : List Entry). x ∷ es) (joined-past a s (λ e m. deep e (Memᴰ.tail m)))

    -- a flattened list of siblings is nothing, or begins as deep as they
    siblings-open : (ls : List (List Entry)) → ((l : List Entry) → Memᴰ l ls → Headed d l) → Opening d (flatten ls)
    unfolding flatten
    siblings-open [] heads = inl refl
    siblings-open (l ∷ ls) heads =
        let k = heads l (Memᴰ.head refl) in
        inr (k.root, k.rest ++ flatten ls, ap (λ (x : List Entry). x ++ flatten ls) k.begins, k.at_depth)

    -- among siblings
    joined-siblings : (ls : List (List Entry)) → ((l : List Entry) → Memᴰ l ls → Headed d l) → joined r (flatten ls) ≡ flatten (placed by_subtree r ls)
    unfolding flatten placed
    joined-siblings [] heads = joined_end
    joined-siblings (l ∷ ls) heads = go (true-or-false (by_subtree r l)) (joined-siblings ls (λ m q. heads m (Memᴰ.tail q)))
      where
        k : Headed d l
        k = heads l (Memᴰ.head refl)

        split : l ++ flatten ls ≡ k.root ∷ (k.rest ++ flatten ls)
        split = ap (λ (x : List Entry). x ++ flatten ls) k.begins

        test : opens r (k.root ∷ (k.rest ++ flatten ls)) ≡ by_subtree r l
        test =
            opens-same k.root (k.rest ++ flatten ls) k.at_depth ∙ ap (by_subtree r) (sym split)
            ∙ after-sibling d (flatten ls) (siblings-open ls (λ m q. heads m (Memᴰ.tail q))) r l h k

        go : (by_subtree r l ≡ true) ⊎ (by_subtree r l ≡ false) → joined r (flatten ls) ≡ flatten (placed by_subtree r ls)
            → joined r (l ++ flatten ls) ≡ flatten (placed by_subtree r (l ∷ ls))
        go (inl e) rest =
            ap (joined r) split ∙ joined-here k.root (k.rest ++ flatten ls) (test ∙ e) ∙ ap (λ (x : List Entry). r ++ x) (sym split)
            ∙ ap flatten (sym (placed_first by_subtree r l ls e))
        go (inr e) rest =
            ap (joined r) split ∙ joined-later k.root (k.rest ++ flatten ls) (test ∙ e)
            ∙ ap (λ (x : List Entry). k.root ∷ x) (joined-past k.rest (flatten ls) k.deeper ∙ ap (λ (x : List Entry). k.rest ++ x) rest)
            ∙ ap (λ (x : List Entry). x ++ flatten (placed by_subtree r ls)) (sym k.begins)
            ∙ ap flatten (sym (placed-later by_subtree r l ls e))

-- ---- from the last node to the first

-- nothing is kept before a
keep-from : (test : ℕ → Bool) (a m n : ℕ) → ((j : ℕ) → a ≤ j → j < a + m → test j ≡ false) → keep test (up_from a (m + n)) ≡ keep test (up_from (a + m) n)
unfolding up_from
keep-from test a zero n h = ap (λ (k : ℕ). keep test (up_from a k)) (zero-add n) ∙ ap (λ (b : ℕ). keep test (up_from b n)) (sym (add-zero a))
keep-from test a (suc m) n h =
    let e : suc m + n ≡ suc (m + n) = omega arith in
    ap (λ (k : ℕ). keep test (up_from a k)) e ∙ keep_out test a (up_from (suc a) (m + n)) (h a (omega arith) (omega arith))
    ∙ keep-from test (suc a) m n (λ j p q. h j (omega arith) (omega arith)) ∙ ap (λ (b : ℕ). keep test (up_from b n)) (omega arith)

up_from-next : (k n : ℕ) → k < n → up_from k (n - k) ≡ k ∷ up_from (suc k) (n - suc k)
unfolding up_from
up_from-next k n h = let e : n - k ≡ suc (n - suc k) = omega arith in ap (up_from k) e

module _ (P : Pattern) where
  -- the children of node i from number k on
  abbrev later : ℕ → ℕ → List ℕ
  later k i = keep (is_child_of P i) (up_from k (length P - k))

  -- node i with the subtrees of some of its children, in their order; and what is written of it
  abbrev over : ℕ → List ℕ → List ℕ
  over i cs = i ∷ flatten (ordered (by_written by_subtree P) (map (preorder by_subtree (length P) P) cs))

  abbrev row : ℕ → List Entry
  row i = entries P (preorder by_subtree (length P) P i)

  pub gathered-start : (i : ℕ) → gathered P (length P) i ≡ i ∷ []
  unfolding gathered up_from keep ordered flatten
  gathered-start i = let z : length P - length P ≡ 0 = omega arith in ap (λ (n : ℕ). over i (keep (is_child_of P i) (up_from (length P) n))) z

  pub gathered-other : (k i : ℕ) → k < length P → (pattern_parent P k ≡ i → ⊥) → gathered P k i ≡ gathered P (suc k) i
  unfolding gathered
  gathered-other k i h ne =
      ap (over i)
      (ap (keep (is_child_of P i)) (up_from-next k (length P) h)
      ∙ keep_out (is_child_of P i) k (up_from (suc k) (length P - suc k)) (ap (λ (b : Bool). ltb 0 k && b) (ne_eqb (pattern_parent P k) i ne) ∙ and-false (ltb 0 k)))

  module _ (t : IsPatternTree P) where
    pub gathered-whole : (i k : ℕ) → i < length P → k ≤ suc i → gathered P k i ≡ preorder by_subtree (length P) P i
    unfolding gathered children_of
    gathered-whole i k h l =
        let n : length P ≡ k + (length P - k) = omega arith in
        ap (over i)
        (sym (keep-from (is_child_of P i) 0 k (length P - k) (λ j p q. none j (omega arith)) ∙ ap (λ (b : ℕ). keep (is_child_of P i) (up_from b (length P - k))) (zero-add k))
        ∙ ap (λ (m : ℕ). keep (is_child_of P i) (up_from 0 m)) (sym n))
        ∙ sym (preorder-whole P by_subtree t i h)
      where
        none : (j : ℕ) → j < k → is_child_of P i j ≡ false
        none j q = go (true-or-false (is_child_of P i j))
          where
            go : (is_child_of P i j ≡ true) ⊎ (is_child_of P i j ≡ false) → is_child_of P i j ≡ false
            go (inl e) =
                let m : i < j = child-later P t i j (keep-intro (is_child_of P i) j (up_from 0 (length P)) (mem-up_from 0 (length P) j (omega arith) (omega arith)) e) in
                absurd (omega arith)
            go (inr e) = e

    first-later : (k : ℕ) → 0 < k → k < length P → later k (pattern_parent P k) ≡ k ∷ later (suc k) (pattern_parent P k)
    first-later k z h =
        ap (keep (is_child_of P (pattern_parent P k))) (up_from-next k (length P) h)
        ∙ keep-in (is_child_of P (pattern_parent P k)) k (up_from (suc k) (length P - suc k)) (and_intro (lt-ltb 0 k z) (eq-eqb (pattern_parent P k) (pattern_parent P k) refl))

    -- what passes a test, in a node's subtree with one child more
    pub gathered-count : (test : ℕ → Bool) (k : ℕ) → 0 < k → k < length P
        → count_of test (gathered P k (pattern_parent P k)) ≡ count_of test (gathered P (suc k) k) + count_of test (gathered P (suc k) (pattern_parent P k))
    unfolding gathered ordered
    gathered-count test k z h =
        ap (λ (cs : List ℕ). count_of test (over p cs)) (first-later k z h)
        ∙ count-append test (p ∷ []) (flatten (placed (by_written by_subtree P) (preorder by_subtree (length P) P k) rest))
        ∙ ap (λ (n : ℕ). count_of test (p ∷ []) + n) (count-placed test (by_written by_subtree P) (preorder by_subtree (length P) P k) rest)
        ∙ shuffle (count_of test (p ∷ [])) (count_of test (preorder by_subtree (length P) P k)) (count_of test (flatten rest))
        ∙ ap (λ (n : ℕ). count_of test (preorder by_subtree (length P) P k) + n) (sym (count-append test (p ∷ []) (flatten rest)))
        ∙ ap (λ (o : List ℕ). count_of test o + count_of test (p ∷ flatten rest)) (sym (gathered-whole k (suc k) h (omega arith)))
      where
        p : ℕ
        p = pattern_parent P k

        rest : List (List ℕ)
        rest = ordered (by_written by_subtree P) (map (preorder by_subtree (length P) P) (later (suc k) p))

        shuffle : (a b c : ℕ) → a + (b + c) ≡ b + (a + c)
        shuffle a b c = omega arith

    pub gathered-own : (k : ℕ) → 0 < k → k < length P
        → entries P (gathered P k (pattern_parent P k)) ≡ joined (entries P (gathered P (suc k) k)) (entries P (gathered P (suc k) (pattern_parent P k)))
    unfolding gathered ordered
    gathered-own k z h =
        ap (λ (cs : List ℕ). entries P (over p cs)) (first-later k z h)
        ∙ over-row P by_subtree p (k ∷ later (suc k) p)
        ∙ ap (λ (es : List Entry). entry_at P p ∷ es) (sym (joined-siblings (row k) (depth_of P k) own (ordered by_subtree (map row (later (suc k) p))) heads))
        ∙ sym (joined-later (row k) (entry_at P p) (flatten (ordered by_subtree (map row (later (suc k) p)))) (opens_not (row k) (depth_of P k) own (entry_at P p) (flatten (ordered by_subtree (map row (later (suc k) p)))) (λ e. omega (arith, deep, e))))
        ∙ ap (joined (row k)) (sym (over-row P by_subtree p (later (suc k) p)))
        ∙ ap (λ (o : List ℕ). joined (entries P o) (entries P (over p (later (suc k) p)))) (sym (gathered-whole k (suc k) h (omega arith)))
      where
        p : ℕ
        p = pattern_parent P k

        own : Headed (depth_of P k) (row k)
        own = headed P by_subtree t k h

        deep : depth_of P k ≡ suc (depth_of P p)
        deep = depth-child P t k z h

        heads : (l : List Entry) → Memᴰ l (ordered by_subtree (map row (later (suc k) p))) → Headed (depth_of P k) l
        heads l m =
            let o = Memᴰ.of_map row (later (suc k) p) (ordered-elim by_subtree l (map row (later (suc k) p)) m) in
            let c : ℕ = o.0 in
            let q = keep-elim (is_child_of P p) c (up_from (suc k) (length P - suc k)) o.1 in
            let b = up_from-mem (suc k) (length P - suc k) c q.0 in
            let same : pattern_parent P c ≡ p = eqb-true (pattern_parent P c) p (and_right (ltb 0 c) (eqb (pattern_parent P c) p) q.1) in
            let inside : c < length P = omega arith in
            let level : depth_of P c ≡ depth_of P k = depth-child P t c (omega arith) inside ∙ ap (λ (x : ℕ). suc (depth_of P x)) same ∙ sym deep in
            subst (λ (r : List Entry). Headed (depth_of P k) r) o.2 (subst (λ (d : ℕ). Headed d (row c)) level (headed P by_subtree t c inside))
