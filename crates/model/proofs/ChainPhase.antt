-- The first phase of a canonical document keeps the invariant: the root alone has it, and the chain of one more pattern node
-- keeps it. Assumes nothing.
use Prim.Native.Nat.{ℕ, zero, suc, ◌+◌, ◌-◌, ◌≤◌, ◌<◌}
use mathlib.Core.Path.{◌≡◌, refl, sym, ap, ◌∙◌, subst, subst₂, ap₂}
use mathlib.Core.Bool.{Bool, true, false, false≢true}
use mathlib.Core.Logic.{◌⊎◌, inl, inr}
use mathlib.Core.List.{List, [], ◌∷◌, ◌++◌, tail, nil≢cons}
use native.Mathlib.Omega.{arith}
use lib.Dec.{eqb, ltb}
use lib.ListN.{length, get_or, drop, length-drop, get_or-append}
use lib.Seq.{get_or-append_seam}
use borrow.Author.Tests.{eqb-true, eqb-false, ltb-true, ltb-false}
use Rattle.model.specs.Tree.{IsTree}
use Rattle.model.specs.Summary.{Summary, as_document}
use Rattle.model.specs.Pattern.{Pattern, PatternRecord, no_pattern_record, IsPatternTree, pattern_parent, SummaryEmbedding, descends}
use Rattle.model.specs.Embeddings.{image_in}
use Rattle.model.specs.Canonical.{Spot, root_spot, spot_parent, spot_at, chain, append_chain, Layout, lay_node, lay_nodes, root_layout, chains}
use Rattle.model.proofs.ListLaws.{length-snoc, drop-begins}
use Rattle.model.proofs.TreeLaws.{edge-below}
use Rattle.model.proofs.Chains.{Way, step, below-way, chain-way, chain-self}
use Rattle.model.proofs.Laid.{spot_owner, spot_filled, ChainChild}
use Rattle.model.proofs.Built.{SpotFacts, ChainedTo, FirstOf, NodeFacts, Least, Built, Extends, at-kept, chain-child-kept, spot-kept, earlier-kept, node_kept, next-kept, own-at-kept, own-owner-kept, own-unfilled-kept, distinct-kept, least_kept}
use Rattle.model.proofs.Segment.{Segment, Appended, append-chain, chain-spot-child, Hangs, SegmentNode, segment-node, segment-rises}

-- ---- the root alone

-- what holds of 0 holds of every number below 1
below_one : (F : ℕ → Type 0) → F 0 → (i : ℕ) → i < 1 → F i
below_one F z zero h = z
below_one F z (suc i) h = absurd (omega arith)

pub root-built : (S : Summary) (P : Pattern) (es : List ℕ) → image_in es 0 ≡ 0 → Built S P es 1 (root_spot ∷ []) (0 ∷ [])
root-built S P es z =
    record {
      some = omega arith;
      root = refl;
      spot = λ i s h e. below_one (λ k. get_or spots k root_spot ≡ s → SpotFacts S es (0 ∷ []) 1 k s) (spot-zero s) i h e;
      earlier = λ i p h. absurd (omega arith);
      node = λ i s u p h e f. absurd (omega arith);
      next = λ i s x xs h e f c. below_one (λ k. get_or spots k root_spot ≡ s → ChainChild spots k s.owner x) (λ q. absurd (none s x xs q c)) i h e;
      first = λ q x xs p h e. absurd (omega arith);
      own_length = refl;
      own_root = refl;
      own_inside = below_one (λ q. image_in (0 ∷ []) q < 1) (omega arith);
      own_at = below_one (λ q. spot_at spots (image_in (0 ∷ []) q) ≡ image_in es q) (sym z);
      own_owner = below_one (λ q. spot_owner spots (image_in (0 ∷ []) q) ≡ q) refl;
      own_unfilled = below_one (λ q. spot_filled spots (image_in (0 ∷ []) q) ≡ false) refl;
      distinct = λ i j h k o a. omega arith;
      least = λ i p h. absurd (omega arith);
    }
  where
    spots : List Spot
    spots = root_spot ∷ []

    spot-zero : (s : Spot) → root_spot ≡ s → SpotFacts S es (0 ∷ []) 1 0 s
    spot-zero s e =
        subst (λ (k : Spot). SpotFacts S es (0 ∷ []) 1 0 k) e
        (record { owner = omega arith; chain_end = λ f c. sym z; own_only = λ f a. refl })

    -- the chain from the root down to the root is empty
    none : (s : Spot) (x : ℕ) (xs : List ℕ) → root_spot ≡ s → chain S s.at (image_in es s.owner) ≡ x ∷ xs → ⊥
    none s x xs e c =
        let c' : chain S 0 (image_in es 0) ≡ x ∷ xs = subst (λ (k : Spot). chain S k.at (image_in es k.owner) ≡ x ∷ xs) (sym e) c in
        nil≢cons (sym (chain-self S 0) ∙ subst (λ (k : ℕ). chain S 0 k ≡ x ∷ xs) z c')

-- ---- one more pattern node

-- what is known when pattern node m, hung from node v, is given the chain xs down to its image in the table T
record Turn (S : Summary) (P : Pattern) (es : List ℕ) (m : ℕ) (spots : List Spot) (own : List ℕ) (v : ℕ) (xs : List ℕ) (T : List Spot) : Type 0 where
  tree : IsTree (as_document S)
  ordered : IsPatternTree P
  built : Built S P es m spots own
  positive : 0 < m
  inside : m < length P
  hung : image_in own (pattern_parent P m) ≡ v
  way : Way (as_document S) (image_in es m) (image_in es (pattern_parent P m)) xs
  nonempty : 0 < length xs
  appended : Appended m spots v xs T

module _ {S : Summary} {P : Pattern} {es : List ℕ} {m : ℕ} {spots : List Spot} {own : List ℕ} {v : ℕ} {xs : List ℕ} {T : List Spot}
    (t : Turn S P es m spots own v xs T) where
  abbrev own' : List ℕ
  own' = own ++ (length T - 1) ∷ []

  parent-lt : pattern_parent P m < m
  parent-lt = t.ordered.earlier m t.positive t.inside

  v-inside : v < length spots
  v-inside = subst (λ (k : ℕ). k < length spots) t.hung (t.built.own_inside (pattern_parent P m) parent-lt)

  size : length T ≡ length spots + length xs
  size = t.appended.size

  -- an old node, or one of the new chain
  abbrev Side : ℕ → Type 0
  Side i = (i < length spots) ⊎ ((length spots ≤ i) × (i < length spots + length xs))

  side : (i : ℕ) → i < length T → Side i
  side i h = go (ltb i (length spots)) refl
    where
      go : (b : Bool) → ltb i (length spots) ≡ b → Side i
      go true e = inl (ltb-true i (length spots) e)
      go false e = let z = size in inr (ltb-false i (length spots) e, omega arith)

  ext : Extends spots T
  ext = t.appended.extends

  v-at : spot_at T v ≡ image_in es (pattern_parent P m)
  v-at =
      at-kept ext v v-inside
      ∙ subst (λ (k : ℕ). spot_at spots k ≡ image_in es (pattern_parent P m)) t.hung (t.built.own_at (pattern_parent P m) parent-lt)

  -- a node of the new chain
  abbrev New : ℕ → Type 0
  New i = SegmentNode S T m (image_in es m) v (length spots) (length xs) i

  new : (i : ℕ) → length spots ≤ i → i < length spots + length xs → New i
  new = segment-node S t.tree T m (image_in es m) v (length spots) t.way v-at t.appended.segment (let z = size in omega arith)

  rises : (i j : ℕ) → length spots ≤ i → i < j → j < length spots + length xs → spot_at T i < spot_at T j
  rises = segment-rises S t.tree T m (image_in es m) v (length spots) t.way v-at t.appended.segment (let z = size in omega arith)

  -- own nodes so far keep their numbers, and the last new node is the next
  own_old : (q : ℕ) → q < m → image_in own' q ≡ image_in own q
  own_old q h = get_or-append own ((length T - 1) ∷ []) 0 q (let z = t.built.own_length in omega arith)

  own_new : image_in own' m ≡ length T - 1
  own_new = subst (λ (k : ℕ). image_in own' k ≡ length T - 1) t.built.own_length (get_or-append_seam own (length T - 1) [] 0)

  last-lower : length spots ≤ length T - 1
  last-lower = let z = size in let k = t.nonempty in omega arith

  last-upper : length T - 1 < length spots + length xs
  last-upper = let z = size in let k = t.nonempty in omega arith

  last-node : New (length T - 1)
  last-node = new (length T - 1) last-lower last-upper

  old-owner : (i : ℕ) → i < length spots → spot_owner T i < m
  old-owner i h = (spot-kept ext t.built i (get_or T i root_spot) h refl).owner

  -- spots
  old-spot : {i : ℕ} {s : Spot} → SpotFacts S es own m i s → SpotFacts S es own' (suc m) i s
  old-spot {i} {s} f =
      record {
        owner = let h = f.owner in omega arith;
        chain_end = f.chain_end;
        own_only = λ p a. f.own_only p a ∙ sym (own_old s.owner f.owner);
      }

  new-spot : (i : ℕ) → New i → SpotFacts S es own' (suc m) i (get_or T i root_spot)
  new-spot i n =
      let z : length T ≡ length spots + length xs = size in
      record {
        owner = rw n.owner (omega arith);
        chain_end = λ p c. n.lowest (subst (λ (k : ℕ). chain S (spot_at T i) (image_in es k) ≡ []) n.owner c) ∙ ap (image_in es) (sym n.owner);
        own_only = λ p a. only_at (n.last (a ∙ ap (image_in es) n.owner)) ∙ (sym own_new ∙ ap (image_in own') (sym n.owner));
      }
    where
      only_at : suc i ≡ length spots + length xs → i ≡ length T - 1
      only_at p = let z = size in omega arith

  spot_of : (i : ℕ) (s : Spot) → i < length T → get_or T i root_spot ≡ s → SpotFacts S es own' (suc m) i s
  spot_of i s h e = go (side i h)
    where
      go : Side i → SpotFacts S es own' (suc m) i s
      go (inl l) = old-spot (spot-kept ext t.built i s l e)
      go (inr r) = subst (λ (k : Spot). SpotFacts S es own' (suc m) i k) e (new-spot i (new i r.0 r.1))

  -- parents
  earlier-of : (i : ℕ) → 0 < i → i < length T → spot_parent T i < i
  earlier-of i p h = go (side i h)
    where
      hung-lt : length spots ≤ i → Hangs T v (length spots) i → spot_parent T i < i
      hung-lt l (inl k) = let a = k.0 in let b = k.1 in let c = v-inside in omega arith
      hung-lt l (inr k) = let b = k.1 in omega arith

      go : Side i → spot_parent T i < i
      go (inl l) = earlier-kept ext t.built i p l
      go (inr r) = hung-lt r.0 (new i r.0 r.1).hangs

  -- nodes
  old-node : {s u : Spot} → s.owner < m → NodeFacts S P es own s u → NodeFacts S P es own' s u
  old-node {s} {u} l f = record { edge = f.edge; filled_up = f.filled_up; chain_up = λ p. go (f.chain_up p) }
    where
      go : ChainedTo S es s u ⊎ FirstOf S P es own s → ChainedTo S es s u ⊎ FirstOf S P es own' s
      go (inl c) = inl c
      go (inr c) =
          let k : pattern_parent P s.owner < s.owner = t.ordered.earlier s.owner c.owner (let i = t.inside in omega arith) in
          inr (record { owner = c.owner; hangs = c.hangs ∙ sym (own_old (pattern_parent P s.owner) (omega arith)); chained = c.chained })

  new-node : (i : ℕ) → length spots ≤ i → i < length spots + length xs → NodeFacts S P es own' (get_or T i root_spot) (get_or T (spot_parent T i) root_spot)
  new-node i l h =
      record {
        edge = n.edge;
        filled_up = λ p. absurd (false≢true (sym n.unfilled ∙ p));
        chain_up = λ p. up n.hangs;
      }
    where
      n : New i
      n = new i l h

      up : Hangs T v (length spots) i
          → ChainedTo S es (get_or T i root_spot) (get_or T (spot_parent T i) root_spot) ⊎ FirstOf S P es own' (get_or T i root_spot)
      up (inl k) =
          inr (record {
            owner = rw n.owner t.positive;
            hangs = k.1 ∙ (sym t.hung ∙ (sym (own_old (pattern_parent P m) parent-lt) ∙ ap (λ (q : ℕ). image_in own' (pattern_parent P q)) (sym n.owner)));
            chained = rw (n.owner, ← v-at, ← k.1) n.chained;
          })
      up (inr k) =
          let a = k.1 in
          let p : New (spot_parent T i) = new (spot_parent T i) k.0 (omega arith) in
          inl (record { owner = p.owner ∙ sym n.owner; unfilled = p.unfilled; chained = rw n.owner n.chained })

  node_of : (i : ℕ) (s u : Spot) → 0 < i → i < length T → get_or T i root_spot ≡ s → get_or T s.parent root_spot ≡ u → NodeFacts S P es own' s u
  node_of i s u p h e f = go (side i h)
    where
      go : Side i → NodeFacts S P es own' s u
      go (inl l) = old-node (spot-kept ext t.built i s l e).owner (node_kept ext t.built i s u p l e f)
      go (inr r) =
          let g : get_or T (spot_parent T i) root_spot ≡ u = ap (λ (z : Spot). get_or T z.parent root_spot) e ∙ f in
          subst₂ (λ (a b : Spot). NodeFacts S P es own' a b) e g (new-node i r.0 r.1)

  -- the next of a chain
  next_of : (i : ℕ) (s : Spot) (y : ℕ) (ys : List ℕ) → i < length T → get_or T i root_spot ≡ s → s.filled ≡ false
      → chain S s.at (image_in es s.owner) ≡ y ∷ ys → ChainChild T i s.owner y
  next_of i s y ys h e f c = go (side i h)
    where
      go : Side i → ChainChild T i s.owner y
      go (inl l) = next-kept ext t.built i s y ys l e f c
      go (inr r) =
          let n : New i = new i r.0 r.1 in
          let o : s.owner ≡ m = ap (λ (z : Spot). z.owner) (sym e) ∙ n.owner in
          let a : s.at ≡ spot_at T i = ap (λ (z : Spot). z.at) (sym e) in
          rw o (n.next y ys (rw (← a, ← o) c))

  -- the first of the new chain
  first-new : (y : ℕ) (ys : List ℕ) → chain S (image_in es (pattern_parent P m)) (image_in es m) ≡ y ∷ ys → ChainChild T v m y
  first-new y ys c =
      let z = size in
      let k = t.nonempty in
      let b = t.built.some in
      let p : xs ≡ y ∷ ys = sym (chain-way S t.tree t.way) ∙ c in
      let g : Segment T m v (length spots) (y ∷ ys) = subst (λ (l : List ℕ). Segment T m v (length spots) l) p t.appended.segment in
      chain-spot-child (length spots) g.0 b (omega arith)

  first_of : (q y : ℕ) (ys : List ℕ) → 0 < q → q < suc m → chain S (image_in es (pattern_parent P q)) (image_in es q) ≡ y ∷ ys
      → ChainChild T (image_in own' (pattern_parent P q)) q y
  first_of q y ys p h c = go (eqb q m) refl
    where
      go : (b : Bool) → eqb q m ≡ b → ChainChild T (image_in own' (pattern_parent P q)) q y
      go true e =
          let e' : q ≡ m = eqb-true q m e in
          rw (e', own_old (pattern_parent P m) parent-lt, t.hung) (first-new y ys (rw (← e') c))
      go false e =
          let ne : q ≡ m → ⊥ = eqb-false q m e in
          let k : pattern_parent P q < q = t.ordered.earlier q p (let i = t.inside in omega arith) in
          rw (own_old (pattern_parent P q) (omega arith)) (chain-child-kept ext (t.built.first q y ys p (omega arith) c))

  -- own nodes
  own_of : (F : ℕ → ℕ → Type 0) → ((q : ℕ) → q < m → F q (image_in own q)) → F m (length T - 1) → (q : ℕ) → q < suc m → F q (image_in own' q)
  own_of F old last q h = go (eqb q m) refl
    where
      go : (b : Bool) → eqb q m ≡ b → F q (image_in own' q)
      go true e = let e' : q ≡ m = eqb-true q m e in rw (e', own_new) last
      go false e =
          let ne : q ≡ m → ⊥ = eqb-false q m e in
          let l : q < m = omega arith in
          rw (own_old q l) (old q l)

  -- no two nodes of an owner are on one path
  new-distinct : (i j : ℕ) → length spots ≤ i → i < length spots + length xs → length spots ≤ j → j < length spots + length xs → spot_at T i ≡ spot_at T j → i ≡ j
  new-distinct i j a b c d e = go (ltb i j) (ltb j i) refl refl
    where
      go : (p q : Bool) → ltb i j ≡ p → ltb j i ≡ q → i ≡ j
      go true q x y = let r : spot_at T i < spot_at T j = rises i j a (ltb-true i j x) d in absurd (omega arith)
      go false true x y = let r : spot_at T j < spot_at T i = rises j i c (ltb-true j i y) b in absurd (omega arith)
      go false false x y = let k = ltb-false i j x in let l = ltb-false j i y in omega arith

  apart : (i j : ℕ) → i < length spots → length spots ≤ j → j < length spots + length xs → spot_owner T i ≡ spot_owner T j → ⊥
  apart i j l a b o =
      let n = new j a b in
      let p : spot_owner T j ≡ m = n.owner in
      let q : spot_owner T i < m = old-owner i l in
      omega arith

  distinct_of : (i j : ℕ) → i < length T → j < length T → spot_owner T i ≡ spot_owner T j → spot_at T i ≡ spot_at T j → i ≡ j
  distinct_of i j h k o a = go (side i h) (side j k)
    where
      go : Side i → Side j → i ≡ j
      go (inl p) (inl q) = distinct-kept ext t.built i j p q o a
      go (inl p) (inr q) = absurd (apart i j p q.0 q.1 o)
      go (inr p) (inl q) = absurd (apart j i q p.0 p.1 (sym o))
      go (inr p) (inr q) = new-distinct i j p.0 p.1 q.0 q.1 a

  least-of : (i : ℕ) → 0 < i → i < length T → (spot_owner T (spot_parent T i) ≡ spot_owner T i) ⊎ Least T i
  least-of i p h = go (side i h)
    where
      first-least : i ≡ length spots → length spots ≤ i → Least T i
      first-least e l = record { least = λ j k o. at_j j o (side j k) }
        where
          n : New i
          n = new i l (let z = t.nonempty in omega arith)

          below : (j : ℕ) → length spots ≤ j → j < length spots + length xs → (b : Bool) → ltb i j ≡ b → spot_at T i ≤ spot_at T j
          below j a b true q = let r : spot_at T i < spot_at T j = rises i j l (ltb-true i j q) b in omega arith
          below j a b false q =
              let r : j ≤ i = ltb-false i j q in
              let same_number : i ≡ j = omega arith in
              rw same_number (omega arith)

          at_j : (j : ℕ) → spot_owner T j ≡ spot_owner T i → Side j → spot_at T i ≤ spot_at T j
          at_j j o (inl q) = absurd (apart j i q l (let z = t.nonempty in omega arith) o)
          at_j j o (inr q) = below j q.0 q.1 (ltb i j) refl

      chained : length spots ≤ i → i < length spots + length xs → Hangs T v (length spots) i
          → (spot_owner T (spot_parent T i) ≡ spot_owner T i) ⊎ Least T i
      chained l b (inl k) = inr (first-least k.0 l)
      chained l b (inr k) = let a = k.1 in inl ((new (spot_parent T i) k.0 (omega arith)).owner ∙ sym (new i l b).owner)

      go : Side i → (spot_owner T (spot_parent T i) ≡ spot_owner T i) ⊎ Least T i
      go (inl l) = least_kept ext t.built i p l (λ f j a b o. absurd (apart i j l a (let z = size in omega arith) (sym o)))
      go (inr r) = chained r.0 r.1 (new i r.0 r.1).hangs

  turn-built : Built S P es (suc m) T own'
  turn-built =
      let z = size in
      let k = t.built.some in
      record {
        some = omega arith;
        root = ext.same 0 k ∙ t.built.root;
        spot = spot_of;
        earlier = earlier-of;
        node = node_of;
        next = next_of;
        first = first_of;
        own_length = length-snoc own (length T - 1) ∙ ap suc t.built.own_length;
        own_root = own_old 0 t.positive ∙ t.built.own_root;
        own_inside = own_of (λ q i. i < length T) (λ q l. (let a = t.built.own_inside q l in omega arith)) (let a = last-upper in omega arith);
        own_at = own_of (λ q i. spot_at T i ≡ image_in es q) (own-at-kept ext t.built) (last-node.ends (let a = t.nonempty in omega arith));
        own_owner = own_of (λ q i. spot_owner T i ≡ q) (own-owner-kept ext t.built) last-node.owner;
        own_unfilled = own_of (λ q i. spot_filled T i ≡ false) (own-unfilled-kept ext t.built) last-node.unfilled;
        distinct = distinct_of;
        least = least-of;
      }

-- ---- all pattern nodes

-- the layout after pattern node q, whose parent is p, as one function of these two numbers
abbrev laid : Summary → List ℕ → Layout → ℕ → ℕ → Layout
laid S es l q p =
    let spots : List Spot = append_chain q l.spots (image_in l.own p) (chain S (image_in es p) (image_in es q)) in
    record { spots = spots; own = l.own ++ (length spots - 1) ∷ [] }

lay_node-laid : (S : Summary) (es : List ℕ) (l : Layout) (r : PatternRecord) → lay_node es S l r ≡ laid S es l (length l.own) r.parent
unfolding lay_node
lay_node-laid S es l r = refl

pub drop-one : (P : Pattern) → drop 1 P ≡ tail P
drop-one [] = refl
drop-one (r ∷ rs) = refl

module _ (S : Summary) (P : Pattern) (es : List ℕ) (tree : IsTree (as_document S)) (ordered : IsPatternTree P) (placed : SummaryEmbedding S P (image_in es)) where
  lay-node : (l : Layout) (m : ℕ) → Built S P es m l.spots l.own → 0 < m → m < length P
      → Built S P es (suc m) (laid S es l m (pattern_parent P m)).spots (laid S es l m (pattern_parent P m)).own
  lay-node l m b p h =
      let a : ℕ = image_in es (pattern_parent P m) in
      let r = below-way (edge-below (descends P m) (as_document S) a (image_in es m) (placed.edges m p h)) in
      let w : Way (as_document S) (image_in es m) a (r.0 ∷ r.1) = step r.2 r.3 in
      let c : chain S a (image_in es m) ≡ r.0 ∷ r.1 = chain-way S tree w in
      let v : ℕ = image_in l.own (pattern_parent P m) in
      let T : List ℕ → List Spot = λ xs. append_chain m l.spots v xs in
      subst (λ (xs : List ℕ). Built S P es (suc m) (T xs) (l.own ++ (length (T xs) - 1) ∷ [])) (sym c)
      (turn-built
      (record {
        tree = tree;
        ordered = ordered;
        built = b;
        positive = p;
        inside = h;
        hung = refl;
        way = w;
        nonempty = omega arith;
        appended = append-chain m l.spots v (r.0 ∷ r.1);
      }))

  lay-nodes : (rs : List PatternRecord) (l : Layout) (m : ℕ) → drop m P ≡ rs → Built S P es m l.spots l.own → 0 < m → m ≤ length P
      → Built S P es (length P) (lay_nodes es S l rs).spots (lay_nodes es S l rs).own
  unfolding lay_nodes
  lay-nodes [] l m d b p h =
      let k : length P - m ≡ 0 = sym (length-drop m P) ∙ ap (λ (z : List PatternRecord). length z) d in
      subst (λ (n : ℕ). Built S P es n l.spots l.own) (omega arith) b
  lay-nodes (r ∷ rs) l m d b p h =
      let e = drop-begins P m r rs no_pattern_record d in
      let f : lay_node es S l r ≡ laid S es l m (pattern_parent P m) = step-eq b.own_length (ap (λ (z : PatternRecord). z.parent) (sym e.1)) in
      lay-nodes rs (lay_node es S l r) (suc m) e.2
      (subst (λ (z : Layout). Built S P es (suc m) z.spots z.own) (sym f) (lay-node l m b p e.0)) (omega arith) e.0
    where
      step-eq : length l.own ≡ m → r.parent ≡ pattern_parent P m → lay_node es S l r ≡ laid S es l m (pattern_parent P m)
      step-eq x y = lay_node-laid S es l r ∙ ap₂ (laid S es l) x y

  -- after the first phase every pattern node is laid out
  pub chains-built : Built S P es (length P) (chains S P es).spots (chains S P es).own
  unfolding chains
  chains-built = lay-nodes (tail P) root_layout 1 (drop-one P) (root-built S P es placed.root) (omega arith) ordered.inhabited
