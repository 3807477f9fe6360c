-- The second phase of a canonical document keeps the invariant, goes on to its end, and leaves no strong edge without a child:
-- each node has its own pair of owner and path, so there are few enough of them for the visits allowed. Assumes nothing.
use Prim.Native.Nat.{ℕ, zero, suc, ◌+◌, ◌-◌, ◌*◌, ◌≤◌, ◌<◌}
use mathlib.Core.Path.{◌≡◌, refl, sym, ap, ◌∙◌, subst, subst₂}
use mathlib.Core.Bool.{Bool, true, false, ◌&&◌, true≢false}
use mathlib.Core.Logic.{◌⊎◌, inl, inr}
use mathlib.Core.List.Memᴰ
use mathlib.Core.List.{List, [], ◌∷◌, ◌++◌, Memᴰ}
use native.Mathlib.Omega.{arith}
use lib.Dec.{eqb, ltb}
use lib.ListN.{length, get_or}
use lib.Seq.{get_or-append_seam}
use borrow.Author.Tests.{eqb-true, eqb-false, ltb-true, ltb-false, lt-ltb, eq-eqb}
use Rattle.model.specs.Tree.{IsTree, Child}
use Rattle.model.specs.Summary.{Summary, as_document, summary_parent, StrongEdge}
use Rattle.model.specs.Pattern.{Pattern}
use Rattle.model.specs.Embeddings.{image_in}
use Rattle.model.specs.Fitting.{strong_children}
use Rattle.model.specs.Canonical.{Spot, root_spot, spot_parent, spot_at, chain, has_child_on, add_missing, add_all, fill_node, fill_from}
use Rattle.model.proofs.ListLaws.{length-snoc, and_intro, and_left, and_right, any_below, below-any}
use Rattle.model.proofs.TreeLaws.{child-lt, length-as_document}
use Rattle.model.proofs.Fitting.{strong-children-exact}
use Rattle.model.proofs.Counting.{pigeonhole, pair-below, pair-first}
use Rattle.model.proofs.Laid.{spot_owner, SpotChild, ChainChild}
use Rattle.model.proofs.Built.{SpotFacts, NodeFacts, Least, Built, Extends, extends-refl, extends-trans, extends-snoc, at-kept, owner-kept, child-kept, chain-child-kept, spot-kept, earlier-kept, node_kept, next-kept, own-at-kept, own-owner-kept, own-unfilled-kept, distinct-kept, least_kept}

-- ---- children on a path

-- v has a child on path t
pub record Served (spots : List Spot) (v t : ℕ) : Type 0 where
  pub node : ℕ
  pub child : SpotChild spots v node
  pub on : spot_at spots node ≡ t

test-served : (spots : List Spot) (v t : ℕ) → has_child_on spots v t ≡ true → Served spots v t
unfolding has_child_on
test-served spots v t e =
    let r = any_below (λ i. ltb 0 i && eqb (spot_parent spots i) v && eqb (spot_at spots i) t) (length spots) e in
    let i : ℕ = r.0 in
    let l = and_left (ltb 0 i && eqb (spot_parent spots i) v) (eqb (spot_at spots i) t) r.2 in
    record {
      node = i;
      child = record {
        not_root = ltb-true 0 i (and_left (ltb 0 i) (eqb (spot_parent spots i) v) l);
        inside = r.1;
        is_parent = eqb-true (spot_parent spots i) v (and_right (ltb 0 i) (eqb (spot_parent spots i) v) l);
      };
      on = eqb-true (spot_at spots i) t (and_right (ltb 0 i && eqb (spot_parent spots i) v) (eqb (spot_at spots i) t) r.2);
    }

served-test : {spots : List Spot} {v t : ℕ} → Served spots v t → has_child_on spots v t ≡ true
unfolding has_child_on
served-test {spots} {v} {t} s =
    let i : ℕ = s.node in
    below-any (λ i. ltb 0 i && eqb (spot_parent spots i) v && eqb (spot_at spots i) t) (length spots) i s.child.inside
    (and_intro (and_intro (lt-ltb 0 i s.child.not_root) (eq-eqb (spot_parent spots i) v s.child.is_parent)) (eq-eqb (spot_at spots i) t s.on))

served-kept : {spots later : List Spot} {v t : ℕ} → Extends spots later → Served spots v t → Served later v t
served-kept f s =
    record { node = s.node; child = child-kept f s.child; on = at-kept f s.node s.child.inside ∙ s.on }

-- ---- one node filled up

-- the child of v on path t that is appended
abbrev added_spot : List Spot → ℕ → ℕ → Spot
added_spot spots v t = record { parent = v; at = t; owner = (get_or spots v root_spot).owner; filled = true }

-- what is known when it is
record Addition (S : Summary) (P : Pattern) (es : List ℕ) (m : ℕ) (spots : List Spot) (own : List ℕ) (v t : ℕ) : Type 0 where
  tree : IsTree (as_document S)
  built : Built S P es m spots own
  inside : v < length spots
  strong : StrongEdge S (spot_at spots v) t
  missing : Served spots v t → ⊥

module _ {S : Summary} {P : Pattern} {es : List ℕ} {m : ℕ} {spots : List Spot} {own : List ℕ} {v t : ℕ} (a : Addition S P es m spots own v t) where
  abbrev added : Spot
  added = added_spot spots v t

  abbrev T : List Spot
  T = spots ++ added ∷ []

  ext : Extends spots T
  ext = extends-snoc spots added

  size : length T ≡ suc (length spots)
  size = length-snoc spots added

  last : get_or T (length spots) root_spot ≡ added
  last = get_or-append_seam spots added [] root_spot

  -- an old node or the added one
  by_side : (F : ℕ → Type 0) → ((i : ℕ) → i < length spots → F i) → F (length spots) → (i : ℕ) → i < length T → F i
  by_side F old new i h = go (ltb i (length spots)) refl
    where
      go : (b : Bool) → ltb i (length spots) ≡ b → F i
      go true e = old i (ltb-true i (length spots) e)
      go false e =
          let l : length spots ≤ i = ltb-false i (length spots) e in
          let z = size in
          subst F (omega arith) new

  lower : spot_at spots v < t
  lower = child-lt a.tree a.strong.child

  -- no node of v's owner is on path t yet
  clash : (i : ℕ) → i < length spots → spot_owner spots i ≡ spot_owner spots v → spot_at spots i ≡ t → ⊥
  clash i h o e = go (a.built.least i positive h)
    where
      positive : 0 < i
      positive = not_root_lem i e
        where
          not_root_lem : (k : ℕ) → spot_at spots k ≡ t → 0 < k
          not_root_lem zero q =
              let z : spot_at spots 0 ≡ 0 = ap (λ (s : Spot). s.at) a.built.root in
              let n = a.strong.child.not_root in
              absurd (omega arith)
          not_root_lem (suc k) q = omega arith

      up : spot_at spots (spot_parent spots i) ≡ spot_at spots v
      up =
          let n = a.built.node i (get_or spots i root_spot) (get_or spots (spot_parent spots i) root_spot) positive h refl refl in
          sym n.edge.is_parent ∙ (ap (summary_parent S) e ∙ a.strong.child.is_parent)

      go : (spot_owner spots (spot_parent spots i) ≡ spot_owner spots i) ⊎ Least spots i → ⊥
      go (inl p) =
          let k : spot_parent spots i < i = a.built.earlier i positive h in
          let q : spot_parent spots i ≡ v = a.built.distinct (spot_parent spots i) v (omega arith) a.inside (p ∙ o) up in
          a.missing (record { node = i; child = record { not_root = positive; inside = h; is_parent = q }; on = e })
      go (inr f) =
          let k : spot_at spots i ≤ spot_at spots v = f.least v a.inside (sym o) in
          let l = lower in
          omega arith

  spot-new : SpotFacts S es own m (length spots) added
  spot-new =
      record {
        owner = (a.built.spot v (get_or spots v root_spot) a.inside refl).owner;
        chain_end = λ p. absurd (true≢false p);
        own_only = λ p. absurd (true≢false p);
      }

  spot_of : (i : ℕ) → i < length T → (s : Spot) → get_or T i root_spot ≡ s → SpotFacts S es own m i s
  spot_of =
      by_side (λ i. (s : Spot) → get_or T i root_spot ≡ s → SpotFacts S es own m i s) (λ i l s e. spot-kept ext a.built i s l e)
      (λ s e. subst (λ (k : Spot). SpotFacts S es own m (length spots) k) (sym last ∙ e) spot-new)

  earlier-of : (i : ℕ) → i < length T → 0 < i → spot_parent T i < i
  earlier-of =
      by_side (λ i. 0 < i → spot_parent T i < i) (λ i l p. earlier-kept ext a.built i p l)
      (λ p. subst (λ (s : Spot). s.parent < length spots) (sym last) a.inside)

  node-new : NodeFacts S P es own added (get_or spots v root_spot)
  node-new = record { edge = a.strong.child; filled_up = λ p. a.strong; chain_up = λ p. absurd (true≢false p) }

  node_of : (i : ℕ) → i < length T → 0 < i → (s u : Spot) → get_or T i root_spot ≡ s → get_or T s.parent root_spot ≡ u → NodeFacts S P es own s u
  node_of =
      by_side (λ i. 0 < i → (s u : Spot) → get_or T i root_spot ≡ s → get_or T s.parent root_spot ≡ u → NodeFacts S P es own s u)
      (λ i l p s u e f. node_kept ext a.built i s u p l e f)
      (λ p s u e f. subst₂ (λ (x y : Spot). NodeFacts S P es own x y) (sym last ∙ e)
      (sym (ext.same v a.inside) ∙ (ap (λ (z : Spot). get_or T z.parent root_spot) (sym last ∙ e) ∙ f)) node-new)

  next_of : (i : ℕ) → i < length T → (s : Spot) (y : ℕ) (ys : List ℕ) → get_or T i root_spot ≡ s → s.filled ≡ false
      → chain S s.at (image_in es s.owner) ≡ y ∷ ys → ChainChild T i s.owner y
  next_of =
      by_side (λ i. (s : Spot) (y : ℕ) (ys : List ℕ) → get_or T i root_spot ≡ s → s.filled ≡ false → chain S s.at (image_in es s.owner) ≡ y ∷ ys → ChainChild T i s.owner y)
      (λ i l s y ys e f c. next-kept ext a.built i s y ys l e f c)
      (λ s y ys e f c. absurd (true≢false (ap (λ (k : Spot). k.filled) (sym last ∙ e) ∙ f)))

  new-owner : spot_owner T (length spots) ≡ spot_owner spots v
  new-owner = ap (λ (s : Spot). s.owner) last

  new-at : spot_at T (length spots) ≡ t
  new-at = ap (λ (s : Spot). s.at) last

  distinct_of : (i : ℕ) → i < length T → (j : ℕ) → j < length T → spot_owner T i ≡ spot_owner T j → spot_at T i ≡ spot_at T j → i ≡ j
  distinct_of =
      by_side (λ i. (j : ℕ) → j < length T → spot_owner T i ≡ spot_owner T j → spot_at T i ≡ spot_at T j → i ≡ j)
      (λ i l. by_side (λ j. spot_owner T i ≡ spot_owner T j → spot_at T i ≡ spot_at T j → i ≡ j)
      (λ j k o e. distinct-kept ext a.built i j l k o e)
      (λ o e. absurd (clash i l (sym (owner-kept ext i l) ∙ (o ∙ new-owner)) (sym (at-kept ext i l) ∙ (e ∙ new-at)))))
      (by_side (λ j. spot_owner T (length spots) ≡ spot_owner T j → spot_at T (length spots) ≡ spot_at T j → length spots ≡ j)
      (λ j k o e. absurd (clash j k (sym (owner-kept ext j k) ∙ (sym o ∙ new-owner)) (sym (at-kept ext j k) ∙ (sym e ∙ new-at)))) (λ o e. refl))

  -- the added node's path is greater than its parent's, so no least path of an owner
  added-above : (i : ℕ) → i < length spots → Least spots i → (j : ℕ) → length spots ≤ j → j < length T → spot_owner T j ≡ spot_owner T i → spot_at T i ≤ spot_at T j
  added-above i l f j k h = let z = size in subst (λ (x : ℕ). spot_owner T x ≡ spot_owner T i → spot_at T i ≤ spot_at T x) (omega arith) new
    where
      new : spot_owner T (length spots) ≡ spot_owner T i → spot_at T i ≤ spot_at T (length spots)
      new o =
          let n : spot_at spots i ≤ spot_at spots v = f.least v a.inside (sym new-owner ∙ (o ∙ owner-kept ext i l)) in
          let p : spot_at T i ≡ spot_at spots i = at-kept ext i l in
          let q = new-at in
          let r = lower in
          omega arith

  least-of : (i : ℕ) → i < length T → 0 < i → (spot_owner T (spot_parent T i) ≡ spot_owner T i) ⊎ Least T i
  least-of =
      by_side (λ i. 0 < i → (spot_owner T (spot_parent T i) ≡ spot_owner T i) ⊎ Least T i) (λ i l p. least_kept ext a.built i p l (added-above i l))
      (λ p. inl (ap (λ (s : Spot). spot_owner T s.parent) last ∙ (owner-kept ext v a.inside ∙ sym new-owner)))

  -- the invariant holds with one more node
  added-built : Built S P es m T own
  added-built =
      let z = size in
      record {
        some = omega arith;
        root = ext.same 0 a.built.some ∙ a.built.root;
        spot = λ i s h e. spot_of i h s e;
        earlier = λ i p h. earlier-of i h p;
        node = λ i s u p h e f. node_of i h p s u e f;
        next = λ i s y ys h e f c. next_of i h s y ys e f c;
        first = λ q x xs p h c. chain-child-kept ext (a.built.first q x xs p h c);
        own_length = a.built.own_length;
        own_root = a.built.own_root;
        own_inside = λ q l. (let k = a.built.own_inside q l in omega arith);
        own_at = own-at-kept ext a.built;
        own_owner = own-owner-kept ext a.built;
        own_unfilled = own-unfilled-kept ext a.built;
        distinct = λ i j h k o e. distinct_of i h j k o e;
        least = λ i p h. least-of i h p;
      }

  added-served : Served T v t
  added-served =
      let z = size in
      record {
        node = length spots;
        child = record { not_root = a.built.some; inside = omega arith; is_parent = ap (λ (s : Spot). s.parent) last };
        on = new-at;
      }

-- ---- a visit

-- what a step of filling up leaves: the invariant, and a longer table
pub record Filled (S : Summary) (P : Pattern) (es : List ℕ) (m : ℕ) (spots : List Spot) (own : List ℕ) (T : List Spot) : Type 0 where
  pub built : Built S P es m T own
  pub extends : Extends spots T

-- node i has a child for every strong edge from its path
abbrev pub Complete : Summary → List Spot → ℕ → Type 0
Complete S spots i = (t : ℕ) → StrongEdge S (spot_at spots i) t → Served spots i t

complete-kept : (S : Summary) {spots later : List Spot} {i : ℕ} → Extends spots later → i < length spots → Complete S spots i → Complete S later i
complete-kept S {i = i} f h c t s =
    served-kept f (c t (subst (λ (k : ℕ). StrongEdge S k t) (at-kept f i h) s))

module _ {S : Summary} {P : Pattern} {es : List ℕ} {m : ℕ} {own : List ℕ} (tree : IsTree (as_document S)) where
  filled-then : {a b c : List Spot} → Filled S P es m a own b → Filled S P es m b own c → Filled S P es m a own c
  filled-then f g = record { built = g.built; extends = extends-trans f.extends g.extends }

  filled_none : {spots : List Spot} → Built S P es m spots own → Filled S P es m spots own spots
  filled_none {spots} b = record { built = b; extends = extends-refl spots }

  add-missing : (spots : List Spot) (v t : ℕ) → Built S P es m spots own → v < length spots → StrongEdge S (spot_at spots v) t
      → Filled S P es m spots own (add_missing spots v t) × Served (add_missing spots v t) v t
  unfolding add_missing
  add-missing spots v t b h s = go (has_child_on spots v t) refl
    where
      added-spots : List Spot
      added-spots = spots ++ added_spot spots v t ∷ []

      addition : has_child_on spots v t ≡ false → Addition S P es m spots own v t
      addition e = record { tree = tree; built = b; inside = h; strong = s; missing = λ k. true≢false (sym (served-test k) ∙ e) }

      go : (c : Bool) → has_child_on spots v t ≡ c
          → Filled S P es m spots own (elim c as (λ _. List Spot) [ true ↦ spots | false ↦ added-spots ])
          × Served (elim c as (λ _. List Spot) [ true ↦ spots | false ↦ added-spots ]) v t
      go true e = (filled_none b, test-served spots v t e)
      go false e = (record { built = added-built (addition e); extends = ext (addition e) }, added-served (addition e))

  add-all : (ts : List ℕ) (spots : List Spot) (v s : ℕ) → Built S P es m spots own → v < length spots → spot_at spots v ≡ s
      → ((t : ℕ) → Memᴰ t ts → StrongEdge S s t)
      → Filled S P es m spots own (add_all spots v ts) × ((t : ℕ) → Memᴰ t ts → Served (add_all spots v ts) v t)
  unfolding add_all
  add-all [] spots v s b h e strong = (filled_none b, λ t n. absurd (Memᴰ.not-nil n))
  add-all (t ∷ ts) spots v s b h e strong =
      let next : List Spot = add_missing spots v t in
      let f : Filled S P es m spots own next × Served next v t =
      add-missing spots v t b h (subst (λ (k : ℕ). StrongEdge S k t) (sym e) (strong t (Memᴰ.head refl))) in
      let h' : v < length next = (let l = f.0.extends.longer in omega arith) in
      let g : Filled S P es m next own (add_all next v ts) × ((u : ℕ) → Memᴰ u ts → Served (add_all next v ts) v u) =
      add-all ts next v s f.0.built h' (at-kept f.0.extends v h ∙ e) (λ u n. strong u (Memᴰ.tail n)) in
      (filled-then f.0 g.0, λ u n. pick u (Memᴰ.cases_cons n) (served-kept g.0.extends f.1) (g.1 u))
    where
      pick : (u : ℕ) → (u ≡ t) ⊎ Memᴰ u ts → Served (add_all (add_missing spots v t) v ts) v t
          → (Memᴰ u ts → Served (add_all (add_missing spots v t) v ts) v u) → Served (add_all (add_missing spots v t) v ts) v u
      pick u (inl p) here rest = subst (λ (k : ℕ). Served (add_all (add_missing spots v t) v ts) v k) (sym p) here
      pick u (inr p) here rest = rest p

  visit : (spots : List Spot) (v : ℕ) → Built S P es m spots own → v < length spots
      → Filled S P es m spots own (fill_node S spots v) × Complete S (fill_node S spots v) v
  unfolding fill_node
  visit spots v b h =
      let s : ℕ = spot_at spots v in
      let r = add-all (strong_children S s) spots v s b h refl (λ t n. (strong-children-exact S s t).0 n) in (
        r.0,
        λ t k. r.1 t ((strong-children-exact S s t).1 (subst (λ (z : ℕ). StrongEdge S z t) (at-kept r.0.extends v h) k)),
      )

  -- ---- all visits

  pub fill-built : (n : ℕ) (spots : List Spot) (v : ℕ) → Built S P es m spots own → Filled S P es m spots own (fill_from n S spots v)
  unfolding fill_from
  fill-built zero spots v b = filled_none b
  fill-built (suc n) spots v b = go (ltb v (length spots)) refl (λ c. fill-built n (fill_node S spots v) (suc v) c)
    where
      go : (t : Bool) → ltb v (length spots) ≡ t
          → (Built S P es m (fill_node S spots v) own → Filled S P es m (fill_node S spots v) own (fill_from n S (fill_node S spots v) (suc v)))
          → Filled S P es m spots own (elim t as (λ _. List Spot) [ true ↦ fill_from n S (fill_node S spots v) (suc v) | false ↦ spots ])
      go true e rest = let r = visit spots v b (ltb-true v (length spots) e) in filled-then r.0 (rest r.0.built)
      go false e rest = filled_none b

  -- with enough visits every node is complete
  pub fill-complete : (n : ℕ) (spots : List Spot) (v : ℕ) → Built S P es m spots own → ((i : ℕ) → i < v → i < length spots → Complete S spots i)
      → length (fill_from n S spots v) ≤ v + n → (i : ℕ) → i < length (fill_from n S spots v) → Complete S (fill_from n S spots v) i
  unfolding fill_from
  fill-complete zero spots v b c h = λ i l. c i (omega arith) l
  fill-complete (suc n) spots v b c h =
      go (ltb v (length spots)) refl h (λ b' c' k. fill-complete n (fill_node S spots v) (suc v) b' c' k)
    where
      R : Bool → List Spot
      R t = elim t [ true ↦ fill_from n S (fill_node S spots v) (suc v) | false ↦ spots ]

      Rest : Type 0
      Rest =
          Built S P es m (fill_node S spots v) own → ((i : ℕ) → i < suc v → i < length (fill_node S spots v) → Complete S (fill_node S spots v) i)
          → length (fill_from n S (fill_node S spots v) (suc v)) ≤ suc v + n
          → (i : ℕ) → i < length (fill_from n S (fill_node S spots v) (suc v)) → Complete S (fill_from n S (fill_node S spots v) (suc v)) i

      up_to : (r : Filled S P es m spots own (fill_node S spots v) × Complete S (fill_node S spots v) v) → v < length spots
          → (i : ℕ) → i < suc v → i < length (fill_node S spots v) → Complete S (fill_node S spots v) i
      up_to r k i l j = at (eqb i v) refl
        where
          at : (t : Bool) → eqb i v ≡ t → Complete S (fill_node S spots v) i
          at true e = subst (λ (z : ℕ). Complete S (fill_node S spots v) z) (sym (eqb-true i v e)) r.1
          at false e =
              let ne : i ≡ v → ⊥ = eqb-false i v e in
              complete-kept S r.0.extends (omega arith) (c i (omega arith) (omega arith))

      go : (t : Bool) → ltb v (length spots) ≡ t → length (R t) ≤ v + suc n → Rest → (i : ℕ) → i < length (R t) → Complete S (R t) i
      go true e k rest =
          let l : v < length spots = ltb-true v (length spots) e in
          let r = visit spots v b l in
          rest r.0.built (up_to r l) (omega arith)
      go false e k rest = λ i l. let j : length spots ≤ v = ltb-false v (length spots) e in c i (omega arith) l

  -- ---- how many nodes

  -- the nodes but the root have each its own pair of owner and path, of which there are few
  pub few-nodes : (spots : List Spot) → Built S P es m spots own → length spots ≤ 1 + m * (length S - 1)
  few-nodes spots b =
      let h : length spots - 1 ≤ m * k = pigeonhole (length spots - 1) (m * k) code code_inside code-injective in
      omega arith
    where
      k : ℕ
      k = length S - 1

      code : ℕ → ℕ
      code i = spot_owner spots (suc i) * k + (spot_at spots (suc i) - 1)

      path : (i : ℕ) → suc i < length spots → Child (as_document S) (spot_at spots (spot_parent spots (suc i))) (spot_at spots (suc i))
      path i h =
          (b.node (suc i) (get_or spots (suc i) root_spot) (get_or spots (spot_parent spots (suc i)) root_spot) (omega arith) h refl refl).edge

      path_inside : (i : ℕ) → suc i < length spots → spot_at spots (suc i) - 1 < k
      path_inside i h =
          let c = path i h in
          let p = c.not_root in
          let q = c.inside in
          let z = length-as_document S in
          omega arith

      code_inside : (i : ℕ) → i < length spots - 1 → code i < m * k
      code_inside i h =
          pair-below k (spot_owner spots (suc i)) m (spot_at spots (suc i) - 1) (path_inside i (omega arith))
          (b.spot (suc i) (get_or spots (suc i) root_spot) (omega arith) refl).owner

      code-injective : (i j : ℕ) → i < length spots - 1 → j < length spots - 1 → code i ≡ code j → i ≡ j
      code-injective i j h l e =
          let x : ℕ = spot_at spots (suc i) in
          let y : ℕ = spot_at spots (suc j) in
          let o : spot_owner spots (suc i) ≡ spot_owner spots (suc j) =
          pair-first k (spot_owner spots (suc i)) (spot_owner spots (suc j)) (x - 1) (y - 1) (path_inside i (omega arith)) (path_inside j (omega arith)) e in
          let o' : spot_owner spots (suc i) * k ≡ spot_owner spots (suc j) * k = ap (λ (z : ℕ). z * k) o in
          let p = (path i (omega arith)).not_root in
          let q = (path j (omega arith)).not_root in
          let s : suc i ≡ suc j = b.distinct (suc i) (suc j) (omega arith) (omega arith) o (omega arith) in
          omega arith
