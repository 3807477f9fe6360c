-- The invariant of a canonical document while it is laid out, and what appending nodes keeps of it. Assumes nothing.
use Prim.Native.Nat.{ℕ, ◌≤◌, ◌<◌}
use mathlib.Core.Path.{◌≡◌, refl, sym, ap, ◌∙◌, subst}
use mathlib.Core.Bool.{Bool, true, false}
use mathlib.Core.Logic.{◌⊎◌, inl, inr}
use mathlib.Core.List.{List, [], ◌∷◌, ◌++◌}
use native.Mathlib.Omega.{arith}
use lib.Dec.{ltb}
use lib.ListN.{length, get_or, get_or-append}
use borrow.Author.Tests.{ltb-true, ltb-false}
use Rattle.model.specs.Tree.{Child}
use Rattle.model.specs.Summary.{Summary, as_document, StrongEdge}
use Rattle.model.specs.Pattern.{Pattern, pattern_parent}
use Rattle.model.specs.Embeddings.{image_in}
use Rattle.model.specs.Canonical.{Spot, root_spot, spot_parent, spot_at, chain}
use Rattle.model.proofs.ListLaws.{length-snoc}
use Rattle.model.proofs.Laid.{spot_owner, spot_filled, SpotChild, ChainChild}

-- what holds of node i, by its spot s alone, once m pattern nodes are laid out
pub record SpotFacts (S : Summary) (es own : List ℕ) (m i : ℕ) (s : Spot) : Type 0 where
  pub owner : s.owner < m
  pub chain_end : s.filled ≡ false → chain S s.at (image_in es s.owner) ≡ [] → s.at ≡ image_in es s.owner
  pub own_only : s.filled ≡ false → s.at ≡ image_in es s.owner → i ≡ image_in own s.owner

-- node with spot s stands in a chain under its parent with spot u
pub record ChainedTo (S : Summary) (es : List ℕ) (s u : Spot) : Type 0 where
  pub owner : u.owner ≡ s.owner
  pub unfilled : u.filled ≡ false
  pub chained : chain S u.at (image_in es s.owner) ≡ s.at ∷ chain S s.at (image_in es s.owner)

-- or is the first of a chain
pub record FirstOf (S : Summary) (P : Pattern) (es own : List ℕ) (s : Spot) : Type 0 where
  pub owner : 0 < s.owner
  pub hangs : s.parent ≡ image_in own (pattern_parent P s.owner)
  pub chained : chain S (image_in es (pattern_parent P s.owner)) (image_in es s.owner) ≡ s.at ∷ chain S s.at (image_in es s.owner)

-- what holds of a node with spot s and its parent's spot u
pub record NodeFacts (S : Summary) (P : Pattern) (es own : List ℕ) (s u : Spot) : Type 0 where
  pub edge : Child (as_document S) u.at s.at
  pub filled_up : s.filled ≡ true → StrongEdge S u.at s.at
  pub chain_up : s.filled ≡ false → ChainedTo S es s u ⊎ FirstOf S P es own s

-- node i has the least path of its owner's nodes
pub record Least (spots : List Spot) (i : ℕ) : Type 0 where
  pub least : (j : ℕ) → j < length spots → spot_owner spots j ≡ spot_owner spots i → spot_at spots i ≤ spot_at spots j

-- the invariant once m pattern nodes are laid out
pub record Built (S : Summary) (P : Pattern) (es : List ℕ) (m : ℕ) (spots : List Spot) (own : List ℕ) : Type 0 where
  pub some : 0 < length spots
  pub root : get_or spots 0 root_spot ≡ root_spot
  pub spot : (i : ℕ) (s : Spot) → i < length spots → get_or spots i root_spot ≡ s → SpotFacts S es own m i s
  pub earlier : (i : ℕ) → 0 < i → i < length spots → spot_parent spots i < i
  pub node : (i : ℕ) (s u : Spot) → 0 < i → i < length spots → get_or spots i root_spot ≡ s → get_or spots s.parent root_spot ≡ u → NodeFacts S P es own s u
  pub next : (i : ℕ) (s : Spot) (x : ℕ) (xs : List ℕ) → i < length spots → get_or spots i root_spot ≡ s → s.filled ≡ false → chain S s.at (image_in es s.owner) ≡ x ∷ xs → ChainChild spots i s.owner x
  pub first : (q x : ℕ) (xs : List ℕ) → 0 < q → q < m → chain S (image_in es (pattern_parent P q)) (image_in es q) ≡ x ∷ xs → ChainChild spots (image_in own (pattern_parent P q)) q x
  pub own_length : length own ≡ m
  pub own_root : image_in own 0 ≡ 0
  pub own_inside : (q : ℕ) → q < m → image_in own q < length spots
  pub own_at : (q : ℕ) → q < m → spot_at spots (image_in own q) ≡ image_in es q
  pub own_owner : (q : ℕ) → q < m → spot_owner spots (image_in own q) ≡ q
  pub own_unfilled : (q : ℕ) → q < m → spot_filled spots (image_in own q) ≡ false
  -- in an owner's part no two nodes are on one path; a node's parent is its owner's too, or the node has the least path there
  pub distinct : (i j : ℕ) → i < length spots → j < length spots → spot_owner spots i ≡ spot_owner spots j → spot_at spots i ≡ spot_at spots j → i ≡ j
  pub least : (i : ℕ) → 0 < i → i < length spots → (spot_owner spots (spot_parent spots i) ≡ spot_owner spots i) ⊎ Least spots i

-- ---- the table goes on

-- later begins with the nodes of spots
pub record Extends (spots later : List Spot) : Type 0 where
  pub longer : length spots ≤ length later
  pub same : (i : ℕ) → i < length spots → get_or later i root_spot ≡ get_or spots i root_spot

pub extends-refl : (spots : List Spot) → Extends spots spots
extends-refl spots = record { longer = omega arith; same = λ i h. refl }

pub extends-trans : {a b c : List Spot} → Extends a b → Extends b c → Extends a c
extends-trans f g =
    record {
      longer = let l = f.longer in let k = g.longer in omega arith;
      same = λ i h. g.same i (let l = f.longer in omega arith) ∙ f.same i h;
    }

pub extends-snoc : (spots : List Spot) (s : Spot) → Extends spots (spots ++ s ∷ [])
extends-snoc spots s =
    record {
      longer = omega (arith, length-snoc spots s);
      same = λ i h. get_or-append spots (s ∷ []) root_spot i h;
    }

-- ---- what a longer table keeps

module _ {spots later : List Spot} (f : Extends spots later) where
  pub parent-kept : (i : ℕ) → i < length spots → spot_parent later i ≡ spot_parent spots i
  parent-kept i h = ap (λ (s : Spot). s.parent) (f.same i h)

  pub at-kept : (i : ℕ) → i < length spots → spot_at later i ≡ spot_at spots i
  at-kept i h = ap (λ (s : Spot). s.at) (f.same i h)

  pub owner-kept : (i : ℕ) → i < length spots → spot_owner later i ≡ spot_owner spots i
  owner-kept i h = ap (λ (s : Spot). s.owner) (f.same i h)

  pub filled-kept : (i : ℕ) → i < length spots → spot_filled later i ≡ spot_filled spots i
  filled-kept i h = ap (λ (s : Spot). s.filled) (f.same i h)

  pub child-kept : {i j : ℕ} → SpotChild spots i j → SpotChild later i j
  child-kept {j = j} c =
      record {
        not_root = c.not_root;
        inside = let l = f.longer in let h = c.inside in omega arith;
        is_parent = parent-kept j c.inside ∙ c.is_parent;
      }

  pub chain-child-kept : {i q x : ℕ} → ChainChild spots i q x → ChainChild later i q x
  chain-child-kept c =
      record {
        node = c.node;
        child = child-kept c.child;
        owner = owner-kept c.node c.child.inside ∙ c.owner;
        unfilled = filled-kept c.node c.child.inside ∙ c.unfilled;
        on = at-kept c.node c.child.inside ∙ c.on;
      }

  -- what the invariant says of the nodes that were there
  module _ {S : Summary} {P : Pattern} {es : List ℕ} {m : ℕ} {own : List ℕ} (b : Built S P es m spots own) where
    pub spot-kept : (i : ℕ) (s : Spot) → i < length spots → get_or later i root_spot ≡ s → SpotFacts S es own m i s
    spot-kept i s h e = b.spot i s h (sym (f.same i h) ∙ e)

    pub earlier-kept : (i : ℕ) → 0 < i → i < length spots → spot_parent later i < i
    earlier-kept i p h = rw (parent-kept i h) (b.earlier i p h)

    pub node_kept : (i : ℕ) (s u : Spot) → 0 < i → i < length spots → get_or later i root_spot ≡ s → get_or later s.parent root_spot ≡ u → NodeFacts S P es own s u
    node_kept i s u p h e g =
        let e' : get_or spots i root_spot ≡ s = sym (f.same i h) ∙ e in
        let k : spot_parent spots i < i = b.earlier i p h in
        let l : s.parent < length spots = subst (λ (z : Spot). z.parent < length spots) e' (omega arith) in
        b.node i s u p h e' (sym (f.same s.parent l) ∙ g)

    pub next-kept : (i : ℕ) (s : Spot) (x : ℕ) (xs : List ℕ) → i < length spots → get_or later i root_spot ≡ s → s.filled ≡ false
        → chain S s.at (image_in es s.owner) ≡ x ∷ xs → ChainChild later i s.owner x
    next-kept i s x xs h e u c = chain-child-kept (b.next i s x xs h (sym (f.same i h) ∙ e) u c)

    pub own-at-kept : (q : ℕ) → q < m → spot_at later (image_in own q) ≡ image_in es q
    own-at-kept q h = at-kept (image_in own q) (b.own_inside q h) ∙ b.own_at q h

    pub own-owner-kept : (q : ℕ) → q < m → spot_owner later (image_in own q) ≡ q
    own-owner-kept q h = owner-kept (image_in own q) (b.own_inside q h) ∙ b.own_owner q h

    pub own-unfilled-kept : (q : ℕ) → q < m → spot_filled later (image_in own q) ≡ false
    own-unfilled-kept q h = filled-kept (image_in own q) (b.own_inside q h) ∙ b.own_unfilled q h

    pub distinct-kept : (i j : ℕ) → i < length spots → j < length spots → spot_owner later i ≡ spot_owner later j → spot_at later i ≡ spot_at later j → i ≡ j
    distinct-kept i j h k o a = b.distinct i j h k (sym (owner-kept i h) ∙ (o ∙ owner-kept j k)) (sym (at-kept i h) ∙ (a ∙ at-kept j k))

    -- the least path of an owner's nodes stays the least, where it is so against the new nodes
    pub least_kept : (i : ℕ) → 0 < i → i < length spots
        → (Least spots i → (j : ℕ) → length spots ≤ j → j < length later → spot_owner later j ≡ spot_owner later i → spot_at later i ≤ spot_at later j)
        → (spot_owner later (spot_parent later i) ≡ spot_owner later i) ⊎ Least later i
    least_kept i p h new = go (b.least i p h)
      where
        against : Least spots i → (j : ℕ) → j < length later → spot_owner later j ≡ spot_owner later i → (t : Bool) → ltb j (length spots) ≡ t → spot_at later i ≤ spot_at later j
        against l j k o true e =
            let n : j < length spots = ltb-true j (length spots) e in
            rw (at-kept i h, at-kept j n) (l.least j n (sym (owner-kept j n) ∙ (o ∙ owner-kept i h)))
        against l j k o false e = new l j (ltb-false j (length spots) e) k o

        go : (spot_owner spots (spot_parent spots i) ≡ spot_owner spots i) ⊎ Least spots i → (spot_owner later (spot_parent later i) ≡ spot_owner later i) ⊎ Least later i
        go (inl e) =
            let k : spot_parent spots i < i = b.earlier i p h in
            inl (ap (spot_owner later) (parent-kept i h) ∙ (owner-kept (spot_parent spots i) (omega arith) ∙ (e ∙ sym (owner-kept i h))))
        go (inr l) = inr (record { least = λ j k o. against l j k o (ltb j (length spots)) refl })
