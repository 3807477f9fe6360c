-- A pattern node stands at v in some whole embedding, each node where its pin lets it, exactly when `stands_at` says so. From the
-- root down: above a node that may stand at v there is an embedding whose part from that node down can be moved to v. The other way
-- round each node of an embedding is left its place, from the root down. Assumes nothing.
use Prim.Native.Nat.{ℕ, zero, suc, ◌+◌, ◌≤◌, ◌<◌}
use mathlib.Core.Path.{◌≡◌, refl, sym, ap, ◌∙◌, subst, fun_ext}
use mathlib.Core.Bool.{Bool, true, false, ◌&&◌}
use mathlib.Core.Logic.{◌⊎◌, inl, inr, ⊎_elim, ◌↔◌}
use native.Mathlib.Omega.{arith}
use lib.Dec.{eqb, ltb}
use lib.ListN.{length}
use borrow.Author.Tests.{eqb-true, eqb-false, eq-eqb, ne_eqb, lt-ltb, ltb-true}
use Rattle.model.specs.Tree.{Document, IsTree, parent_of, Child, Below, once, down, Edge}
use Rattle.model.specs.Pattern.{Pattern, IsPatternTree, pattern_parent, descends, Embeds}
use Rattle.model.proofs.ListLaws.{and_intro, and_left, and_right, or_cases, or_left, or_right}
use Rattle.model.proofs.TreeLaws.{below-trans}
use Rattle.model.proofs.NodeByNode.{UnderOf, under-lt, Can, can, embeds-can, can-embeds}
use Rattle.matching.specs.Matching.{hangs_deep, part_at, leaves, left_in, left_to, stands_at}
use Rattle.matching.proofs.PartLaws.{deep-says, says-deep, child-edge, deep-edge}
use Rattle.matching.proofs.Parts.{Pin, part-exact}

-- ---- what is left to a node, without the bound

module _ (Q : Pattern) (W : Document) (pin : ℕ → ℕ → Bool) where
  left_in-root : (n q : ℕ) → left_in Q W pin n 0 q ≡ eqb q 0
  unfolding left_in
  left_in-root zero q = refl
  left_in-root (suc n) q = refl

  left_in-step : (n v q : ℕ) → 0 < v → left_in Q W pin (suc n) v q ≡ leaves Q W pin (parent_of W v) (left_in Q W pin n (parent_of W v)) q
  unfolding left_in
  left_in-step n v q z = rw (ne_eqb v 0 (λ p. omega arith), left_in)

  left_in-zero : (n m v : ℕ) → v ≡ 0 → left_in Q W pin n v ≡ left_in Q W pin m v
  left_in-zero n m v e =
      subst (λ (x : ℕ). left_in Q W pin n x ≡ left_in Q W pin m x) (sym e) (fun_ext (λ q. left_in-root n q ∙ sym (left_in-root m q)))

  -- a bound that reaches the root is as good as any
  left-enough : (n m v : ℕ) → IsTree W → v < length W → v ≤ n → v ≤ m → left_in Q W pin n v ≡ left_in Q W pin m v
  left-enough zero m v t h a b = left_in-zero zero m v (omega arith)
  left-enough (suc n) zero v t h a b = left_in-zero (suc n) zero v (omega arith)
  left-enough (suc n) (suc m) v t h a b = go (eqb v 0) refl (λ k i j l. left-enough n m (parent_of W v) t i j l)
    where
      u : ℕ
      u = parent_of W v

      go : (s : Bool) → eqb v 0 ≡ s → (0 < v → u < length W → u ≤ n → u ≤ m → left_in Q W pin n u ≡ left_in Q W pin m u)
          → left_in Q W pin (suc n) v ≡ left_in Q W pin (suc m) v
      go true e up = left_in-zero (suc n) (suc m) v (eqb-true v 0 e)
      go false e up =
          let ne : (v ≡ 0) → ⊥ = eqb-false v 0 e in
          let z : 0 < v = omega arith in
          let k : u < v = t.earlier v z h in
          fun_ext (λ q. left_in-step n v q z ∙ ap (λ (may : ℕ → Bool). leaves Q W pin u may q) (up z (omega arith) (omega arith) (omega arith)) ∙ sym (left_in-step m v q z))

  pub left-root : (q : ℕ) → left_to Q W pin 0 q ≡ eqb q 0
  unfolding left_to
  left-root q = left_in-root 0 q

  -- what is left to a node is what its parent leaves to its children
  pub left_step : (v q : ℕ) → IsTree W → 0 < v → v < length W → left_to Q W pin v q ≡ leaves Q W pin (parent_of W v) (left_to Q W pin (parent_of W v)) q
  unfolding left_to
  left_step zero q t z h = absurd (omega arith)
  left_step (suc v) q t z h =
      let u : ℕ = parent_of W (suc v) in
      let k : u < suc v = t.earlier (suc v) (omega arith) h in
      left_in-step v (suc v) q z ∙ ap (λ (may : ℕ → Bool). leaves Q W pin u may q) (left-enough v u u t (omega arith) (omega arith) (omega arith))

  pub leaves-cases : (u : ℕ) (may : ℕ → Bool) (q : ℕ) → leaves Q W pin u may q ≡ true
      → ((0 < q) × (may (pattern_parent Q q) ≡ true) × (part_at Q W pin u (pattern_parent Q q) ≡ true)) ⊎ ((hangs_deep Q q ≡ true) × (may q ≡ true))
  unfolding leaves
  leaves-cases u may q e = ⊎_elim (λ k. inl (ltb-true 0 q (and_left pos up (and_left (pos && up) at k)), and_right pos up (and_left (pos && up) at k), and_right (pos && up) at k))
      (λ k. inr (and_left (hangs_deep Q q) (may q) k, and_right (hangs_deep Q q) (may q) k)) (or_cases (pos && up && at) (hangs_deep Q q && may q) e)
    where
      pos : Bool
      pos = ltb 0 q

      up : Bool
      up = may (pattern_parent Q q)

      at : Bool
      at = part_at Q W pin u (pattern_parent Q q)

  pub leaves-child : (u : ℕ) (may : ℕ → Bool) (q : ℕ) → 0 < q → may (pattern_parent Q q) ≡ true → part_at Q W pin u (pattern_parent Q q) ≡ true → leaves Q W pin u may q ≡ true
  unfolding leaves
  leaves-child u may q z m e = or_left (hangs_deep Q q && may q) (and_intro (and_intro (lt-ltb 0 q z) m) e)

  pub leaves-on : (u : ℕ) (may : ℕ → Bool) (q : ℕ) → hangs_deep Q q ≡ true → may q ≡ true → leaves Q W pin u may q ≡ true
  unfolding leaves
  leaves-on u may q d m = or_right (ltb 0 q && may (pattern_parent Q q) && part_at Q W pin u (pattern_parent Q q)) (and_intro d m)

-- ---- a part moved

-- an embedding whose pins hold and that takes q to v
pub record Standing (Q : Pattern) (W : Document) (pin : ℕ → ℕ → Bool) (q v : ℕ) : Type 0 where
  pub image : ℕ → ℕ
  pub embeds : Embeds Q W image
  pub pinned : (p : ℕ) → p < length Q → pin p (image p) ≡ true
  pub takes : image q ≡ v

-- the pin, and that q goes to v
abbrev At : (ℕ → ℕ → Bool) → ℕ → ℕ → ℕ → ℕ → Type 0
At pin q v p x = (pin p x ≡ true) × (p ≡ q → x ≡ v)

module _ (Q : Pattern) (W : Document) (pin : ℕ → ℕ → Bool) (T : IsPatternTree Q) where
  -- q is not in the parts of later nodes
  later-at : (q v : ℕ) {p x : ℕ} → q < p → Can Q W (Pin pin) p x → Can Q W (At pin q v) p x
  later-at q v {p} {x} h (can i l k f es cs) =
      can i l (k, λ e. absurd (omega arith)) f es (λ c u. (let m : p < c = under-lt T u in later-at q v (omega arith) (cs c u)))

  here-at : (q v : ℕ) → Can Q W (Pin pin) q v → Can Q W (At pin q v) q v
  here-at q v (can i l k f es cs) = can i l (k, λ e. refl) f es (λ c u. later-at q v (under-lt T u) (cs c u))

  module _ (s : ℕ → ℕ) (q v : ℕ) (E : Embeds Q W s) (pins : (p : ℕ) → p < length Q → pin p (s p) ≡ true)
      (m : Edge (descends Q q) W (s (pattern_parent Q q)) v) (k : Can Q W (Pin pin) q v) where
    moved : ℕ → ℕ
    moved p = elim (eqb p q) [ true ↦ v | false ↦ s p ]

    moved_at : (p : ℕ) → p ≡ q → moved p ≡ v
    unfolding moved
    moved_at p e = rw (eq-eqb p q e, moved)

    moved_other : (p : ℕ) → (p ≡ q → ⊥) → moved p ≡ s p
    unfolding moved
    moved_other p e = rw (ne_eqb p q e, moved)

    -- from a node other than q to where its child goes now
    moved-edge : (p c : ℕ) → UnderOf Q p c → Edge (descends Q c) W (s p) (moved c)
    moved-edge p c u = go (eqb c q) refl
      where
        up : Edge (descends Q c) W (s p) (s c)
        up = subst (λ (x : ℕ). Edge (descends Q c) W (s x) (s c)) u.is_parent (E.edges c u.not_root u.inside)

        there : c ≡ q → Edge (descends Q c) W (s p) v
        there e = subst (λ (x : ℕ). Edge (descends Q c) W (s x) v) u.is_parent (subst (λ (x : ℕ). Edge (descends Q x) W (s (pattern_parent Q x)) v) (sym e) m)

        go : (b : Bool) → eqb c q ≡ b → Edge (descends Q c) W (s p) (moved c)
        go true e = subst (λ (x : ℕ). Edge (descends Q c) W (s p) x) (sym (moved_at c (eqb-true c q e))) (there (eqb-true c q e))
        go false e = subst (λ (x : ℕ). Edge (descends Q c) W (s p) x) (sym (moved_other c (eqb-false c q e))) up

    moved-part : (n p : ℕ) → length Q ≤ n + p → p < length Q → Can Q W (At pin q v) p (moved p)
    moved-part zero p b h = absurd (omega arith)
    moved-part (suc n) p b h = go (eqb p q) refl (λ c u. (let l : p < c = under-lt T u in moved-part n c (omega arith) u.inside))
      where
        go : (b : Bool) → eqb p q ≡ b → ((c : ℕ) → UnderOf Q p c → Can Q W (At pin q v) c (moved c)) → Can Q W (At pin q v) p (moved p)
        go true e rest =
            let w : p ≡ q = eqb-true p q e in
            subst (λ (x : ℕ). Can Q W (At pin q v) p x) (sym (moved_at p w)) (subst (λ (x : ℕ). Can Q W (At pin q v) x v) (sym w) (here-at q v k))
        go false e rest =
            let w : (p ≡ q) → ⊥ = eqb-false p q e in
            subst (λ (x : ℕ). Can Q W (At pin q v) p x) (sym (moved_other p w))
            (can (E.inside p h) (E.labels p h) (pins p h, λ z. absurd (w z)) (λ c u. moved c) (λ c u. moved-edge p c u) rest)

    -- the part from q down, where it embeds at v and v can be reached from where q's parent is, goes there
    move : 0 < q → q < length Q → Standing Q W pin q v
    move z h =
        let root : Can Q W (At pin q v) 0 0 = subst (λ (x : ℕ). Can Q W (At pin q v) 0 x) (moved_other 0 (λ e. omega arith) ∙ E.root) (moved-part (length Q) 0 (omega arith) T.inhabited) in
        let r = can-embeds T root in
        record { image = r.0; embeds = r.1; pinned = λ p l. (r.2 p l).0; takes = (r.2 q h).1 refl }

-- ---- what stands

module _ (Q : Pattern) (W : Document) (pin : ℕ → ℕ → Bool) (T : IsPatternTree Q) (t : IsTree W) where
  -- at v itself, or by a descendant edge below it
  abbrev From : ℕ → ℕ → ℕ → Type 0
  From q v w = (w ≡ v) ⊎ ((hangs_deep Q q ≡ true) × Below W v w)

  -- from a parent of v, the edge reaches what is v or below it
  from-edge : (q u v w : ℕ) → Child W u v → From q v w → Edge (descends Q q) W u w
  from-edge q u v w c (inl e) = subst (λ (x : ℕ). Edge (descends Q q) W u x) (sym e) (child-edge (descends Q q) c)
  from-edge q u v w c (inr m) = deep-edge (deep-says Q q m.0).1 (below-trans (once c) m.1)

  from_up : (q u v w : ℕ) → hangs_deep Q q ≡ true → Child W u v → From q v w → From q u w
  from_up q u v w d c (inl e) = inr (d, once (subst (λ (x : ℕ). Child W u x) (sym e) c))
  from_up q u v w d c (inr m) = inr (d, below-trans (once c) m.1)

  root_stands : Can Q W (Pin pin) 0 0 → Standing Q W pin 0 0
  root_stands k = let r = can-embeds T k in record { image = r.0; embeds = r.1; pinned = r.2; takes = r.1.root }

  -- what may stand at v by the nodes above, and embeds at v or further down by its edge, does so in a whole embedding
  left-stands : (n v q w : ℕ) → v < n → v < length W → q < length Q → left_to Q W pin v q ≡ true → From q v w → Can Q W (Pin pin) q w → Standing Q W pin q w
  left-stands zero v q w b h l e f k = absurd (omega arith)
  left-stands (suc n) v q w b h l e f k = go (eqb v 0) refl (λ p x i j. left-stands n (parent_of W v) p x i j)
    where
      u : ℕ
      u = parent_of W v

      root : v ≡ 0 → q ≡ 0
      root z = eqb-true q 0 (sym (left-root Q W pin q) ∙ subst (λ (x : ℕ). left_to Q W pin x q ≡ true) z e)

      at-root : v ≡ 0 → q ≡ 0 → From q v w → Standing Q W pin q w
      at-root z y (inl x) =
          let o : w ≡ 0 = x ∙ z in
          let r : Can Q W (Pin pin) 0 0 = subst (λ (a : ℕ). Can Q W (Pin pin) 0 a) o (subst (λ (a : ℕ). Can Q W (Pin pin) a w) y k) in
          subst (λ (a : ℕ). Standing Q W pin a w) (sym y) (subst (λ (a : ℕ). Standing Q W pin 0 a) (sym o) (root_stands r))
      at-root z y (inr x) = let p : 0 < q = (deep-says Q q x.0).0 in absurd (omega arith)

      above : Child W u v
          → ((p x : ℕ) → u < n → u < length W → p < length Q → left_to Q W pin u p ≡ true → From p u x → Can Q W (Pin pin) p x → Standing Q W pin p x)
          → u < n → u < length W
          → ((0 < q) × (left_to Q W pin u (pattern_parent Q q) ≡ true) × (part_at Q W pin u (pattern_parent Q q) ≡ true)) ⊎ ((hangs_deep Q q ≡ true) × (left_to Q W pin u q ≡ true))
          → Standing Q W pin q w
      above c up i j (inl x) =
          let p : ℕ = pattern_parent Q q in
          let y : p < q = T.earlier q x.0 l in
          let s = up p u i j (omega arith) x.1 (inl refl) ((part-exact Q W pin t p u j).0 x.2) in
          move Q W pin T s.image q w s.embeds s.pinned (subst (λ (a : ℕ). Edge (descends Q q) W a w) (sym s.takes) (from-edge q u v w c f)) k x.0 l
      above c up i j (inr x) = up q w i j l x.1 (from_up q u v w x.0 c f) k

      go : (s : Bool) → eqb v 0 ≡ s
          → ((p x : ℕ) → u < n → u < length W → p < length Q → left_to Q W pin u p ≡ true → From p u x → Can Q W (Pin pin) p x → Standing Q W pin p x)
          → Standing Q W pin q w
      go true z up = at-root (eqb-true v 0 z) (root (eqb-true v 0 z)) f
      go false z up =
          let ne : (v ≡ 0) → ⊥ = eqb-false v 0 z in
          let y : 0 < v = omega arith in
          let c : u < v = t.earlier v y h in
          above (record { not_root = y; inside = h; is_parent = refl }) up (omega arith) (omega arith) (leaves-cases Q W pin u (left_to Q W pin u) q (sym (left_step Q W pin v q t y h) ∙ e))

  -- ---- an embedding's nodes are left their places

  left-child : (u v q : ℕ) → Child W u v → leaves Q W pin u (left_to Q W pin u) q ≡ true → left_to Q W pin v q ≡ true
  left-child u v q c e =
      left_step Q W pin v q t c.not_root c.inside ∙ subst (λ (x : ℕ). leaves Q W pin x (left_to Q W pin x) q ≡ true) (sym c.is_parent) e

  -- below a node where its parent stands, by its edge
  left_below : {u v : ℕ} (q : ℕ) → hangs_deep Q q ≡ true → left_to Q W pin u (pattern_parent Q q) ≡ true → part_at Q W pin u (pattern_parent Q q) ≡ true → Below W u v → left_to Q W pin v q ≡ true
  left_below {u} {v} q d m e (once c) = left-child u v q c (leaves-child Q W pin u (left_to Q W pin u) q (deep-says Q q d).0 m e)
  left_below q d m e (down {b = b} {c = v} k c) = left-child b v q c (leaves-on Q W pin b (left_to Q W pin b) q d (left_below q d m e k))

  left-edge : (u v q : ℕ) → 0 < q → left_to Q W pin u (pattern_parent Q q) ≡ true → part_at Q W pin u (pattern_parent Q q) ≡ true → Edge (descends Q q) W u v → left_to Q W pin v q ≡ true
  left-edge u v q z m e k = go (descends Q q) refl k
    where
      go : (d : Bool) → descends Q q ≡ d → Edge d W u v → left_to Q W pin v q ≡ true
      go true x y = left_below q (says-deep Q q z x) m e y
      go false x y = left-child u v q y (leaves-child Q W pin u (left_to Q W pin u) q z m e)

  module _ (s : ℕ → ℕ) (E : Embeds Q W s) (pins : (p : ℕ) → p < length Q → pin p (s p) ≡ true) where
    embeds-part : (p : ℕ) → p < length Q → part_at Q W pin (s p) p ≡ true
    embeds-part p h = (part-exact Q W pin t p (s p) (E.inside p h)).1 (embeds-can (Pin pin) T E pins p h)

    embeds-left : (n q : ℕ) → q < n → q < length Q → left_to Q W pin (s q) q ≡ true
    embeds-left zero q b h = absurd (omega arith)
    embeds-left (suc n) q b h = go (eqb q 0) refl (λ i j. embeds-left n (pattern_parent Q q) i j)
      where
        p : ℕ
        p = pattern_parent Q q

        go : (b : Bool) → eqb q 0 ≡ b → (p < n → p < length Q → left_to Q W pin (s p) p ≡ true) → left_to Q W pin (s q) q ≡ true
        go true z up =
            let y : q ≡ 0 = eqb-true q 0 z in
            ap (λ (x : ℕ). left_to Q W pin (s x) x) y ∙ ap (λ (x : ℕ). left_to Q W pin x 0) E.root ∙ left-root Q W pin 0 ∙ eq-eqb 0 0 refl
        go false z up =
            let ne : (q ≡ 0) → ⊥ = eqb-false q 0 z in
            let y : 0 < q = omega arith in
            let l : p < q = T.earlier q y h in
            left-edge (s p) (s q) q y (up (omega arith) (omega arith)) (embeds-part p (omega arith)) (E.edges q y h)

  -- ---- the bit of q at v says that some whole embedding takes q to v

  pub stands-exact : (q v : ℕ) → q < length Q → v < length W → (stands_at Q W pin v q ≡ true) ↔ Standing Q W pin q v
  unfolding stands_at
  stands-exact q v l h = (there, back)
    where
      there : (left_to Q W pin v q && part_at Q W pin v q) ≡ true → Standing Q W pin q v
      there e =
          left-stands (suc v) v q v (omega arith) h l (and_left (left_to Q W pin v q) (part_at Q W pin v q) e) (inl refl)
          ((part-exact Q W pin t q v h).0 (and_right (left_to Q W pin v q) (part_at Q W pin v q) e))

      back : Standing Q W pin q v → (left_to Q W pin v q && part_at Q W pin v q) ≡ true
      back m =
          subst (λ (x : ℕ). (left_to Q W pin x q && part_at Q W pin x q) ≡ true) m.takes
          (and_intro (embeds-left m.image m.embeds m.pinned (suc q) q (omega arith) l) (embeds-part m.image m.embeds m.pinned q l))
