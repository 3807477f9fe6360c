-- Laws of the sets of specs/Matching.antt: what `fits_at` and `offers_at` say, and what `offered` is without its bound on depth. The
-- bound suffices since children have the greater numbers. Assumes nothing.
use Prim.Native.Nat.{ℕ, zero, suc, ◌+◌, ◌≤◌, ◌<◌}
use mathlib.Core.Path.{◌≡◌, refl, sym, ap, ◌∙◌, subst}
use mathlib.Core.Bool.{Bool, true, false, ◌&&◌, ◌||◌, not, false≢true}
use mathlib.Core.Logic.{◌⊎◌, inl, inr, ⊎_elim}
use mathlib.Core.List.{Memᴰ}
use native.Mathlib.Omega.{arith}
use lib.Dec.{ltb}
use lib.ListN.{length}
use borrow.Author.Tests.{lt-ltb, ltb-true}
use Rattle.model.specs.Lists.{up_from}
use Rattle.model.specs.Tree.{Document, IsTree, label_of, Child, Below, once, Edge}
use Rattle.model.specs.Pattern.{Pattern, pattern_label, descends, label_fits}
use Rattle.model.specs.Embeddings.{child_test}
use Rattle.model.specs.Quick.{hangs_from}
use Rattle.model.proofs.ListLaws.{and_intro, and_left, and_right, or_cases, or_left, or_right, all-below, below_all, any-intro, any-elim, keep-intro, keep-elim, mem-up_from}
use Rattle.model.proofs.TreeLaws.{test-child, child-test, child-lt, below-trans}
use Rattle.model.proofs.NodeByNode.{UnderOf}
use Rattle.model.proofs.QuickLaws.{Within, hangs-under, under-hangs}
use Rattle.matching.specs.Matching.{hangs_deep, children_in, tree_children, fits_at, offers_at, offered_in, offered, part_at}

-- ---- patterns

pub deep-says : (Q : Pattern) (q : ℕ) → hangs_deep Q q ≡ true → (0 < q) × (descends Q q ≡ true)
unfolding hangs_deep
deep-says Q q e = (ltb-true 0 q (and_left (ltb 0 q) (descends Q q) e), and_right (ltb 0 q) (descends Q q) e)

pub says-deep : (Q : Pattern) (q : ℕ) → 0 < q → descends Q q ≡ true → hangs_deep Q q ≡ true
unfolding hangs_deep
says-deep Q q z d = and_intro (lt-ltb 0 q z) d

pub children-says : (Q : Pattern) (acc : ℕ → Bool) (p : ℕ) → children_in Q acc p ≡ true → (c : ℕ) → UnderOf Q p c → acc c ≡ true
unfolding children_in
children-says Q acc p e c u =
    ⊎_elim (λ k. absurd (false≢true (sym (ap not (under-hangs u)) ∙ k))) (λ k. k)
    (or_cases (not (hangs_from Q p c)) (acc c) (all-below (λ c. not (hangs_from Q p c) || acc c) (length Q) e c u.inside))

pub says-children : (Q : Pattern) (acc : ℕ → Bool) (p : ℕ) → ((c : ℕ) → UnderOf Q p c → acc c ≡ true) → children_in Q acc p ≡ true
unfolding children_in
says-children Q acc p h = below_all (λ c. not (hangs_from Q p c) || acc c) (length Q) (λ c l. child c l (hangs_from Q p c) refl)
  where
    child : (c : ℕ) → c < length Q → (b : Bool) → hangs_from Q p c ≡ b → (not (hangs_from Q p c) || acc c) ≡ true
    child c l true e = or_right (not (hangs_from Q p c)) (h c (hangs-under Q p c l e))
    child c l false e = or_left (acc c) (ap not e)

-- ---- trees

pub children-child : (W : Document) (v w : ℕ) → Memᴰ w (tree_children W v) → Child W v w
unfolding tree_children
children-child W v w m = test-child W v w (keep-elim (child_test W v) w (up_from 0 (length W)) m).1

pub child-children : {W : Document} {v w : ℕ} → Child W v w → Memᴰ w (tree_children W v)
unfolding tree_children
child-children {W} {v} {w} c =
    let i : w < length W = c.inside in
    keep-intro (child_test W v) w (up_from 0 (length W)) (mem-up_from 0 (length W) w (omega arith) (omega arith)) (child-test c)

-- a child is reached by either kind of edge, and a descendant by a descendant edge
pub child-edge : {W : Document} {a b : ℕ} (d : Bool) → Child W a b → Edge d W a b
child-edge true c = once c
child-edge false c = c

pub deep-edge : {W : Document} {a b : ℕ} {d : Bool} → d ≡ true → Below W a b → Edge d W a b
deep-edge {W} {a} {b} {d} e m = subst (λ (x : Bool). Edge x W a b) (sym e) m

-- below a child of a, by a descendant edge, is below a
pub edge-further : {W : Document} {a b : ℕ} {d : Bool} (c : ℕ) → d ≡ true → Child W a b → Edge d W b c → Edge d W a c
edge-further {W} {a} {b} {d} c e k m = deep-edge e (below-trans (once k) (subst (λ (x : Bool). Edge x W b c) e m))

-- ---- what may stand at a node, and what the node offers

module _ (Q : Pattern) (W : Document) (pin : ℕ → ℕ → Bool) where
  pub record FitsAt (v : ℕ) (acc : ℕ → Bool) (p : ℕ) : Type 0 where
    pub label : label_fits (pattern_label Q p) (label_of W v) ≡ true
    pub pinned : pin p v ≡ true
    pub children : (c : ℕ) → UnderOf Q p c → acc c ≡ true

  pub fits-says : (v : ℕ) (acc : ℕ → Bool) (p : ℕ) → fits_at Q W pin v acc p ≡ true → FitsAt v acc p
  unfolding fits_at
  fits-says v acc p e =
      let fit : Bool = label_fits (pattern_label Q p) (label_of W v) in
      let front : (fit && pin p v) ≡ true = and_left (fit && pin p v) (children_in Q acc p) e in
      record {
        label = and_left fit (pin p v) front;
        pinned = and_right fit (pin p v) front;
        children = children-says Q acc p (and_right (fit && pin p v) (children_in Q acc p) e);
      }

  pub says-fits : (v : ℕ) (acc : ℕ → Bool) (p : ℕ) → FitsAt v acc p → fits_at Q W pin v acc p ≡ true
  unfolding fits_at
  says-fits v acc p m = and_intro (and_intro m.label m.pinned) (says-children Q acc p m.children)

  pub offers-cases : (w : ℕ) (acc : ℕ → Bool) (p : ℕ) → offers_at Q W pin w acc p ≡ true → (fits_at Q W pin w acc p ≡ true) ⊎ ((hangs_deep Q p ≡ true) × (acc p ≡ true))
  unfolding offers_at
  offers-cases w acc p e =
      ⊎_elim inl (λ k. inr (and_left (hangs_deep Q p) (acc p) k, and_right (hangs_deep Q p) (acc p) k)) (or_cases (fits_at Q W pin w acc p) (hangs_deep Q p && acc p) e)

  pub offers-fit : (w : ℕ) (acc : ℕ → Bool) (p : ℕ) → fits_at Q W pin w acc p ≡ true → offers_at Q W pin w acc p ≡ true
  unfolding offers_at
  offers-fit w acc p e = or_left (hangs_deep Q p && acc p) e

  pub offers-on : (w : ℕ) (acc : ℕ → Bool) (p : ℕ) → hangs_deep Q p ≡ true → acc p ≡ true → offers_at Q W pin w acc p ≡ true
  unfolding offers_at
  offers-on w acc p d e = or_right (fits_at Q W pin w acc p) (and_intro d e)

  -- more below gives more above
  fits_more : (v : ℕ) (acc acc' : ℕ → Bool) → Within acc acc' → Within (fits_at Q W pin v acc) (fits_at Q W pin v acc')
  fits_more v acc acc' m p e =
      let k = fits-says v acc p e in
      says-fits v acc' p (record { label = k.label; pinned = k.pinned; children = λ c u. m c (k.children c u) })

  offers-more : (w : ℕ) (acc acc' : ℕ → Bool) → Within acc acc' → Within (offers_at Q W pin w acc) (offers_at Q W pin w acc')
  offers-more w acc acc' m p e =
      ⊎_elim (λ a. offers-fit w acc' p (fits_more w acc acc' m p a)) (λ a. offers-on w acc' p a.0 (m p a.1)) (offers-cases w acc p e)

  -- ---- what is offered, without the bound

  offered_in-elim : (n v p : ℕ) → offered_in Q W pin (suc n) v p ≡ true → (w : ℕ) × Child W v w × (offers_at Q W pin w (offered_in Q W pin n w) p ≡ true)
  unfolding offered_in
  offered_in-elim n v p e =
      let r = any-elim (λ w. offers_at Q W pin w (offered_in Q W pin n w) p) (tree_children W v) e in
      (r.0, children-child W v r.0 r.1, r.2)

  offered_in-intro : (n v w p : ℕ) → Child W v w → offers_at Q W pin w (offered_in Q W pin n w) p ≡ true → offered_in Q W pin (suc n) v p ≡ true
  unfolding offered_in
  offered_in-intro n v w p c e = any-intro (λ w. offers_at Q W pin w (offered_in Q W pin n w) p) w (tree_children W v) (child-children c) e

  -- a bound that reaches the last node is as good as any
  offered-enough : (n m v : ℕ) → IsTree W → length W ≤ m + v → Within (offered_in Q W pin n v) (offered_in Q W pin m v)
  unfolding offered_in
  offered-enough zero m v t h p e = absurd (false≢true e)
  offered-enough (suc n) zero v t h p e =
      let r = offered_in-elim n v p e in
      let b : v < r.0 = child-lt t r.1 in
      let i : r.0 < length W = r.1.inside in
      absurd (omega arith)
  offered-enough (suc n) (suc m) v t h p e =
      let r = offered_in-elim n v p e in
      let w : ℕ = r.0 in
      let b : v < w = child-lt t r.1 in
      offered_in-intro m v w p r.1 (offers-more w (offered_in Q W pin n w) (offered_in Q W pin m w) (offered-enough n m w t (omega arith)) p r.2)

  -- what is offered is what some child offers
  pub offered-elim : (v p : ℕ) → IsTree W → offered Q W pin v p ≡ true → (w : ℕ) × Child W v w × (offers_at Q W pin w (offered Q W pin w) p ≡ true)
  unfolding offered
  offered-elim v p t e = offered_in-elim (length W) v p (offered-enough (length W) (suc (length W)) v t (omega arith) p e)

  pub offered-intro : (v w p : ℕ) → IsTree W → Child W v w → offers_at Q W pin w (offered Q W pin w) p ≡ true → offered Q W pin v p ≡ true
  unfolding offered
  offered-intro v w p t c e = offered-enough (suc (length W)) (length W) v t (omega arith) p (offered_in-intro (length W) v w p c e)

  pub part-fits : (v p : ℕ) → part_at Q W pin v p ≡ fits_at Q W pin v (offered Q W pin v) p
  unfolding part_at
  part-fits v p = refl
