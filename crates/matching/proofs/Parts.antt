-- The part of a pattern from p down embeds at v, each node where its pin lets it, exactly when `part_at` says so: what a node's
-- children offer is what they, or by a descendant edge their descendants, can take. Assumes nothing.
use Prim.Native.Nat.{ℕ, zero, suc, ◌+◌, ◌≤◌, ◌<◌}
use mathlib.Core.Path.{◌≡◌, refl, sym, ◌∙◌}
use mathlib.Core.Bool.{Bool, true, false}
use mathlib.Core.Logic.{◌⊎◌, inl, inr, ◌↔◌}
use native.Mathlib.Omega.{arith}
use lib.ListN.{length}
use Rattle.model.specs.Tree.{Document, IsTree, Child, Below, once, down, Edge}
use Rattle.model.specs.Pattern.{Pattern, descends}
use Rattle.model.proofs.TreeLaws.{child-lt, edge-below, edge-inside, below-lt}
use Rattle.model.proofs.NodeByNode.{UnderOf, Can, can}
use Rattle.matching.specs.Matching.{hangs_deep, fits_at, offered, part_at}
use Rattle.matching.proofs.PartLaws.{FitsAt, fits-says, says-fits, offers-cases, offers-fit, offers-on, offered-elim, offered-intro, part-fits, deep-says, says-deep, child-edge, edge-further}

-- the pin, as a side condition
abbrev pub Pin : (ℕ → ℕ → Bool) → ℕ → ℕ → Type 0
Pin pin p v = pin p v ≡ true

module _ (Q : Pattern) (W : Document) (pin : ℕ → ℕ → Bool) (t : IsTree W) where
  -- where p's part embeds
  abbrev Found : ℕ → ℕ → Type 0
  Found v p = (w : ℕ) × Edge (descends Q p) W v w × (part_at Q W pin w p ≡ true)

  -- what is offered at v is found below v, by its edge
  offered-found : (n v p : ℕ) → length W ≤ n + v → offered Q W pin v p ≡ true → Found v p
  offered-found zero v p h e =
      let r = offered-elim Q W pin v p t e in
      let b : v < r.0 = child-lt t r.1 in
      let i : r.0 < length W = r.1.inside in
      absurd (omega arith)
  offered-found (suc n) v p h e =
      let r = offered-elim Q W pin v p t e in
      let b : v < r.0 = child-lt t r.1 in
      go r.0 r.1 (offers-cases Q W pin r.0 (offered Q W pin r.0) p r.2) (λ k. offered-found n r.0 p (omega arith) k)
    where
      go : (w : ℕ) → Child W v w → (fits_at Q W pin w (offered Q W pin w) p ≡ true) ⊎ ((hangs_deep Q p ≡ true) × (offered Q W pin w p ≡ true))
          → (offered Q W pin w p ≡ true → Found w p) → Found v p
      go w c (inl k) rest = (w, child-edge (descends Q p) c, part-fits Q W pin w p ∙ k)
      go w c (inr k) rest = let x = rest k.1 in (x.0, edge-further x.0 (deep-says Q p k.0).1 c x.1, x.2)

  -- what is offered at b is offered above b, where it hangs by a descendant edge
  offered-above : {a b : ℕ} (p : ℕ) → hangs_deep Q p ≡ true → Below W a b → offered Q W pin b p ≡ true → offered Q W pin a p ≡ true
  offered-above {a} {b} p d (once c) e = offered-intro Q W pin a b p t c (offers-on Q W pin b (offered Q W pin b) p d e)
  offered-above {a} p d (down {b = m} {c = b} k c) e =
      offered-above p d k (offered-intro Q W pin m b p t c (offers-on Q W pin b (offered Q W pin b) p d e))

  child-offered : (a b p : ℕ) → Child W a b → part_at Q W pin b p ≡ true → offered Q W pin a p ≡ true
  child-offered a b p c e = offered-intro Q W pin a b p t c (offers-fit Q W pin b (offered Q W pin b) p (sym (part-fits Q W pin b p) ∙ e))

  below-offered : {a b : ℕ} (p : ℕ) → hangs_deep Q p ≡ true → Below W a b → part_at Q W pin b p ≡ true → offered Q W pin a p ≡ true
  below-offered {a} {b} p d (once c) e = child-offered a b p c e
  below-offered p d (down {b = m} {c = b} k c) e = offered-above p d k (child-offered m b p c e)

  -- what can stand below v by its edge is offered at v
  found-offered : (v p : ℕ) → 0 < p → Found v p → offered Q W pin v p ≡ true
  found-offered v p z f = go (descends Q p) refl f.0 f.1 f.2
    where
      go : (d : Bool) → descends Q p ≡ d → (w : ℕ) → Edge d W v w → part_at Q W pin w p ≡ true → offered Q W pin v p ≡ true
      go true q w m e = below-offered p (says-deep Q p z q) m e
      go false q w m e = child-offered v w p m e

  part-can : (n p v : ℕ) → length W ≤ n + v → v < length W → part_at Q W pin v p ≡ true → Can Q W (Pin pin) p v
  part-can zero p v b h e = absurd (omega arith)
  part-can (suc n) p v b h e =
      can h m.label m.pinned (λ c u. (found c u).0) (λ c u. (found c u).1)
      (λ c u. (let k : v < (found c u).0 = further c u in part-can n c (found c u).0 (omega arith) (edge-inside (descends Q c) W v (found c u).0 (found c u).1) (found c u).2))
    where
      m : FitsAt Q W pin v (offered Q W pin v) p
      m = fits-says Q W pin v (offered Q W pin v) p (sym (part-fits Q W pin v p) ∙ e)

      found : (c : ℕ) → UnderOf Q p c → Found v c
      found c u = offered-found (length W) v c (omega arith) (m.children c u)

      further : (c : ℕ) (u : UnderOf Q p c) → v < (found c u).0
      further c u = below-lt t (edge-below (descends Q c) W v (found c u).0 (found c u).1)

  can-part : {p v : ℕ} → Can Q W (Pin pin) p v → part_at Q W pin v p ≡ true
  can-part {p} {v} (can h l k f es cs) =
      part-fits Q W pin v p
      ∙ says-fits Q W pin v (offered Q W pin v) p (record { label = l; pinned = k; children = λ c u. found-offered v c u.not_root (f c u, es c u, can-part (cs c u)) })

  -- the bit of p at v says that the part from p down embeds at v
  pub part-exact : (p v : ℕ) → v < length W → (part_at Q W pin v p ≡ true) ↔ Can Q W (Pin pin) p v
  part-exact p v h = (λ e. part-can (length W) p v (omega arith) h e, λ k. can-part k)
