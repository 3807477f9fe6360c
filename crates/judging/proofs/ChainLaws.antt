-- What a chain offers, computed from its lower end up: each node passes on what it is offered from below, so the chain's last node
-- comes first. Assumes nothing.
use Prim.Native.Nat.{ℕ, zero, suc, ◌≤◌, ◌<◌}
use mathlib.Core.Path.{◌≡◌, refl, sym, ap, ◌∙◌, subst}
use mathlib.Core.Bool.{Bool}
use mathlib.Core.Logic.{◌⊎◌, inl, inr}
use mathlib.Core.List.{List, [], ◌∷◌, ◌++◌}
use native.Mathlib.Omega.{arith}
use lib.ListN.{length}
use borrow.Author.Tests.{lt-ltb, le-ltb}
use Rattle.model.specs.Lists.{mask_below}
use Rattle.model.specs.Tree.{Document, IsTree, parent_of, Child, Below, AtOrBelow}
use Rattle.model.specs.Summary.{Summary, as_document}
use Rattle.model.specs.Pattern.{Pattern}
use Rattle.model.specs.Canonical.{chain}
use Rattle.model.specs.Quick.{Held, unheld, offers, closed, union, hang}
use Rattle.model.proofs.TreeLaws.{child-lt, below-lt, below-cases, length-as_document}
use Rattle.model.proofs.Chains.{Way, end, step, below-way, chain-way, chain-self}
use Rattle.model.proofs.QuickLaws.{hold, hang-nil, hang-cons}
use Rattle.judging.specs.Judging.{nobody, Sets, node_by, climb_by, hang_by}
use Rattle.judging.specs.Prepared.{Allows, ChainSets}
use Rattle.judging.proofs.SetLaws.{node-mask}

-- ---- chains from the lower end

way-snoc : {D : Document} {b a c : ℕ} {xs : List ℕ} → Way D b a xs → Child D b c → Way D c a (xs ++ c ∷ [])
way-snoc {D} {c = c} (end p) k = step (subst (λ (x : ℕ). Child D x c) (sym p) k) (end refl)
way-snoc (step j w) k = step j (way-snoc w k)

at-or-below-way : {D : Document} {a b : ℕ} → AtOrBelow D a b → (xs : List ℕ) × Way D b a xs
at-or-below-way (inl p) = ([], end p)
at-or-below-way (inr d) = let r = below-way d in (r.0 ∷ r.1, step r.2 r.3)

-- a chain is the chain to its last node's parent, and that node
pub chain-last : (S : Summary) (a p b : ℕ) → IsTree (as_document S) → AtOrBelow (as_document S) a p → Child (as_document S) p b → chain S a b ≡ chain S a p ++ b ∷ []
chain-last S a p b t d k =
    let w = at-or-below-way d in
    chain-way S t (way-snoc w.1 k) ∙ ap (λ (l : List ℕ). l ++ b ∷ []) (sym (chain-way S t w.1))

-- a descendant is a child of something at or below
pub below_last : {D : Document} {a b : ℕ} → Below D a b → AtOrBelow D a (parent_of D b) × Child D (parent_of D b) b
below_last {D} {a} {b} d = go (below-cases d)
  where
    go : Child D a b ⊎ (Below D a (parent_of D b) × (0 < b) × (b < length D)) → AtOrBelow D a (parent_of D b) × Child D (parent_of D b) b
    go (inl c) = (inl (sym c.is_parent), record { not_root = c.not_root; inside = c.inside; is_parent = refl })
    go (inr r) = (inr r.0, record { not_root = r.1; inside = r.2; is_parent = refl })

hold-unheld : (xs : List ℕ) → hold unheld xs ≡ unheld
hold-unheld [] = refl
hold-unheld (x ∷ xs) = refl

-- what a chain offers, from its last node on
pub hang-snoc : (S : Summary) (Q : Pattern) (w : Held) (g : ℕ → Bool) (xs : List ℕ) (b : ℕ)
    → hang S Q w g (xs ++ b ∷ []) ≡ hang S Q unheld (offers S Q b w (union (closed S Q b) g)) xs
hang-snoc S Q w g [] b =
    hang-cons S Q w g b [] ∙ ap (λ (f : ℕ → Bool). offers S Q b w (union (closed S Q b) f)) (hang-nil S Q w g)
    ∙ sym (hang-nil S Q unheld (offers S Q b w (union (closed S Q b) g)))
hang-snoc S Q w g (x ∷ xs) b =
    hang-cons S Q w g x (xs ++ b ∷ [])
    ∙ ap (λ (k : Held). offers S Q x k (union (closed S Q x) (hang S Q w g (xs ++ b ∷ [])))) (hold-snoc xs ∙ sym (hold-unheld xs))
    ∙ ap (λ (f : ℕ → Bool). offers S Q x (hold unheld xs) (union (closed S Q x) f)) (hang-snoc S Q w g xs b)
    ∙ sym (hang-cons S Q unheld (offers S Q b w (union (closed S Q b) g)) x xs)
  where
    hold-snoc : (ys : List ℕ) → hold w (ys ++ b ∷ []) ≡ unheld
    hold-snoc [] = refl
    hold-snoc (y ∷ ys) = refl

-- ---- climbing

climb-stop : (k : ℕ) (T : Sets) (a x h : ℕ) → x ≤ a → climb_by k T a x h ≡ h
unfolding climb_by
climb-stop zero T a x h l = refl
climb-stop (suc k) T a x h l = rw (le-ltb a x l, climb_by)

climb-step : (k : ℕ) (T : Sets) (a x h : ℕ) → a < x → climb_by (suc k) T a x h ≡ climb_by k T a (T.up x) (node_by T x nobody h)
unfolding climb_by
climb-step k T a x h l = rw (lt-ltb a x l, climb_by)

-- the climb so far: `whole` is what climbing on from x with h gives
pub record Climbing (T : Sets) (a whole x h : ℕ) : Type 0 where
  pub fuel : ℕ
  pub enough : x ≤ fuel
  pub same : whole ≡ climb_by fuel T a x h

pub climbing-start : (T : Sets) (a b n g : ℕ) → T.up b ≤ b → Climbing T a (hang_by T a b n g) (T.up b) (node_by T b n g)
unfolding hang_by
climbing-start T a b n g l = record { fuel = b; enough = l; same = refl }

pub climbing-step : (T : Sets) (a whole x h : ℕ) → a < x → T.up x < x → Climbing T a whole x h → Climbing T a whole (T.up x) (node_by T x nobody h)
climbing-step T a whole x h l k c = go c.fuel c.enough c.same
  where
    go : (fuel : ℕ) → x ≤ fuel → whole ≡ climb_by fuel T a x h → Climbing T a whole (T.up x) (node_by T x nobody h)
    go zero e s = absurd (omega arith)
    go (suc fuel) e s = record { fuel = fuel; enough = omega arith; same = s ∙ climb-step fuel T a x h l }

pub climbing-end : (T : Sets) (a whole x h : ℕ) → x ≤ a → Climbing T a whole x h → h ≡ whole
climbing-end T a whole x h l c = sym (c.same ∙ climb-stop c.fuel T a x h l)

-- ---- by masks

module _ (S : Summary) {P : Pattern} (Q : Pattern) (T : Sets) (C : ChainSets S P Q T) (t : IsTree (as_document S)) where
  inside : {x : ℕ} → x < length (as_document S) → x < length S
  inside {x} h = subst (λ (n : ℕ). x < n) (length-as_document S) h

  climb-here : (k a x : ℕ) (h : ℕ → Bool) → a ≡ x → climb_by k T a x (mask_below h (length Q)) ≡ mask_below (hang S Q unheld h (chain S a x)) (length Q)
  climb-here k a x h p =
      climb-stop k T a x (mask_below h (length Q)) (omega arith)
      ∙ ap (λ (f : ℕ → Bool). mask_below f (length Q)) (sym (hang-nil S Q unheld h) ∙ sym (ap (hang S Q unheld h) (ap (chain S a) (sym p) ∙ chain-self S a)))

  climb-mask : (k a x : ℕ) (h : ℕ → Bool) → AtOrBelow (as_document S) a x → x ≤ k → climb_by k T a x (mask_below h (length Q)) ≡ mask_below (hang S Q unheld h (chain S a x)) (length Q)
  climb-mask zero a x h (inl p) l = climb-here zero a x h p
  climb-mask (suc k) a x h (inl p) l = climb-here (suc k) a x h p
  climb-mask zero a x h (inr d) l = let m : a < x = below-lt t d in absurd (omega arith)
  climb-mask (suc k) a x h (inr d) l = go (below_last d) (λ b e. climb-mask k a (parent_of (as_document S) x) (offers S Q x unheld (union (closed S Q x) h)) b e)
    where
      u : ℕ
      u = parent_of (as_document S) x

      next : ℕ → Bool
      next = offers S Q x unheld (union (closed S Q x) h)

      go : AtOrBelow (as_document S) a u × Child (as_document S) u x → (AtOrBelow (as_document S) a u → u ≤ k → climb_by k T a u (mask_below next (length Q)) ≡ mask_below (hang S Q unheld next (chain S a u)) (length Q))
          → climb_by (suc k) T a x (mask_below h (length Q)) ≡ mask_below (hang S Q unheld h (chain S a x)) (length Q)
      go b rest =
          let i : x < length S = inside b.1.inside in
          let j : u < x = child-lt t b.1 in
          climb-step k T a x (mask_below h (length Q)) (below-lt t d)
          ∙ ap (λ (y : ℕ). climb_by k T a y (node_by T x nobody (mask_below h (length Q)))) (C.ups x i)
          ∙ ap (climb_by k T a u) (node-mask S Q T C x nobody unheld h i C.node.free)
          ∙ rest b.0 (omega arith)
          ∙ ap (λ (f : ℕ → Bool). mask_below f (length Q)) (sym (ap (hang S Q unheld h) (chain-last S a u x t b.0 b.1) ∙ hang-snoc S Q unheld h (chain S a u) x))

  -- what a chain offers, by masks
  pub hang-mask : (a b n : ℕ) (w : Held) (g : ℕ → Bool) → Below (as_document S) a b → Allows Q T n w
      → hang_by T a b n (mask_below g (length Q)) ≡ mask_below (hang S Q w g (chain S a b)) (length Q)
  unfolding hang_by
  hang-mask a b n w g d k =
      let r = below_last d in
      let u : ℕ = parent_of (as_document S) b in
      let i : b < length S = inside r.1.inside in
      let j : u < b = child-lt t r.1 in
      ap (λ (y : ℕ). climb_by b T a y (node_by T b n (mask_below g (length Q)))) (C.ups b i)
      ∙ ap (climb_by b T a u) (node-mask S Q T C b n w g i k)
      ∙ climb-mask b a u (offers S Q b w (union (closed S Q b) g)) r.0 (omega arith)
      ∙ ap (λ (f : ℕ → Bool). mask_below f (length Q)) (sym (ap (hang S Q w g) (chain-last S a u b t r.0 r.1) ∙ hang-snoc S Q w g (chain S a u) b))
