-- What a member's set brings about grows with it: a set inside the mask of a test is such a mask itself, so what a node, a chain and the
-- root make of it is inside what they make of the test. Assumes nothing.
use Prim.Native.Nat.{ℕ, zero, suc, ◌+◌, ◌^◌, ◌≤◌, ◌<◌}
use mathlib.Core.Path.{◌≡◌, refl, sym, ap, ◌∙◌, subst}
use mathlib.Core.Bool.{Bool, true, false}
use mathlib.Core.Logic.{inr}
use native.Mathlib.Omega.{arith}
use native.Mathlib.Nat.{lt_of_lt_of_le}
use lib.Dec.{ltb}
use lib.ListN.{length}
use lib.Pow.{pow-lt, pow_mono}
use borrow.Author.Tests.{ltb-true, ltb-false}
use Rattle.model.specs.Lists.{mask_below, has}
use Rattle.model.specs.Tree.{IsTree, Below}
use Rattle.model.specs.Summary.{Summary, as_document}
use Rattle.model.specs.Pattern.{Pattern, IsPatternTree}
use Rattle.model.specs.Canonical.{chain}
use Rattle.model.specs.Quick.{Held, held_by, offers, closed, union, hang}
use Rattle.model.proofs.ListLaws.{not-both}
use Rattle.model.proofs.Masks.{mask_below_lem, mask-past, mask_lt}
use Rattle.model.proofs.QuickLaws.{Within, meets-more, offers-more, union_more, hang-more}
use Rattle.bits.proofs.MaskLaws.{mask-ext}
use Rattle.judging.specs.Judging.{Sets, node_by, hang_by, root_by}
use Rattle.judging.specs.Prepared.{Allows, ChainSets}
use Rattle.judging.proofs.ChainLaws.{hang-mask}
use Rattle.judging.proofs.Judging.{root-mask}
use Rattle.judging.proofs.SetLaws.{node-mask}

-- every node of a is in b
abbrev pub Subset : ℕ → ℕ → Type 0
Subset a b = (p : ℕ) → has a p ≡ true → has b p ≡ true

-- ---- the mask of a test

pub in-mask : (g : ℕ → Bool) (k p : ℕ) → has (mask_below g k) p ≡ true → (p < k) × (g p ≡ true)
in-mask g k p e = go (ltb p k) refl
  where
    go : (b : Bool) → ltb p k ≡ b → (p < k) × (g p ≡ true)
    go true i = let l : p < k = ltb-true p k i in (l, sym (mask_below_lem g k p l) ∙ e)
    go false i = absurd (not-both (has (mask_below g k) p) e (mask-past g k p (ltb-false p k i)))

pub mask-of-more : (f g : ℕ → Bool) (k : ℕ) → Within f g → Subset (mask_below f k) (mask_below g k)
mask-of-more f g k w p e = let r = in-mask f k p e in mask_below_lem g k p r.0 ∙ w p r.1

lt-pow : (n : ℕ) → n < 2 ^ n
lt-pow zero = omega arith
lt-pow (suc n) = let h : n < 2 ^ n = lt-pow n in let k : 2 ^ n < 2 ^ suc n = pow-lt (omega arith) in omega arith

module _ (a k : ℕ) (g : ℕ → Bool) (s : Subset a (mask_below g k)) where
  -- a set inside such a mask is one itself
  pub sub-mask : a ≡ mask_below (has a) k
  sub-mask =
      mask-ext (a + k) a (mask_below (has a) k) (lt_of_lt_of_le (lt-pow a) (pow_mono (omega arith))) (lt_of_lt_of_le (mask_lt (has a) k) (pow_mono (omega arith)))
      (λ i h. go i (ltb i k) refl (has a i) refl)
    where
      go : (i : ℕ) → (b : Bool) → ltb i k ≡ b → (t : Bool) → has a i ≡ t → has a i ≡ has (mask_below (has a) k) i
      go i true l t e = sym (mask_below_lem (has a) k i (ltb-true i k l))
      go i false l true e = absurd (not-both (has (mask_below g k) i) (s i e) (mask-past g k i (ltb-false i k l)))
      go i false l false e = e ∙ sym (mask-past (has a) k i (ltb-false i k l))

  pub sub_within : Within (has a) g
  sub_within p e = (in-mask g k p (s p e)).1

-- ---- what a node, a chain and the root make of a set

module _ (S : Summary) {P : Pattern} (Q : Pattern) (T : Sets) (C : ChainSets S P Q T) where
  pub node-sub : (x n : ℕ) (w : Held) (a : ℕ) (g : ℕ → Bool) → x < length S → Allows Q T n w → Subset a (mask_below g (length Q))
      → Subset (node_by T x n a) (mask_below (offers S Q x w (union (closed S Q x) g)) (length Q))
  node-sub x n w a g h k s =
      subst (λ (b : ℕ). Subset b (mask_below (offers S Q x w (union (closed S Q x) g)) (length Q)))
      (sym (ap (node_by T x n) (sub-mask a (length Q) g s) ∙ node-mask S Q T C x n w (has a) h k))
      (mask-of-more (offers S Q x w (union (closed S Q x) (has a))) (offers S Q x w (union (closed S Q x) g)) (length Q)
      (offers-more S Q x w w (union (closed S Q x) (has a)) (union (closed S Q x) g) (inr refl) (union_more (closed S Q x) (has a) g (sub_within a (length Q) g s))))

  pub hang-sub : IsTree (as_document S) → (x y n : ℕ) (w : Held) (a : ℕ) (g : ℕ → Bool) → Below (as_document S) x y → Allows Q T n w → Subset a (mask_below g (length Q))
      → Subset (hang_by T x y n a) (mask_below (hang S Q w g (chain S x y)) (length Q))
  hang-sub t x y n w a g d k s =
      subst (λ (b : ℕ). Subset b (mask_below (hang S Q w g (chain S x y)) (length Q)))
      (sym (ap (hang_by T x y n) (sub-mask a (length Q) g s) ∙ hang-mask S Q T C t x y n w (has a) d k))
      (mask-of-more (hang S Q w (has a) (chain S x y)) (hang S Q w g (chain S x y)) (length Q) (hang-more S Q w (has a) g (chain S x y) (sub_within a (length Q) g s)))

  pub root-sub : IsTree (as_document S) → IsPatternTree P → length P ≤ 16 → 0 < length Q
      → (a : ℕ) (g : ℕ → Bool) → Subset a (mask_below g (length Q)) → root_by T a ≡ true → root_by T (mask_below g (length Q)) ≡ true
  root-sub t p small z a g s e =
      root-mask S P Q T C t p small g z
      ∙ meets-more S Q 0 (held_by P 0) (held_by P 0) (union (closed S Q 0) (has a)) (union (closed S Q 0) g) (inr refl) (union_more (closed S Q 0) (has a) g (sub_within a (length Q) g s)) 0
      (sym (root-mask S P Q T C t p small (has a) z) ∙ ap (root_by T) (sym (sub-mask a (length Q) g s)) ∙ e)
