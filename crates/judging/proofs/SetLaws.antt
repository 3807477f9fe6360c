-- One node by masks: what meets at it and what it offers are the model's sets. Each operation on masks is the operation on sets.
-- Assumes nothing.
use Prim.Native.Nat.{ℕ, ◌+◌, ◌*◌, ◌/◌, ◌%◌, ◌^◌, ◌≤◌, ◌<◌}
use mathlib.Core.Path.{◌≡◌, sym, ap, ap₂, ◌∙◌}
use mathlib.Core.Bool.{Bool, ◌&&◌, ◌||◌, not}
use native.Mathlib.Omega.{arith}
use native.Mathlib.Nat.{lt_of_lt_of_le}
use lib.Bits.{bit_and, bit_or, and_shr, and_mod}
use lib.Dec.{eqb}
use lib.ListN.{length}
use lib.Pow.{pow_mono, split}
use borrow.Author.Tests.{eqb-true, eq-eqb}
use Rattle.model.specs.Lists.{up_from, all_of, mask_below}
use Rattle.model.specs.Summary.{Summary, summary_label}
use Rattle.model.specs.Pattern.{Pattern, pattern_label, descends, label_fits}
use Rattle.model.specs.Quick.{Held, may_hold, hangs_from, meets, offers, closed, union}
use Rattle.model.proofs.ListLaws.{and_intro, and_left, and_right, bool-ext}
use Rattle.model.proofs.Masks.{mask_lt, mask_below_lem}
use Rattle.bits.proofs.MaskLaws.{mask-agree, mask-or, mask-and, subset-all}
use Rattle.matching.specs.Matching.{children_in}
use Rattle.judging.specs.Judging.{full_by, meets_by, offers_by, Sets, node_by}
use Rattle.judging.specs.Prepared.{Allows, NodeSets, ChainSets}

-- ---- sets in two parts

-- two numbers are equal when their bits below k and those above are
parts-equal : (k x y : ℕ) → eqb x y ≡ (eqb (x % 2 ^ k) (y % 2 ^ k) && eqb (x / 2 ^ k) (y / 2 ^ k))
parts-equal k x y =
    bool-ext (eqb x y) (eqb (x % 2 ^ k) (y % 2 ^ k) && eqb (x / 2 ^ k) (y / 2 ^ k))
    (λ e.
    let p : x ≡ y = eqb-true x y e in
    and_intro (eq-eqb (x % 2 ^ k) (y % 2 ^ k) (ap (λ (z : ℕ). z % 2 ^ k) p)) (eq-eqb (x / 2 ^ k) (y / 2 ^ k) (ap (λ (z : ℕ). z / 2 ^ k) p)))
    (λ e.
    let a : x % 2 ^ k ≡ y % 2 ^ k = eqb-true (x % 2 ^ k) (y % 2 ^ k) (and_left (eqb (x % 2 ^ k) (y % 2 ^ k)) (eqb (x / 2 ^ k) (y / 2 ^ k)) e) in
    let b : x / 2 ^ k ≡ y / 2 ^ k = eqb-true (x / 2 ^ k) (y / 2 ^ k) (and_right (eqb (x % 2 ^ k) (y % 2 ^ k)) (eqb (x / 2 ^ k) (y / 2 ^ k)) e) in
    eq-eqb x y (sym (split x k) ∙ ap₂ (λ (u v : ℕ). u * 2 ^ k + v) b a ∙ split y k))

-- every member of a is one of b
abbrev pub within : ℕ → ℕ → Bool
within a b = eqb (bit_and a b) a

pub within-split : (k a b : ℕ) → within a b ≡ (within (a % 2 ^ k) (b % 2 ^ k) && within (a / 2 ^ k) (b / 2 ^ k))
within-split k a b =
    parts-equal k (bit_and a b) a
    ∙ ap₂ (λ (u v : Bool). u && v) (ap (λ (z : ℕ). eqb z (a % 2 ^ k)) (and_mod a b k)) (ap (λ (z : ℕ). eqb z (a / 2 ^ k)) (and_shr a b k))

-- ---- all children

-- the masks of children, in two halves, give the nodes all of whose children are in a set
pub full-halves : (Q : Pattern) (T : Sets) → length Q ≤ 16
    → ((b : ℕ) → b < 256 → T.low b ≡ mask_below (λ p. eqb (bit_and (mask_below (hangs_from Q p) (length Q) % 256) b) (mask_below (hangs_from Q p) (length Q) % 256)) (length Q))
    → ((b : ℕ) → b < 256 → T.high b ≡ mask_below (λ p. eqb (bit_and (mask_below (hangs_from Q p) (length Q) / 256) b) (mask_below (hangs_from Q p) (length Q) / 256)) (length Q))
    → (acc : ℕ → Bool) → full_by T (mask_below acc (length Q)) ≡ mask_below (children_in Q acc) (length Q)
unfolding full_by children_in
full-halves Q T small lows highs acc =
    ap₂ bit_and (lows (a % 256) (omega arith)) (highs (a / 256) (omega (arith, bound)))
    ∙ mask-and (λ p. within (kids p % 256) (a % 256)) (λ p. within (kids p / 256) (a / 256)) (length Q)
    ∙ mask-agree (λ p. within (kids p % 256) (a % 256) && within (kids p / 256) (a / 256)) (λ p. all_of (λ c. not (hangs_from Q p c) || acc c) (up_from 0 (length Q))) (length Q)
    (λ p h. sym (within-split 8 (kids p) a) ∙ subset-all (hangs_from Q p) acc (length Q) a (λ c k. mask_below_lem acc (length Q) c k))
  where
    a : ℕ
    a = mask_below acc (length Q)

    kids : ℕ → ℕ
    kids p = mask_below (hangs_from Q p) (length Q)

    bound : mask_below acc (length Q) < 2 ^ 16
    bound = lt_of_lt_of_le (mask_lt acc (length Q)) (pow_mono small)

-- ---- one node

module _ (S : Summary) {P : Pattern} (Q : Pattern) (T : Sets) (N : NodeSets S P Q T) where
  pub meets-mask : (x n : ℕ) (w : Held) (acc : ℕ → Bool) → x < length S → Allows Q T n w
      → meets_by T x n (mask_below acc (length Q)) ≡ mask_below (meets S Q x w acc) (length Q)
  unfolding meets_by meets children_in
  meets-mask x n w acc h k =
      ap₂ bit_and (ap₂ bit_and (N.fits x h) k ∙ mask-and fit (may_hold Q w) (length Q)) (N.full acc)
      ∙ mask-and (λ p. fit p && may_hold Q w p) (children_in Q acc) (length Q)
    where
      fit : ℕ → Bool
      fit p = label_fits (pattern_label Q p) (summary_label S x)

  pub offers-mask : (x n : ℕ) (w : Held) (acc : ℕ → Bool) → x < length S → Allows Q T n w
      → offers_by T x n (mask_below acc (length Q)) ≡ mask_below (offers S Q x w acc) (length Q)
  unfolding offers_by offers
  offers-mask x n w acc h k =
      ap₂ bit_or (meets-mask x n w acc h k) (ap (λ (d : ℕ). bit_and d (mask_below acc (length Q))) N.deeps ∙ mask-and (descends Q) acc (length Q))
      ∙ mask-or (meets S Q x w acc) (λ p. descends Q p && acc p) (length Q)

-- with its filled-up children
pub node-mask : (S : Summary) {P : Pattern} (Q : Pattern) (T : Sets) → ChainSets S P Q T → (x n : ℕ) (w : Held) (g : ℕ → Bool) → x < length S → Allows Q T n w
    → node_by T x n (mask_below g (length Q)) ≡ mask_below (offers S Q x w (union (closed S Q x) g)) (length Q)
unfolding node_by
node-mask S Q T C x n w g h k =
    ap (offers_by T x n)
    (ap (λ (d : ℕ). bit_or d (mask_below g (length Q))) (C.closes x h) ∙ mask-or (closed S Q x) g (length Q))
    ∙ offers-mask S Q T C.node x n w (union (closed S Q x) g) h k
