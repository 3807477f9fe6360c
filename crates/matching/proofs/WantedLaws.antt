-- What is wanted of a pattern: its columns are made node by node, each store leaving the other entries alone; and the sets computed from
-- them, as masks, are those of the pattern. Assumes nothing.
use Prim.Native.Nat.{ℕ, ◌+◌, ◌-◌, ◌≤◌, ◌<◌}
use mathlib.Core.Path.{◌≡◌, refl, sym, ap, ap₂, ◌∙◌}
use mathlib.Core.Bool.{Bool, true, false, ◌&&◌, ◌||◌, and_assoc}
use mathlib.Core.List.{List}
use native.Mathlib.Omega.{arith}
use lib.Bits.{bit_and, bit_or}
use lib.Dec.{eqb, leb, ltb}
use lib.ListN.{length, get_or}
use borrow.Author.Tests.{eqb-true, eqb-false, eq-eqb, ne_eqb, le-leb, ltb-true}
use Rattle.model.specs.Lists.{mask_below, has}
use Rattle.model.specs.Tree.{Document, label_of, figure_of}
use Rattle.model.specs.Pattern.{Pattern, pattern_parent, position, label_fits, figure_fits}
use Rattle.model.specs.Quick.{hangs_from}
use Rattle.model.proofs.ListLaws.{bool-ext}
use Rattle.model.proofs.Masks.{mask_below_lem}
use Rattle.bits.proofs.MaskLaws.{mask-agree, mask-and, mask-or, subset-all}
use Rattle.matching.specs.Matching.{hangs_deep, children_in, fits_at, offers_at, part_at, leaves, result_pin, figure_pin}
use Rattle.matching.specs.declared.wanted.Wanted.{Wanted}
use Rattle.matching.specs.Wanted.{Wants, mark_fits, pin_by, pin_of, mark_at, Marked, Unmarked, Unasked, Asked, fits_by, hangs_by}
use Rattle.matching.specs.Tables.{leave_at}

-- ---- columns

-- before turn q the nodes below q are in the column t, which holds f's values there
pub record Columned (f : ℕ → ℕ) (n : ℕ) (t : List ℕ) (q : ℕ) : Type 0 where
  pub turns : q ≤ n
  pub size : length t ≡ 16
  pub below : (p : ℕ) → p < q → get_or t p 0 ≡ f p

module _ {f : ℕ → ℕ} {n : ℕ} {t : List ℕ} where
  pub columned-end : {q : ℕ} → Columned f n t q → n ≤ q → (p : ℕ) → p < n → get_or t p 0 ≡ f p
  columned-end {q} c h p l = c.below p (omega arith)

-- ---- marks and least figures as pins

pub mark-none : (p : ℕ) (list : List ℕ) → p ≡ 0 → mark_at p list ≡ 0
unfolding mark_at
mark-none p list e = rw (eq-eqb p 0 e, mark_at)

pub mark-some : (p : ℕ) (list : List ℕ) → (p ≡ 0 → ⊥) → mark_at p list ≡ get_or list (p - 1) 0 + 1
unfolding mark_at
mark-some p list e = rw (ne_eqb p 0 e, mark_at)

same_next : (x v : ℕ) → eqb (x + 1) (v + 1) ≡ eqb v x
same_next x v =
    bool-ext (eqb (x + 1) (v + 1)) (eqb v x) (λ e. eq-eqb v x (omega (arith, eqb-true (x + 1) (v + 1) e))) (λ e. eq-eqb (x + 1) (v + 1) (omega (arith, eqb-true v x e)))

-- the mark of a position says what its pin says
mark-pin : (p v : ℕ) (list : List ℕ) → mark_fits (mark_at p list) (v + 1) ≡ (eqb p 0 || eqb v (get_or list (p - 1) 0))
unfolding mark_fits
mark-pin p v list = go (eqb p 0) refl
  where
    go : (b : Bool) → eqb p 0 ≡ b → (eqb (mark_at p list) 0 || eqb (mark_at p list) (v + 1)) ≡ (b || eqb v (get_or list (p - 1) 0))
    go true e = ap (λ (x : ℕ). eqb x 0 || eqb x (v + 1)) (mark-none p list (eqb-true p 0 e))
    go false e =
        let x : ℕ = get_or list (p - 1) 0 in
        ap (λ (y : ℕ). eqb y 0 || eqb y (v + 1)) (mark-some p list (eqb-false p 0 e))
        ∙ ap₂ (λ (a b : Bool). a || b) (ne_eqb (x + 1) 0 (λ q. omega arith)) (same_next x v)

module _ (Q : Pattern) (W : Document) (w : Wanted) where
  pub marked-pin : (list : List ℕ) → Marked Q list w → Asked Q w → (p v : ℕ) → p < length Q → pin_of w W p v ≡ (result_pin Q list p v && figure_pin Q W p v)
  unfolding pin_of pin_by result_pin figure_pin
  marked-pin list M A p v h =
      ap₂ (λ (a b : Bool). a && b) (ap (λ (x : ℕ). mark_fits x (v + 1)) (M p h) ∙ mark-pin (position Q p) v list) (ap (λ (x : ℕ). figure_fits x (figure_of W v)) (A p h))

  -- no mark: the least figures alone
  pub unmarked-pin : length Q ≤ 16 → Unmarked w → Asked Q w → (p v : ℕ) → p < length Q → pin_of w W p v ≡ figure_pin Q W p v
  unfolding pin_of pin_by mark_fits figure_pin
  unmarked-pin few U A p v h =
      ap (λ (x : ℕ). (eqb x 0 || eqb x (v + 1)) && figure_fits (get_or w.least p 0) (figure_of W v)) (U p (omega arith)) ∙ ap (λ (x : ℕ). figure_fits x (figure_of W v)) (A p h)

-- no mark and no figure asked: no pin
pub free-pin : (w : Wanted) (W : Document) → Unmarked w → Unasked w → (p v : ℕ) → p < 16 → pin_of w W p v ≡ true
unfolding pin_of pin_by mark_fits figure_fits
free-pin w W U A p v h =
    ap₂ (λ (x y : ℕ). (eqb x 0 || eqb x (v + 1)) && leb y (figure_of W v)) (U p h) (A p h) ∙ le-leb 0 (figure_of W v) (omega arith)

-- ---- the sets

module _ {Q : Pattern} {w : Wanted} (K : Wants Q w) (W : Document) (v : ℕ) where
  -- the test of masks is the test of every child
  children-mask : (f : ℕ → Bool) (p : ℕ) → p < length Q → eqb (bit_and (get_or w.kids p 0) (mask_below f (length Q))) (get_or w.kids p 0) ≡ children_in Q f p
  unfolding children_in
  children-mask f p h =
      ap (λ (k : ℕ). eqb (bit_and k (mask_below f (length Q))) k) (K.kids p h)
      ∙ subset-all (hangs_from Q p) f (length Q) (mask_below f (length Q)) (mask_below_lem f (length Q))

  -- what may stand at v, which is offered f
  pub fits_mask : (f : ℕ → Bool)
      → mask_below (fits_by w (label_of W v) (figure_of W v) (v + 1) (mask_below f (length Q))) w.count ≡ mask_below (fits_at Q W (pin_of w W) v f) (length Q)
  unfolding fits_by fits_at pin_of
  fits_mask f =
      ap (mask_below (fits_by w (label_of W v) (figure_of W v) (v + 1) (mask_below f (length Q)))) K.count
      ∙ mask-agree (fits_by w (label_of W v) (figure_of W v) (v + 1) (mask_below f (length Q))) (fits_at Q W (pin_of w W) v f) (length Q)
      (λ p l. ap₂ (λ (a b : Bool). (a && pin_by w (figure_of W v) (v + 1) p) && b) (ap (λ (x : ℕ). label_fits x (label_of W v)) (K.labels p l)) (children-mask f p l))

  -- what v then offers
  pub offers-mask : (pin : ℕ → ℕ → Bool) (f : ℕ → Bool)
      → bit_or (mask_below (fits_at Q W pin v f) (length Q)) (bit_and w.deep (mask_below f (length Q))) ≡ mask_below (offers_at Q W pin v f) (length Q)
  unfolding offers_at
  offers-mask pin f =
      ap (bit_or (mask_below (fits_at Q W pin v f) (length Q))) (ap (λ (x : ℕ). bit_and x (mask_below f (length Q))) K.deep ∙ mask-and (hangs_deep Q) f (length Q))
      ∙ mask-or (fits_at Q W pin v f) (λ p. hangs_deep Q p && f p) (length Q)

  -- what v, where `may` might stand, leaves to its children
  pub leaves-mask : (pin : ℕ → ℕ → Bool) (may : ℕ → Bool)
      → leave_at w (mask_below may (length Q)) (mask_below (λ q. may q && part_at Q W pin v q) (length Q)) ≡ mask_below (leaves Q W pin v may) (length Q)
  unfolding leaves hangs_by
  leaves-mask pin may =
      ap₂ bit_or (ap (mask_below (hangs_by w (mask_below here (length Q)))) K.count ∙ mask-agree (hangs_by w (mask_below here (length Q))) under (length Q) under-here)
      (ap (λ (x : ℕ). bit_and x (mask_below may (length Q))) K.deep ∙ mask-and (hangs_deep Q) may (length Q))
      ∙ mask-or under (λ q. hangs_deep Q q && may q) (length Q)
    where
      here : ℕ → Bool
      here q = may q && part_at Q W pin v q

      under : ℕ → Bool
      under q = ltb 0 q && may (pattern_parent Q q) && part_at Q W pin v (pattern_parent Q q)

      inner : (q : ℕ) → q < length Q → (b : Bool) → ltb 0 q ≡ b → (b && has (mask_below here (length Q)) (get_or w.parents q 0)) ≡ (b && here (pattern_parent Q q))
      inner q h true e =
          let k : pattern_parent Q q < q = K.tree.earlier q (ltb-true 0 q e) h in
          ap (has (mask_below here (length Q))) (K.parents q h) ∙ mask_below_lem here (length Q) (pattern_parent Q q) (omega arith)
      inner q h false e = refl

      under-here : (q : ℕ) → q < length Q → hangs_by w (mask_below here (length Q)) q ≡ under q
      under-here q h = inner q h (ltb 0 q) refl ∙ sym (and_assoc (ltb 0 q) (may (pattern_parent Q q)) (part_at Q W pin v (pattern_parent Q q)))
