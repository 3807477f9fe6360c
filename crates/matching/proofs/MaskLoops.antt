-- The loop that gathers the children of each pattern node: before turn c the masks hold those of the nodes below c. Assumes nothing.
use Prim.Native.Nat.{ℕ, ◌+◌, ◌^◌, ◌≤◌, ◌<◌}
use mathlib.Core.Path.{◌≡◌, refl, sym, ap, ◌∙◌, subst}
use mathlib.Core.Bool.{Bool, true, false, ◌&&◌}
use mathlib.Core.List.{List}
use native.Mathlib.Omega.{arith}
use lib.Bits.{bit_or}
use lib.Dec.{eqb, ltb}
use lib.ListN.{length, get_or, set, replicate, length-set, length-replicate}
use lib.Seq.{ext_get_or}
use borrow.Author.Tests.{eqb-true, eqb-false, eq-eqb, ne_eqb, lt-ltb}
use Rattle.model.specs.Lists.{mask_below}
use Rattle.model.specs.Pattern.{Pattern, IsPatternTree, pattern_parent}
use Rattle.model.specs.Quick.{hangs_from}
use Rattle.model.proofs.ListLaws.{and_intro, length-map-up_from}
use Rattle.model.proofs.Masks.{mask-none}
use Rattle.bits.proofs.MaskLaws.{mask-step-in, mask-step-out}
use Rattle.format.proofs.RangeLaws.{get_or-map-below}
use Rattle.matching.specs.Masks.{kid_masks}
use Rattle.matching.proofs.TurnLaws.{set_here, set_else, zeros-at}

pub length-kid_masks : (P : Pattern) → length (kid_masks P) ≡ 16
unfolding kid_masks
length-kid_masks P = length-map-up_from (λ p. mask_below (hangs_from P p) (length P)) 0 16

pub get_or-kid_masks : (P : Pattern) (p : ℕ) → p < 16 → get_or (kid_masks P) p 0 ≡ mask_below (hangs_from P p) (length P)
unfolding kid_masks
get_or-kid_masks P p h = get_or-map-below (λ p. mask_below (hangs_from P p) (length P)) 16 p 0 h

-- kids holds the children below c of each node
pub record Gathering (P : Pattern) (kids : List ℕ) (c : ℕ) : Type 0 where
  pub low : 0 < c
  pub turns : c ≤ length P
  pub size : length kids ≡ 16
  pub masks : (p : ℕ) → p < 16 → get_or kids p 0 ≡ mask_below (hangs_from P p) c

module _ {P : Pattern} where
  -- the root hangs from nothing
  pub gathering-start : 0 < length P → Gathering P (replicate {A = ℕ} 16 0) 1
  unfolding hangs_from
  gathering-start h =
      record {
        low = omega arith;
        turns = omega arith;
        size = length-replicate {A = ℕ} 16 0;
        masks = λ p l. zeros-at 16 p ∙ sym (mask-none (hangs_from P p) 1 (λ c k. (let z : c ≡ 0 = omega arith in ap (hangs_from P p) z)));
      }

  -- a parent has a mask
  pub gathering-up : {kids : List ℕ} {c p : ℕ} → Gathering P kids c → IsPatternTree P → length P ≤ 16 → c < length P → p ≡ pattern_parent P c → p < 16
  gathering-up {c = c} g t few h e = omega (arith, g.low, t.earlier c (omega (arith, g.low)) h)

  -- c hangs from its parent alone
  pub gathering-step : {kids : List ℕ} {c p x : ℕ} → Gathering P kids c → c < length P → p ≡ pattern_parent P c → p < 16 → x ≡ bit_or (get_or kids p 0) (2 ^ c)
      → Gathering P (set kids p x) (c + 1)
  unfolding hangs_from
  gathering-step {kids} {c} {p} {x} g h e k q =
      record { low = omega arith; turns = omega arith; size = length-set kids p x ∙ g.size; masks = λ i l. go i l (eqb i p) refl }
    where
      some : ltb 0 c ≡ true
      some = lt-ltb 0 c g.low

      go : (i : ℕ) → i < 16 → (b : Bool) → eqb i p ≡ b → get_or (set kids p x) i 0 ≡ mask_below (hangs_from P i) (c + 1)
      go i l true s =
          subst (λ (y : ℕ). get_or (set kids p x) y 0 ≡ mask_below (hangs_from P y) (c + 1)) (sym (eqb-true i p s))
          (set_here kids p x (omega (arith, g.size)) ∙ q ∙ mask-step-in (hangs_from P p) c (get_or kids p 0) (g.masks p k) (and_intro some (eq-eqb (pattern_parent P c) p (sym e))))
      go i l false s =
          let ne : (i ≡ p) → ⊥ = eqb-false i p s in
          set_else kids p x i ne
          ∙ mask-step-out (hangs_from P i) c (get_or kids i 0) (g.masks i l)
          (ap (λ (b : Bool). b && eqb (pattern_parent P c) i) some ∙ ne_eqb (pattern_parent P c) i (λ r. ne (sym (e ∙ r))))

  pub gathering-end : {kids : List ℕ} {c : ℕ} → Gathering P kids c → length P ≤ c → kids ≡ kid_masks P
  gathering-end {kids} {c} g h =
      let e : c ≡ length P = omega (arith, g.turns) in
      ext_get_or 0 kids (kid_masks P) (g.size ∙ sym (length-kid_masks P))
      (λ p l. (let k : p < 16 = omega (arith, g.size) in g.masks p k ∙ ap (mask_below (hangs_from P p)) e ∙ sym (get_or-kid_masks P p k)))
