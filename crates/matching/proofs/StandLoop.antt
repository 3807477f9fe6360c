-- The pass from the root down: before turn i, each node before i holds what stands there in a whole embedding and what it leaves to
-- its children, and each node from i on where parts embed. A node's parent stands before it. Assumes nothing.
use Prim.Native.Nat.{ℕ, ◌+◌, ◌≤◌, ◌<◌}
use mathlib.Core.Path.{◌≡◌, refl, sym, ap, ap₂, ◌∙◌, subst₂}
use mathlib.Core.Bool.{Bool, true, false, ◌&&◌}
use mathlib.Core.List.{List}
use native.Mathlib.Omega.{arith}
use lib.Bits.{bit_and}
use lib.Dec.{eqb}
use lib.ListN.{length, get_or, set, length-set}
use borrow.Author.Tests.{eqb-true, eqb-false}
use Rattle.model.specs.Lists.{mask_below}
use Rattle.model.specs.Tree.{Document, IsTree, parent_of}
use Rattle.model.specs.Pattern.{Pattern}
use Rattle.model.specs.Bytes.{written_at_front}
use Rattle.bits.proofs.MaskLaws.{mask-agree, mask-and, mask-single}
use Rattle.matching.specs.Matching.{part_at, leaves, left_to, stands_at}
use Rattle.matching.specs.declared.wanted.Wanted.{Wanted}
use Rattle.matching.specs.Wanted.{Wants, pin_of}
use Rattle.matching.specs.Tables.{part_table, stand_table, left_at, leave_at}
use Rattle.matching.proofs.Stands.{left-root, left_step}
use Rattle.matching.proofs.TurnLaws.{left_at-root, left_at-parent, entries-front, front-entry, front-after-entry, front-size, set_here, set_else, up_to}
use Rattle.matching.proofs.WantedLaws.{leaves-mask}

-- i nodes are passed; t was t₀, where parts embed, and left is as long as left₀
pub record Descending (Q : Pattern) (W : Document) (pin : ℕ → ℕ → Bool) (t₀ left₀ t left : List ℕ) (i : ℕ) : Type 0 where
  pub turns : i ≤ length W
  pub size : length t ≡ length t₀
  pub left_size : length left ≡ length left₀
  pub stand : (v : ℕ) → v < i → get_or t v 0 ≡ mask_below (stands_at Q W pin v) (length Q)
  pub leave : (v : ℕ) → v < i → get_or left v 0 ≡ mask_below (leaves Q W pin v (left_to Q W pin v)) (length Q)
  pub after : (v : ℕ) → i ≤ v → get_or t v 0 ≡ get_or t₀ v 0

-- ---- one turn

module _ {Q : Pattern} {W : Document} {pin : ℕ → ℕ → Bool} {t₀ left₀ t left : List ℕ} {v : ℕ} (d : Descending Q W pin t₀ left₀ t left v)
    (inside : v < length W) (room : length W ≤ length t₀) (left_room : length W ≤ length left₀) (x y : ℕ)
    (stand : x ≡ mask_below (stands_at Q W pin v) (length Q)) (leave : y ≡ mask_below (leaves Q W pin v (left_to Q W pin v)) (length Q)) where
  row : v < length t
  row = omega (arith, d.size)

  left_row : v < length left
  left_row = omega (arith, d.left_size)

  descending-next : Descending Q W pin t₀ left₀ (set t v x) (set left v y) (v + 1)
  descending-next =
      record {
        turns = omega arith;
        size = length-set t v x ∙ d.size;
        left_size = length-set left v y ∙ d.left_size;
        stand = up_to (λ w. get_or (set t v x) w 0 ≡ mask_below (stands_at Q W pin w) (length Q)) v (set_here t v x row ∙ stand) (λ w ne h. set_else t v x w ne ∙ d.stand w h);
        leave =
            up_to (λ w. get_or (set left v y) w 0 ≡ mask_below (leaves Q W pin w (left_to Q W pin w)) (length Q)) v (set_here left v y left_row ∙ leave)
            (λ w ne h. set_else left v y w ne ∙ d.leave w h);
        after = λ w h. set_else t v x w (λ e. omega arith) ∙ d.after w (omega arith);
      }

-- the turn that the code takes
pub descending-step : {Q : Pattern} {W : Document} {w : Wanted} {left₀ t₀ t left t' left' : List ℕ} {v : ℕ} (may : ℕ) (b : List ℕ) → Wants Q w → IsTree W
    → length W ≤ length b → length W ≤ length left₀ → t₀ ≡ written_at_front (part_table Q W (pin_of w W)) b → Descending Q W (pin_of w W) t₀ left₀ t left v → v < length W
    → may ≡ left_at (parent_of W v) v left → t' ≡ set t v (bit_and may (get_or t v 0)) → left' ≡ set left v (leave_at w may (bit_and may (get_or t v 0)))
    → Descending Q W (pin_of w W) t₀ left₀ t' left' (v + 1)
unfolding part_table stands_at
descending-step {Q} {W} {w} {left₀} {t₀} {t} {left} {t'} {left'} {v} may b K T room left_room front d inside m new left_new =
    subst₂ (λ (k l : List ℕ). Descending Q W pin t₀ left₀ k l (v + 1)) (sym new) (sym left_new)
    (descending-next d inside (omega (arith, front-size parts (length W) b room front)) left_room (bit_and may (get_or t v 0)) (leave_at w may (bit_and may (get_or t v 0))) here leave)
  where
    pin : ℕ → ℕ → Bool
    pin = pin_of w W

    parts : ℕ → ℕ
    parts v = mask_below (part_at Q W pin v) (length Q)

    part : get_or t v 0 ≡ parts v
    part = d.after v (omega arith) ∙ front-entry parts (length W) b front v inside

    by-root : (s : Bool) → eqb v 0 ≡ s → may ≡ mask_below (left_to Q W pin v) (length Q)
    by-root true e =
        let z : v ≡ 0 = eqb-true v 0 e in
        m ∙ left_at-root (parent_of W v) v left z ∙ mask-single (length Q) 0 K.tree.inhabited
        ∙ mask-agree (λ q. eqb q 0) (left_to Q W pin v) (length Q) (λ q h. sym (ap (λ (x : ℕ). left_to Q W pin x q) z ∙ left-root Q W pin q))
    by-root false e =
        let u : ℕ = parent_of W v in
        let ne : (v ≡ 0) → ⊥ = eqb-false v 0 e in
        let z : 0 < v = omega arith in
        m ∙ left_at-parent u v left ne ∙ d.leave u (T.earlier v z inside)
        ∙ mask-agree (leaves Q W pin u (left_to Q W pin u)) (left_to Q W pin v) (length Q) (λ q h. sym (left_step Q W pin v q T z inside))

    left-to : may ≡ mask_below (left_to Q W pin v) (length Q)
    left-to = by-root (eqb v 0) refl

    here : bit_and may (get_or t v 0) ≡ mask_below (λ q. left_to Q W pin v q && part_at Q W pin v q) (length Q)
    here = ap₂ bit_and left-to part ∙ mask-and (left_to Q W pin v) (part_at Q W pin v) (length Q)

    leave : leave_at w may (bit_and may (get_or t v 0)) ≡ mask_below (leaves Q W pin v (left_to Q W pin v)) (length Q)
    leave = ap₂ (leave_at w) left-to here ∙ leaves-mask K W v pin (left_to Q W pin v)

-- the whole table
pub descending-end : {Q : Pattern} {W : Document} {pin : ℕ → ℕ → Bool} {t₀ left₀ t left : List ℕ} {i : ℕ} (b : List ℕ) → Descending Q W pin t₀ left₀ t left i → length W ≤ i
    → length W ≤ length b → t₀ ≡ written_at_front (part_table Q W pin) b → t ≡ written_at_front (stand_table Q W pin) b
unfolding part_table stand_table
descending-end {Q} {W} {pin} {t₀} {left₀} {t} b d h room front =
    entries-front (λ v. mask_below (stands_at Q W pin v) (length Q)) (length W) b t room (d.size ∙ front-size parts (length W) b room front) (λ v l. d.stand v (omega arith))
    (λ v l. d.after v (omega (arith, d.turns)) ∙ front-after-entry parts (length W) b front v l)
  where
    parts : ℕ → ℕ
    parts v = mask_below (part_at Q W pin v) (length Q)
