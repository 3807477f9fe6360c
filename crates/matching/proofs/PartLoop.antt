-- The pass from the last node to the first: before turn i, each node from i on holds where parts embed, and each node before i what
-- its children from i on offer. So a node is offered all it can be when its turn comes, since its children stand after it. Assumes
-- nothing.
use Prim.Native.Nat.{ℕ, suc, ◌+◌, ◌-◌, ◌≤◌, ◌<◌}
use mathlib.Core.Path.{◌≡◌, refl, sym, ap, ◌∙◌, subst}
use mathlib.Core.Bool.{Bool, true, false, ◌&&◌, ◌||◌, or_comm}
use mathlib.Core.List.{List}
use native.Mathlib.Omega.{arith}
use lib.Bits.{bit_and, bit_or}
use lib.Dec.{eqb}
use lib.ListN.{length, get_or, set, length-set}
use borrow.Author.Tests.{eqb-true, eqb-false}
use Rattle.model.specs.Lists.{up_from, any_of, mask_below}
use Rattle.model.specs.Tree.{Document, IsTree, parent_of, label_of, figure_of, Child}
use Rattle.model.specs.Pattern.{Pattern}
use Rattle.model.specs.Embeddings.{child_test}
use Rattle.model.specs.Bytes.{written_at_front}
use Rattle.model.proofs.ListLaws.{bool-ext, and_intro, and_left, and_right, any-intro, any-elim, mem-up_from}
use Rattle.model.proofs.TreeLaws.{test-child, child-test, child-lt}
use Rattle.model.proofs.Masks.{mask-none}
use Rattle.bits.proofs.MaskLaws.{mask-agree, mask-or, any-cons}
use Rattle.matching.specs.Matching.{fits_at, offers_at, offered, part_at}
use Rattle.matching.specs.declared.wanted.Wanted.{Wanted}
use Rattle.matching.specs.Wanted.{Wants, pin_of, fits_by}
use Rattle.matching.specs.Tables.{part_table, AllZero, settle_at}
use Rattle.matching.proofs.PartLaws.{offered-elim, offered-intro, part-fits}
use Rattle.matching.proofs.TurnLaws.{offer_up-root, offer_up-parent, entries-front, set_here, set_else}
use Rattle.matching.proofs.WantedLaws.{fits_mask, offers-mask}

-- ---- what the children from i on offer

module _ (Q : Pattern) (W : Document) (pin : ℕ → ℕ → Bool) where
  -- what w offers
  abbrev offering : ℕ → ℕ → Bool
  offering w = offers_at Q W pin w (offered Q W pin w)

  -- w is a child of v and offers p
  child_offers : ℕ → ℕ → ℕ → Bool
  child_offers v p w = child_test W v w && offering w p

  pub offered_from : ℕ → ℕ → ℕ → Bool
  offered_from i v p = any_of (child_offers v p) (up_from i (length W - i))

  -- the children from i on are i, where it is one, and those after it
  from_next : (i v p : ℕ) (b : Bool) → i < length W → child_test W v i ≡ b → offered_from i v p ≡ ((b && offering i p) || offered_from (suc i) v p)
  unfolding offered_from child_offers up_from
  from_next i v p b h e =
      let k : length W - i ≡ suc (length W - suc i) = omega arith in
      ap (λ (n : ℕ). any_of (child_offers v p) (up_from i n)) k ∙ any-cons (child_offers v p) i (up_from (suc i) (length W - suc i))
      ∙ ap (λ (t : Bool). (t && offering i p) || offered_from (suc i) v p) e

  from-none : (v p : ℕ) → offered_from (length W) v p ≡ false
  unfolding offered_from any_of up_from
  from-none v p = let e : length W - length W ≡ 0 = omega arith in ap (λ (n : ℕ). any_of (child_offers v p) (up_from (length W) n)) e

  -- all of a node's children stand after it
  from_all : (v p : ℕ) → IsTree W → offered_from (suc v) v p ≡ offered Q W pin v p
  unfolding offered_from child_offers
  from_all v p t = bool-ext (offered_from (suc v) v p) (offered Q W pin v p) there back
    where
      after : List ℕ
      after = up_from (suc v) (length W - suc v)

      there : any_of (child_offers v p) after ≡ true → offered Q W pin v p ≡ true
      there e =
          let r = any-elim (child_offers v p) after e in
          let w : ℕ = r.0 in
          offered-intro Q W pin v w p t (test-child W v w (and_left (child_test W v w) (offering w p) r.2)) (and_right (child_test W v w) (offering w p) r.2)

      back : offered Q W pin v p ≡ true → any_of (child_offers v p) after ≡ true
      back e =
          let r = offered-elim Q W pin v p t e in
          let a : v < r.0 = child-lt t r.1 in
          let b : r.0 < length W = r.1.inside in
          any-intro (child_offers v p) r.0 after (mem-up_from (suc v) (length W - suc v) r.0 a (omega arith)) (and_intro (child-test r.1) r.2)

-- ---- the invariant

-- nodes from i on are settled
pub record Settling (Q : Pattern) (W : Document) (pin : ℕ → ℕ → Bool) (t₀ t : List ℕ) (i : ℕ) : Type 0 where
  pub turns : i ≤ length W
  pub size : length t ≡ length t₀
  pub settled : (v : ℕ) → i ≤ v → v < length W → get_or t v 0 ≡ mask_below (part_at Q W pin v) (length Q)
  pub waiting : (v : ℕ) → v < i → get_or t v 0 ≡ mask_below (offered_from Q W pin i v) (length Q)
  pub after : (v : ℕ) → length W ≤ v → get_or t v 0 ≡ get_or t₀ v 0

pub settling-start : (Q : Pattern) (W : Document) (pin : ℕ → ℕ → Bool) (t : List ℕ) {n : ℕ} → AllZero t → n ≡ length W → Settling Q W pin t t n
settling-start Q W pin t {n} z e =
    record {
      turns = omega arith;
      size = refl;
      settled = λ v a h. absurd (omega arith);
      waiting =
          λ v h. z v ∙ sym (mask-none (offered_from Q W pin n v) (length Q) (λ p l. ap (λ (i : ℕ). offered_from Q W pin i v p) e ∙ from-none Q W pin v p));
      after = λ v h. refl;
    }

-- ---- one turn

module _ {Q : Pattern} {W : Document} {pin : ℕ → ℕ → Bool} {t₀ t : List ℕ} {v : ℕ} (T : IsTree W) (room : length W ≤ length t₀) (s : Settling Q W pin t₀ t (suc v)) where
  inside : v < length W
  inside = s.turns

  rows : v < length t
  rows = omega (arith, s.size, inside)

  -- what v was offered
  pub settling-offered : get_or t v 0 ≡ mask_below (offered Q W pin v) (length Q)
  settling-offered =
      s.waiting v (omega arith) ∙ mask-agree (offered_from Q W pin (suc v) v) (offered Q W pin v) (length Q) (λ p l. from_all Q W pin v p T)

  -- a node that is not v's parent waits for the same as before
  waits : (w : ℕ) → (w ≡ parent_of W v → ⊥) → mask_below (offered_from Q W pin (suc v) w) (length Q) ≡ mask_below (offered_from Q W pin v w) (length Q)
  waits w ne =
      mask-agree (offered_from Q W pin (suc v) w) (offered_from Q W pin v w) (length Q) (λ p l. sym (from_next Q W pin v w p false inside (none (child_test W w v) refl)))
    where
      none : (b : Bool) → child_test W w v ≡ b → child_test W w v ≡ false
      none true e = absurd (ne (sym (test-child W w v e).is_parent))
      none false e = e

  -- v's parent has v's offer too
  takes : 0 < v → (offer : ℕ) → offer ≡ mask_below (offers_at Q W pin v (offered Q W pin v)) (length Q)
      → bit_or (mask_below (offered_from Q W pin (suc v) (parent_of W v)) (length Q)) offer ≡ mask_below (offered_from Q W pin v (parent_of W v)) (length Q)
  takes z offer e =
      ap (bit_or (mask_below (offered_from Q W pin (suc v) u) (length Q))) e
      ∙ mask-or (offered_from Q W pin (suc v) u) own (length Q)
      ∙ mask-agree (λ p. offered_from Q W pin (suc v) u p || own p) (offered_from Q W pin v u) (length Q)
      (λ p l. or_comm (offered_from Q W pin (suc v) u p) (own p) ∙ sym (from_next Q W pin v u p true inside (child-test c)))
    where
      u : ℕ
      u = parent_of W v

      own : ℕ → Bool
      own = offers_at Q W pin v (offered Q W pin v)

      c : Child W u v
      c = record { not_root = z; inside = inside; is_parent = refl }

  module _ (fit offer : ℕ) (f : fit ≡ mask_below (part_at Q W pin v) (length Q)) (o : offer ≡ mask_below (offers_at Q W pin v (offered Q W pin v)) (length Q)) where
    settled_here : (w : ℕ) → v ≤ w → w < length W → get_or (set t v fit) w 0 ≡ mask_below (part_at Q W pin w) (length Q)
    settled_here w a h = go (eqb w v) refl
      where
        go : (b : Bool) → eqb w v ≡ b → get_or (set t v fit) w 0 ≡ mask_below (part_at Q W pin w) (length Q)
        go true e = subst (λ (x : ℕ). get_or (set t v fit) x 0 ≡ mask_below (part_at Q W pin x) (length Q)) (sym (eqb-true w v e)) (set_here t v fit rows ∙ f)
        go false e =
            let ne : (w ≡ v) → ⊥ = eqb-false w v e in
            set_else t v fit w ne ∙ s.settled w (omega arith) h

    -- the root offers to nobody
    step-root : v ≡ 0 → Settling Q W pin t₀ (set t v fit) v
    step-root z =
        record {
          turns = omega (arith, inside);
          size = length-set t v fit ∙ s.size;
          settled = settled_here;
          waiting = λ w h. absurd (omega arith);
          after = λ w h. set_else t v fit w (λ e. omega (arith, inside)) ∙ s.after w h;
        }

    step-parent : 0 < v → Settling Q W pin t₀ (set (set t v fit) (parent_of W v) (bit_or (get_or (set t v fit) (parent_of W v) 0) offer)) v
    step-parent z =
        record {
          turns = omega (arith, inside);
          size = length-set (set t v fit) u x ∙ length-set t v fit ∙ s.size;
          settled = λ w a h. other w (λ e. omega (arith, before)) ∙ settled_here w a h;
          waiting = λ w h. waiting w h (eqb w u) refl;
          after = λ w h. other w (λ e. omega (arith, before, inside)) ∙ set_else t v fit w (λ e. omega (arith, inside)) ∙ s.after w h;
        }
      where
        u : ℕ
        u = parent_of W v

        x : ℕ
        x = bit_or (get_or (set t v fit) u 0) offer

        before : u < v
        before = T.earlier v z inside

        rows' : u < length (set t v fit)
        rows' = omega (arith, length-set t v fit, before, rows)

        other : (w : ℕ) → (w ≡ u → ⊥) → get_or (set (set t v fit) u x) w 0 ≡ get_or (set t v fit) w 0
        other w ne = set_else (set t v fit) u x w ne

        waiting : (w : ℕ) → w < v → (b : Bool) → eqb w u ≡ b → get_or (set (set t v fit) u x) w 0 ≡ mask_below (offered_from Q W pin v w) (length Q)
        waiting w h true e =
            let a : u < v = before in
            let k : w ≡ u = eqb-true w u e in
            subst (λ (y : ℕ). get_or (set (set t v fit) u x) y 0 ≡ mask_below (offered_from Q W pin v y) (length Q)) (sym k)
            (set_here (set t v fit) u x rows' ∙ ap (λ (y : ℕ). bit_or y offer) (set_else t v fit u (λ q. omega arith) ∙ s.waiting u (omega arith)) ∙ takes z offer o)
        waiting w h false e =
            let ne : (w ≡ u) → ⊥ = eqb-false w u e in
            other w ne ∙ set_else t v fit w (λ q. omega arith) ∙ s.waiting w (omega arith) ∙ waits w ne

-- the turn that the code takes
pub settling-step : {Q : Pattern} {W : Document} {w : Wanted} {t₀ t t' : List ℕ} {i : ℕ} (v : ℕ) → Wants Q w → IsTree W → length W ≤ length t₀
    → Settling Q W (pin_of w W) t₀ t i → i ≡ suc v → t' ≡ settle_at W w v t → Settling Q W (pin_of w W) t₀ t' v
unfolding settle_at
settling-step {Q} {W} {w} {t₀} {t} {t'} {i} v K T room s₀ e new = subst (λ (l : List ℕ). Settling Q W pin t₀ l v) (sym new) (go (eqb v 0) refl)
  where
    pin : ℕ → ℕ → Bool
    pin = pin_of w W

    s : Settling Q W pin t₀ t (suc v)
    s = subst (λ (x : ℕ). Settling Q W pin t₀ t x) e s₀

    acc : get_or t v 0 ≡ mask_below (offered Q W pin v) (length Q)
    acc = settling-offered T room s

    fit : ℕ
    fit = mask_below (fits_by w (label_of W v) (figure_of W v) (v + 1) (get_or t v 0)) w.count

    offer : ℕ
    offer = bit_or fit (bit_and w.deep (get_or t v 0))

    fits : fit ≡ mask_below (fits_at Q W pin v (offered Q W pin v)) (length Q)
    fits = ap (λ (x : ℕ). mask_below (fits_by w (label_of W v) (figure_of W v) (v + 1) x) w.count) acc ∙ fits_mask K W v (offered Q W pin v)

    part : fit ≡ mask_below (part_at Q W pin v) (length Q)
    part = fits ∙ mask-agree (fits_at Q W pin v (offered Q W pin v)) (part_at Q W pin v) (length Q) (λ p l. sym (part-fits Q W pin v p))

    offers : offer ≡ mask_below (offers_at Q W pin v (offered Q W pin v)) (length Q)
    offers = (λ j. bit_or (fits j) (bit_and w.deep (acc j))) ∙ offers-mask K W v pin (offered Q W pin v)

    go : (b : Bool) → eqb v 0 ≡ b → Settling Q W pin t₀ (settle_at W w v t) v
    go true z = rw (offer_up-root (parent_of W v) v offer (set t v fit) (eqb-true v 0 z), settle_at) (step-root T room s fit offer part offers (eqb-true v 0 z))
    go false z =
        let ne : (v ≡ 0) → ⊥ = eqb-false v 0 z in
        rw (offer_up-parent (parent_of W v) v offer (set t v fit) ne, settle_at) (step-parent T room s fit offer part offers (omega arith))

-- the whole table
pub settling-end : {Q : Pattern} {W : Document} {pin : ℕ → ℕ → Bool} {t₀ t : List ℕ} {i : ℕ} → Settling Q W pin t₀ t i → i ≡ 0 → length W ≤ length t₀
    → t ≡ written_at_front (part_table Q W pin) t₀
unfolding part_table
settling-end {Q} {W} {pin} {t₀} {t} s z room =
    entries-front (λ v. mask_below (part_at Q W pin v) (length Q)) (length W) t₀ t room s.size (λ v h. s.settled v (omega arith) h) s.after
