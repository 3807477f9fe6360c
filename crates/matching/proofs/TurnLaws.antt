-- Laws of one turn of the passes over a tree, by cases on whether the node is the root, and of the tables that the turns store to.
-- Assumes nothing.
use Prim.Native.Nat.{ℕ, ◌+◌, ◌≤◌, ◌<◌}
use mathlib.Core.Path.{◌≡◌, refl, sym, ap, ap₂, ◌∙◌, subst}
use mathlib.Core.Bool.{Bool, true, false}
use mathlib.Core.List.{List, map}
use native.Mathlib.Omega.{arith}
use lib.Bits.{bit_and, bit_or}
use lib.Dec.{eqb, ltb}
use lib.ListN.{length, get_or, set, replicate, length-replicate, get_or-replicate, get_or-eq_default}
use lib.Seq.{ext_get_or, get_or-set_same, get_or-set_other}
use borrow.Author.Tests.{eqb-true, eqb-false, eq-eqb, ne_eqb, ltb-true, ltb-false}
use Rattle.model.specs.Lists.{up_from, mask_below}
use Rattle.model.specs.Tree.{Document, parent_of, label_of, figure_of}
use Rattle.model.specs.Bytes.{written_at_front}
use Rattle.model.proofs.ListLaws.{length-map-up_from}
use Rattle.model.proofs.Bytes.{front_length, front-after}
use Rattle.format.proofs.RangeLaws.{get_or-map-below}
use Rattle.format.proofs.FrontLaws.{front-get_or}
use Rattle.matching.specs.declared.wanted.Wanted.{Wanted}
use Rattle.matching.specs.Wanted.{fits_by}
use Rattle.matching.specs.Tables.{offer_up, settle_at, left_at}

module _ (u v offer : ℕ) (t : List ℕ) where
  pub offer_up-root : v ≡ 0 → offer_up u v offer t ≡ t
  unfolding offer_up
  offer_up-root e = rw (eq-eqb v 0 e, offer_up)

  pub offer_up-parent : (v ≡ 0 → ⊥) → offer_up u v offer t ≡ set t u (bit_or (get_or t u 0) offer)
  unfolding offer_up
  offer_up-parent e = rw (ne_eqb v 0 e, offer_up)

-- what the code stores, with the label, the figure and the mask that it reads
pub settle-stored : (W : Document) (w : Wanted) (v : ℕ) (t : List ℕ) {t' : List ℕ} {fit deep label figure : ℕ}
    → t' ≡ offer_up (parent_of W v) v (bit_or fit (bit_and deep (get_or t v 0))) (set t v fit) → fit ≡ mask_below (fits_by w label figure (v + 1) (get_or t v 0)) w.count
    → label ≡ label_of W v → figure ≡ figure_of W v → deep ≡ w.deep → t' ≡ settle_at W w v t
unfolding settle_at
settle-stored W w v t {t'} {fit} {deep} e f l g d = e ∙ (λ i. offer_up (parent_of W v) v (bit_or (same i) (bit_and (d i) (get_or t v 0))) (set t v (same i)))
  where
    same : fit ≡ mask_below (fits_by w (label_of W v) (figure_of W v) (v + 1) (get_or t v 0)) w.count
    same = f ∙ ap₂ (λ (m n : ℕ). mask_below (fits_by w m n (v + 1) (get_or t v 0)) w.count) l g

module _ (u v : ℕ) (left : List ℕ) where
  pub left_at-root : v ≡ 0 → left_at u v left ≡ 1
  unfolding left_at
  left_at-root e = rw (eq-eqb v 0 e, left_at)

  pub left_at-parent : (v ≡ 0 → ⊥) → left_at u v left ≡ get_or left u 0
  unfolding left_at
  left_at-parent e = rw (ne_eqb v 0 e, left_at)

-- ---- what stands at the front of a table

-- a table is written at the front where it has the entries and the rest is kept
pub at_front_lem : (w b t : List ℕ) → length w ≤ length b → length t ≡ length b → ((i : ℕ) → i < length w → get_or t i 0 ≡ get_or w i 0)
    → ((i : ℕ) → length w ≤ i → get_or t i 0 ≡ get_or b i 0) → t ≡ written_at_front w b
at_front_lem w b t room size front rest =
    ext_get_or 0 t (written_at_front w b) (size ∙ sym (front_length w b room)) (λ i h. go i (ltb i (length w)) refl)
  where
    go : (i : ℕ) (s : Bool) → ltb i (length w) ≡ s → get_or t i 0 ≡ get_or (written_at_front w b) i 0
    go i true e = let h : i < length w = ltb-true i (length w) e in front i h ∙ sym (front-get_or w b i 0 h)
    go i false e = let h : length w ≤ i = ltb-false i (length w) e in rest i h ∙ sym (front-after w b i 0 h)

-- entries that are f's before the n-th, and the others b's
pub entries-front : (f : ℕ → ℕ) (n : ℕ) (b t : List ℕ) → n ≤ length b → length t ≡ length b → ((v : ℕ) → v < n → get_or t v 0 ≡ f v)
    → ((v : ℕ) → n ≤ v → get_or t v 0 ≡ get_or b v 0) → t ≡ written_at_front (map f (up_from 0 n)) b
entries-front f n b t room size front rest =
    let len : length (map f (up_from 0 n)) ≡ n = length-map-up_from f 0 n in
    at_front_lem (map f (up_from 0 n)) b t (omega arith) size
    (λ v h. (let l : v < n = omega arith in front v l ∙ sym (get_or-map-below f n v 0 l))) (λ v h. rest v (omega arith))

-- and back: an entry of such a table
pub front-entry : (f : ℕ → ℕ) (n : ℕ) (b : List ℕ) {t : List ℕ} → t ≡ written_at_front (map f (up_from 0 n)) b → (v : ℕ) → v < n → get_or t v 0 ≡ f v
front-entry f n b e v h =
    ap (λ (l : List ℕ). get_or l v 0) e ∙ front-get_or (map f (up_from 0 n)) b v 0 (omega (arith, length-map-up_from f 0 n)) ∙ get_or-map-below f n v 0 h

pub front-after-entry : (f : ℕ → ℕ) (n : ℕ) (b : List ℕ) {t : List ℕ} → t ≡ written_at_front (map f (up_from 0 n)) b → (v : ℕ) → n ≤ v → get_or t v 0 ≡ get_or b v 0
front-after-entry f n b e v h = ap (λ (l : List ℕ). get_or l v 0) e ∙ front-after (map f (up_from 0 n)) b v 0 (omega (arith, length-map-up_from f 0 n))

pub front-size : (f : ℕ → ℕ) (n : ℕ) (b : List ℕ) {t : List ℕ} → n ≤ length b → t ≡ written_at_front (map f (up_from 0 n)) b → length t ≡ length b
front-size f n b h e = ap length e ∙ front_length (map f (up_from 0 n)) b (omega (arith, length-map-up_from f 0 n))

-- a table of zeros
pub zeros-at : (k i : ℕ) → get_or (replicate {A = ℕ} k 0) i 0 ≡ 0
zeros-at k i = go (ltb i k) refl
  where
    go : (b : Bool) → ltb i k ≡ b → get_or (replicate {A = ℕ} k 0) i 0 ≡ 0
    go true e = get_or-replicate {A = ℕ} k i 0 0 (ltb-true i k e)
    go false e = get_or-eq_default (replicate {A = ℕ} k 0) 0 (omega (arith, length-replicate {A = ℕ} k 0, ltb-false i k e))

-- the entry of v, and no other, becomes x
pub set_here : (t : List ℕ) (v x : ℕ) → v < length t → get_or (set t v x) v 0 ≡ x
set_here t v x h = get_or-set_same t v x 0 h

pub set_else : (t : List ℕ) (v x w : ℕ) → (w ≡ v → ⊥) → get_or (set t v x) w 0 ≡ get_or t w 0
set_else t v x w ne = get_or-set_other t v w x 0 ne

-- a property of the entries before v, and of v's, is one of those before v + 1
pub up_to : (P : ℕ → Type 0) (v : ℕ) → P v → ((w : ℕ) → (w ≡ v → ⊥) → w < v → P w) → (w : ℕ) → w < v + 1 → P w
up_to P v here rest w h = go (eqb w v) refl
  where
    go : (b : Bool) → eqb w v ≡ b → P w
    go true e = subst P (sym (eqb-true w v e)) here
    go false e = let ne : (w ≡ v) → ⊥ = eqb-false w v e in rest w ne (omega arith)
