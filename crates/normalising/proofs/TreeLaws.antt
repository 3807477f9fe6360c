-- A tree's rows: each node's entry, at a depth one more than its parent's; and a subtree's row that goes into its parent's, as the
-- model's subtrees do. Assumes nothing.
use Prim.Native.Nat.{ℕ, suc, ◌+◌, ◌≤◌, ◌<◌}
use mathlib.Core.Path.{◌≡◌, sym, ap, ap₂, ◌∙◌}
use mathlib.Core.List.{List, [], ◌∷◌, ◌++◌}
use mathlib.Core.Bool.{true, false}
use mathlib.Core.Logic.{⊎_elim}
use native.Mathlib.Omega.{arith}
use native.Mathlib.Numerals.{add-one}
use lib.Dec.{eqb}
use lib.ListN.{length, get_or, take, drop, set, length-append, length-map, length-set, length-drop, take-append-drop}
use lib.Seq.{get_or-set_same, get_or-set_other, get_or-take, get_or-drop, set-append_left, length-take-le}
use Rattle.std.proofs.lemmas.List.{get_or_read}
use borrow.Author.Tests.{eqb-true, eqb-false}
use Rattle.model.specs.Pattern.{Pattern, IsPatternTree, pattern_parent, no_pattern_record}
use Rattle.model.specs.Normal.{Entry, no_entry, depth_of, entry_at, entries, by_subtree, listed}
use Rattle.model.specs.Gathering.{gathered, place_in, joined}
use Rattle.model.proofs.ListLaws.{true-or-false}
use Rattle.model.proofs.Preorder.{depth-root, depth-child, depth_small}
use Rattle.model.proofs.Gathering.{gathered-start, gathered-whole, gathered-other, gathered-own}
use Rattle.model.proofs.Numbering.{gathered-length}
use Rattle.normalising.specs.Trees.{entry_with, Loaded}

-- equal or not
pub same-or-other : {C : Type 0} (a b : ℕ) → (a ≡ b → C) → ((a ≡ b → ⊥) → C) → C
same-or-other {C} a b f g = ⊎_elim (λ (t : eqb a b ≡ true). f (eqb-true a b t)) (λ (t : eqb a b ≡ false). g (eqb-false a b t)) (true-or-false (eqb a b))

module _ {P : Pattern} (tree : IsPatternTree P) where
  -- ---- the rows of single entries

  pub loading-start : (rows : List (List Entry)) {e : Entry} → length P ≤ length rows → e ≡ entry_with 0 (get_or P 0 no_pattern_record) → Loaded P (set rows 0 (e ∷ [])) 1
  loading-start rows {e} room own =
      record {
        size = omega (arith, length-set rows 0 (e ∷ []));
        own = λ i h.
            let z : i ≡ 0 = omega arith in
            ap (λ (j : ℕ). get_or (set rows 0 (e ∷ [])) j []) z ∙ get_or-set_same rows 0 (e ∷ []) [] (omega (arith, room, tree.inhabited))
            ∙ ap (λ (x : Entry). x ∷ []) (own ∙ ap (λ (d : ℕ). entry_with d (get_or P 0 no_pattern_record)) (sym (depth-root P)) ∙ ap (entry_at P) (sym z));
      }

  module _ {rows : List (List Entry)} {i p : ℕ} (w : Loaded P rows i) (some : 0 < i) (h : i < length P) (ep : p ≡ pattern_parent P i) where
    lower : p < i
    lower = let l : pattern_parent P i < i = tree.earlier i some h in omega arith

    -- the parent's row stands, and its only entry is the parent's
    parent-row : get_or rows p [] ≡ entry_at P p ∷ []
    parent-row = w.own p lower

    parent-there : p < length rows
    parent-there = omega (arith, lower, w.size)

    pub parent-entry : {row es : List Entry} {a : Entry} → row ≡ get_or rows p row → es ≡ get_or rows p row → a ≡ get_or es 0 a → a ≡ entry_at P p
    parent-entry {row} {es} {a} r e i =
        let own : es ≡ entry_at P p ∷ [] = e ∙ sym r ∙ get_or_read rows p row parent-there r [] ∙ parent-row in
        get_or_read es 0 a (omega (arith, ap length own)) i no_entry ∙ ap (λ (x : List Entry). get_or x 0 no_entry) own

    module _ {above : Entry} (ea : above ≡ entry_at P p) where
      pub depth-fits : length P ≤ 64 → above.depth < 64
      depth-fits few =
          let d : above.depth ≡ depth_of P p = ap (λ (x : Entry). x.depth) ea in
          let s : depth_of P p ≤ p = depth_small P tree p (omega (arith, lower)) in
          omega (arith, lower)

      pub loading_step : {e : Entry} → e ≡ entry_with (above.depth + 1) (get_or P i no_pattern_record) → Loaded P (set rows i (e ∷ [])) (i + 1)
      loading_step {e} own =
          record {
            size = omega (arith, w.size, length-set rows i (e ∷ []));
            own = λ j l. same-or-other j i
                (λ z. ap (λ (x : ℕ). get_or (set rows i (e ∷ [])) x []) z ∙ get_or-set_same rows i (e ∷ []) [] (omega (arith, w.size)) ∙ ap (λ (x : Entry). x ∷ []) (here ∙ ap (entry_at P) (sym z)))
                (λ n. let less : j < i = omega arith in get_or-set_other rows i j (e ∷ []) [] n ∙ w.own j less);
          }
        where
          deep : above.depth + 1 ≡ depth_of P i
          deep = add-one above.depth ∙ ap suc (ap (λ (x : Entry). x.depth) ea ∙ ap (depth_of P) ep) ∙ sym (depth-child P tree i some h)

          here : e ≡ entry_at P i
          here = own ∙ ap (λ (x : ℕ). entry_with x (get_or P i no_pattern_record)) deep

-- ---- the rows that are gathered: the subtrees from number k on have gone to their parents

pub record Gathering (P : Pattern) (rows : List (List Entry)) (k : ℕ) : Type 0 where
  pub some : 0 < k
  pub turns : k ≤ length P
  pub size : length P ≤ length rows
  pub row : (i : ℕ) → i < k → get_or rows i [] ≡ entries P (gathered P k i)

length-joined : (r s : List Entry) → length (joined r s) ≡ length s + length r
unfolding joined
length-joined r s =
    let m : ℕ = place_in r s in
    let e : length (take m s ++ drop m s) ≡ length s = ap length (take-append-drop m s) in
    length-append (take m s) (r ++ drop m s) ∙ omega (arith, length-append r (drop m s), length-append (take m s) (drop m s))

gathered-some : (P : Pattern) (k i : ℕ) → 0 < length (gathered P k i)
unfolding gathered
gathered-some P k i = omega arith

-- a row that is written over, in the front part of the rows
pub set-front : (rows : List (List Entry)) (k p : ℕ) (x : List Entry) → p < k → k ≤ length rows → set (take k rows) p x ++ drop k rows ≡ set rows p x
set-front rows k p x h l =
    sym (set-append_left (take k rows) (drop k rows) p x (omega (arith, length-take-le k rows l))) ∙ ap (λ (r : List (List Entry)). set r p x) (take-append-drop k rows)

-- what is read of the two parts
pub front_row : (rows : List (List Entry)) {k p : ℕ} {front : List (List Entry)} {x : List Entry} → front ≡ take k rows → p < k → k ≤ length rows → x ≡ get_or front p x → get_or front p x ≡ get_or rows p []
front_row rows {k} {p} {front} {x} e h l i =
    sym i ∙ get_or_read front p x (omega (arith, ap length e, length-take-le k rows l)) i [] ∙ ap (λ (r : List (List Entry)). get_or r p []) e ∙ get_or-take k rows p [] h

pub back_row : (rows : List (List Entry)) {k : ℕ} {back : List (List Entry)} {x : List Entry} → back ≡ drop k rows → k < length rows → x ≡ get_or back 0 x → get_or back 0 x ≡ get_or rows k []
back_row rows {k} {back} {x} e h i =
    let z : k + 0 ≡ k = omega arith in
    sym i ∙ get_or_read back 0 x (omega (arith, ap length e, length-drop k rows)) i [] ∙ ap (λ (r : List (List Entry)). get_or r 0 []) e ∙ get_or-drop k rows 0 [] ∙ ap (λ (j : ℕ). get_or rows j []) z

module _ {P : Pattern} (tree : IsPatternTree P) where
  pub gathering-start : {rows : List (List Entry)} → Loaded P rows (length P) → Gathering P rows (length P)
  gathering-start w =
      record {
        some = tree.inhabited;
        turns = omega arith;
        size = w.size;
        row = λ i h. w.own i h ∙ ap (entries P) (sym (gathered-start P i));
      }

  module _ (few : length P ≤ 64) {rows : List (List Entry)} {k p : ℕ} (w : Gathering P rows (suc k)) (some : 0 < k) (ep : p ≡ pattern_parent P k) where
    inside : k < length P
    inside = omega (arith, w.turns)

    pub below : p < k
    below = let l : pattern_parent P k < k = tree.earlier k some inside in omega arith

    abbrev own : List Entry
    own = entries P (gathered P (suc k) k)

    abbrev above : List Entry
    above = entries P (gathered P (suc k) p)

    -- the parent's new row is that of its subtree with one child more
    joined-own : joined own above ≡ entries P (gathered P k p)
    joined-own =
        ap (λ (x : ℕ). joined own (entries P (gathered P (suc k) x))) ep ∙ sym (gathered-own P tree k some inside) ∙ ap (λ (x : ℕ). entries P (gathered P k x)) (sym ep)

    own-row : get_or rows k [] ≡ own
    own-row = w.row k (omega arith)

    above-row : get_or rows p [] ≡ above
    above-row = w.row p (omega (arith, below))

    pub insertable : (0 < length (get_or rows k [])) × (length (get_or rows p []) + length (get_or rows k []) ≤ 64)
    insertable =
        let a : length own ≡ length (gathered P (suc k) k) = length-map (gathered P (suc k) k) (entry_at P) in
        let b : length (entries P (gathered P k p)) ≡ length (gathered P k p) = length-map (gathered P k p) (entry_at P) in (
          omega (arith, ap length own-row, a, gathered-some P (suc k) k),
          omega (arith, ap length own-row, ap length above-row, length-joined own above, ap length joined-own, b, gathered-length P tree k p below (omega (arith, inside)), few),
        )

    pub gathering-step : Gathering P (set rows p (joined (get_or rows k []) (get_or rows p []))) k
    gathering-step =
        record {
          some = some;
          turns = omega (arith, inside);
          size = omega (arith, w.size, length-set rows p (joined (get_or rows k []) (get_or rows p [])));
          row = λ i l. same-or-other i p (here i) (other i l);
        }
      where
        new : List Entry
        new = joined (get_or rows k []) (get_or rows p [])

        here : (i : ℕ) → i ≡ p → get_or (set rows p new) i [] ≡ entries P (gathered P k i)
        here i e =
            ap (λ (x : ℕ). get_or (set rows p new) x []) e ∙ get_or-set_same rows p new [] (omega (arith, below, inside, w.size))
            ∙ ap₂ joined own-row above-row ∙ joined-own ∙ ap (λ (x : ℕ). entries P (gathered P k x)) (sym e)

        other : (i : ℕ) → i < k → (i ≡ p → ⊥) → get_or (set rows p new) i [] ≡ entries P (gathered P k i)
        other i l ne =
            get_or-set_other rows p i new [] ne ∙ w.row i (omega arith)
            ∙ ap (entries P) (sym (gathered-other P k i inside (λ z. ne (sym z ∙ sym ep))))

  pub gathering-end : {rows : List (List Entry)} {k : ℕ} → Gathering P rows k → k ≤ 1 → get_or rows 0 [] ≡ listed by_subtree P
  unfolding listed
  gathering-end {rows} {k} w h =
      let one : k ≡ 1 = omega (arith, w.some) in
      w.row 0 w.some ∙ ap (λ (j : ℕ). entries P (gathered P j 0)) one ∙ ap (entries P) (gathered-whole P tree 0 1 tree.inhabited (omega arith))
