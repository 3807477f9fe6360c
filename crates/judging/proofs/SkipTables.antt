-- The table of counts holds what the model says: rows are filled from the last node to the first, so the rows of a node's children are
-- right when its own is filled, by what the summary nodes hand up. Assumes nothing.
use Prim.Native.Nat.{ℕ, zero, suc, ◌+◌, ◌-◌, ◌*◌, ◌≤◌, ◌<◌, min}
use mathlib.Core.Path.{◌≡◌, refl, sym, ap, ◌∙◌, subst}
use mathlib.Core.Bool.{Bool, true, false, ◌&&◌}
use mathlib.Core.List.{List, Memᴰ}
use native.Mathlib.Omega.{arith}
use native.Mathlib.Nat.{one-mul}
use lib.Dec.{eqb, ltb}
use lib.ListN.{length, get_or, set, length-set}
use lib.Seq.{get_or-set_same, get_or-set_other}
use borrow.Author.Tests.{eqb-true, eqb-false, lt-ltb}
use Rattle.model.specs.Lists.{up_from, keep, has, members}
use Rattle.model.specs.Tree.{Document, IsTree, parent_of}
use Rattle.model.specs.Pattern.{Pattern, IsPatternTree, pattern_parent, descends}
use Rattle.model.specs.Embeddings.{edge_test}
use Rattle.model.specs.Skipping.{product_of, sum_of, children_of, ways}
use Rattle.model.proofs.ListLaws.{mem-up_from, up_from-mem, keep-intro}
use Rattle.model.proofs.WaysLaws.{sum-agree, children-later, children-after, ways-equation}
use Rattle.bits.proofs.MaskLaws.{has-none}
use Rattle.judging.specs.Blocks.{cell}
use Rattle.judging.specs.Skipping.{loop, join_at, fill_rows, child_turn, child_loop, times_by, own_ways, below_ways, top_of, ways_turn, ways_row, ways_table}
use Rattle.judging.specs.Stepping.{Candidates, places_by}
use Rattle.judging.proofs.WaysLoop.{top-range}
use Rattle.model.proofs.KeepLaws.{keep-agree, keep-keep}
use Rattle.judging.proofs.RowLaws.{rows-entries, loop-keep, loop-product}
use Rattle.judging.proofs.WaysRow.{unless, sum-keep, total, total-start, total-out, total-in, total-end}

module _ (P : Pattern) (T : IsPatternTree P) where
  -- a loop over the nodes after c that takes the children of c
  child-loop : (places : ℕ → ℕ → List ℕ) (join : ℕ → ℕ → ℕ) (start : ℕ) (t : List ℕ) (c y : ℕ) → c < length P
      → child_loop join start P t c y ≡ loop (λ acc d. join acc (get_or t (cell d y) 0)) start (children_of (length P) (pattern_parent P) c)
  unfolding child_loop child_turn
  child-loop places join start t c y h =
      loop-keep (λ d. eqb (pattern_parent P d) c) (λ acc d. join acc (get_or t (cell d y) 0)) start range
      ∙ ap (loop (λ acc d. join acc (get_or t (cell d y) 0)) start)
      (keep-agree (λ d. eqb (pattern_parent P d) c) (λ d. ltb 0 d && eqb (pattern_parent P d) c) range (λ d k. (let u = up_from-mem (suc c) (length P - suc c) d k in sym (ap (λ (b : Bool). b && eqb (pattern_parent P d) c) (lt-ltb 0 d (omega arith))))) ∙ sym (children-after (length P) (pattern_parent P) places T c h))
    where
      range : List ℕ
      range = up_from (suc c) (length P - suc c)

-- the places of a node from x are those of its paths that its edge reaches from there
module _ (W : Document) (tree : IsTree W) (narrow : length W ≤ 64) (up : ℕ → ℕ) (P : Pattern) (M : Candidates) (R : IsPatternTree P)
    (ups : (b : ℕ) → b < length W → up b ≡ parent_of W b) (inside : (c y : ℕ) → c < length P → Memᴰ y (members (M.parts c)) → y < length W)
    (reach : (c x : ℕ) → c < length P → x < length W → keep (edge_test (descends P c) W x) (members (M.parts c)) ≡ members (places_by P M c x)) where
  abbrev places : ℕ → ℕ → List ℕ
  places c x = members (places_by P M c x)

  up-falls : (b : ℕ) → 0 < b → b < length W → up b < b
  up-falls b z h = subst (λ (a : ℕ). a < b) (sym (ups b h)) (tree.earlier b z h)

  module _ (K : ℕ) (some : 0 < K) where
    abbrev count : ℕ → ℕ → ℕ
    count = ways (length P) (pattern_parent P) places

    -- all below c, where it stands at y
    abbrev times : ℕ → ℕ → ℕ
    times c y = product_of (λ d. count d y) (children_of (length P) (pattern_parent P) c)

    times-right : (c : ℕ) → c < length P → (t : List ℕ) (y : ℕ) → y < length W → ((d x : ℕ) → c < d → d < length P → x < length W → get_or t (cell d x) 0 ≡ min K (count d x)) → times_by K P t c y ≡ min K (times c y)
    unfolding times_by
    times-right c h t y l right =
        let one : 1 ≡ min K 1 = omega arith in
        child-loop P R places (λ acc e. min K (acc * e)) 1 t c y h ∙ ap (λ (a : ℕ). loop (λ acc d. min K (acc * get_or t (cell d y) 0)) a (children_of (length P) (pattern_parent P) c)) one
        ∙ loop-product K (λ d. get_or t (cell d y) 0) (λ d. count d y) 1 (children_of (length P) (pattern_parent P) c) (λ d k. (let r = children-later (length P) (pattern_parent P) places R c d k in right d y r.0 r.1 l))
        ∙ ap (min K) (one-mul (times c y))

    -- ways at y of node c itself
    abbrev own-ways : ℕ → ℕ → ℕ
    own-ways c y = unless (has (M.parts c) y) (times c y)

    beyond : (c : ℕ) → c < length P → (y : ℕ) → y < 64 → length W ≤ y → own-ways c y ≡ 0
    unfolding members
    beyond c h y i l = go (has (M.parts c) y) refl
      where
        go : (b : Bool) → has (M.parts c) y ≡ b → unless b (times c y) ≡ 0
        go true e = let k : y < length W = inside c y h (keep-intro (has (M.parts c)) y (up_from 0 64) (mem-up_from 0 64 y (omega arith) (omega arith)) e) in absurd (omega arith)
        go false e = refl

    module _ (c : ℕ) (h : c < length P) (t₀ : List ℕ) (e : 64 * length P ≤ length t₀)
        (right : (d y : ℕ) → c < d → d < length P → y < length W → get_or t₀ (cell d y) 0 ≡ min K (count d y)) where
      -- what has come to x where the nodes after k have had their turn
      abbrev come : ℕ → ℕ → ℕ
      come = total W tree up ups narrow (descends P c) (own-ways c) (beyond c h)

      -- where the row stands then
      record Handed (k : ℕ) (t : List ℕ) : Type 0 where
        long-t : length t ≡ length t₀
        others : (d y : ℕ) → (d ≡ c → ⊥) → y < length W → get_or t (cell d y) 0 ≡ get_or t₀ (cell d y) 0
        entries : (x : ℕ) → x < length W → get_or t (cell c x) 0 ≡ min K (come k x)

      hand-step : (k : ℕ) (t : List ℕ) → suc k < length W → Handed (suc k) t → Handed k (ways_turn K up P M c (suc k) t)
      unfolding join_at own_ways below_ways
      hand-step k t l v =
          record {
            long-t = length-set t (cell c (up z)) sum ∙ v.long-t;
            others = λ d y ne i. get_or-set_other t (cell c (up z)) (cell d y) sum 0 (λ q. absurd (ne (let f = fall in omega arith))) ∙ v.others d y ne i;
            entries = λ x i. go x i (eqb x (up z)) refl;
          }
        where
          z : ℕ
          z = suc k

          fall : up z < z
          fall = up-falls z (omega arith) l

          handed : ℕ
          handed = min K ((elim (has (M.parts c) z) as (λ _. ℕ) [ true ↦ times_by K P t c z | false ↦ 0 ]) + (elim (descends P c) as (λ _. ℕ) [ true ↦ get_or t (cell c z) 0 | false ↦ 0 ]))

          sum : ℕ
          sum = min K (get_or t (cell c (up z)) 0 + handed)

          own : (b : Bool) → (elim b as (λ _. ℕ) [ true ↦ times_by K P t c z | false ↦ 0 ]) ≡ min K (unless b (times c z))
          own true = times-right c h t z l (λ d y a j i. v.others d y (λ q. omega arith) i ∙ right d y a j i)
          own false = omega arith

          below : (b : Bool) → (elim b as (λ _. ℕ) [ true ↦ get_or t (cell c z) 0 | false ↦ 0 ]) ≡ min K (unless b (come z z))
          below true = v.entries z l
          below false = omega arith

          here : sum ≡ min K (come k (up z))
          here =
              let f = fall in
              let a : (elim (has (M.parts c) z) as (λ _. ℕ) [ true ↦ times_by K P t c z | false ↦ 0 ]) ≡ min K (own-ways c z) = own (has (M.parts c) z) in
              let b : (elim (descends P c) as (λ _. ℕ) [ true ↦ get_or t (cell c z) 0 | false ↦ 0 ]) ≡ min K (unless (descends P c) (come z z)) = below (descends P c) in
              let d : get_or t (cell c (up z)) 0 ≡ min K (come z (up z)) = v.entries (up z) (omega arith) in
              let g : come k (up z) ≡ come z (up z) + (own-ways c z + unless (descends P c) (come z z)) = total-in W tree up ups narrow (descends P c) (own-ways c) (beyond c h) k l in
              omega arith

          go : (x : ℕ) → x < length W → (b : Bool) → eqb x (up z) ≡ b → get_or (set t (cell c (up z)) sum) (cell c x) 0 ≡ min K (come k x)
          go x i true q =
              let s : x ≡ up z = eqb-true x (up z) q in
              let r : cell c (up z) < length t = (let f = fall in let a = v.long-t in omega arith) in
              subst (λ (y : ℕ). get_or (set t (cell c (up z)) sum) (cell c y) 0 ≡ min K (come k y)) (sym s) (get_or-set_same t (cell c (up z)) sum 0 r ∙ here)
          go x i false q =
              let ne : x ≡ up z → ⊥ = eqb-false x (up z) q in
              get_or-set_other t (cell c (up z)) (cell c x) sum 0 (λ r. ne (omega arith)) ∙ v.entries x i
              ∙ ap (min K) (sym (total-out W tree up ups narrow (descends P c) (own-ways c) (beyond c h) k x l ne))

      hand-all : (k : ℕ) (t : List ℕ) → k < length W → Handed k t → Handed 0 (fill_rows (ways_turn K up P M c) k t)
      unfolding fill_rows
      hand-all zero t l v = v
      hand-all (suc k) t l v = hand-all k (ways_turn K up P M c (suc k) t) (omega arith) (hand-step k t l v)

      -- in the end the sum over the places
      come-count : (x : ℕ) → x < length W → come 0 x ≡ count c x
      unfolding members
      come-count x l =
          total-end W tree up ups narrow (descends P c) (own-ways c) (beyond c h) x
          ∙ sum-agree (λ y. unless (edge_test (descends P c) W x y) (own-ways c y)) (λ y. unless (edge_test (descends P c) W x y && has (M.parts c) y) (times c y)) (up_from 0 64)
          (λ y k. both (edge_test (descends P c) W x y) (has (M.parts c) y) (times c y))
          ∙ sym (sum-keep (λ y. edge_test (descends P c) W x y && has (M.parts c) y) (times c) (up_from 0 64))
          ∙ ap (sum_of (times c)) (sym (keep-keep (edge_test (descends P c) W x) (has (M.parts c)) (up_from 0 64)) ∙ reach c x h l)
          ∙ sym (ways-equation (length P) (pattern_parent P) places R c x h)
        where
          both : (a b : Bool) (n : ℕ) → unless a (unless b n) ≡ unless (a && b) n
          both true b n = refl
          both false b n = refl

      -- as a row begins
      begins-handed : (k : ℕ) → ((y : ℕ) → k < y → y < length W → own-ways c y ≡ 0) → ((x : ℕ) → x < length W → get_or t₀ (cell c x) 0 ≡ 0) → Handed k t₀
      begins-handed k none zeros =
          record {
            long-t = refl;
            others = λ d y ne i. refl;
            entries = λ x i. (let z : come k x ≡ 0 = total-start W tree up ups narrow (descends P c) (own-ways c) (beyond c h) k x none in let r : get_or t₀ (cell c x) 0 ≡ 0 = zeros x i in omega arith);
          }

      row-right : ((x : ℕ) → x < length W → get_or t₀ (cell c x) 0 ≡ 0) → Handed 0 (ways_row K up P M (length W) c t₀)
      unfolding ways_row
      row-right zeros = go (eqb (M.parts c) 0) refl
        where
          some-nodes : 0 < length W
          some-nodes = tree.inhabited

          go : (b : Bool) → eqb (M.parts c) 0 ≡ b → Handed 0 (fill_rows (ways_turn K up P M c) ((elim b as (λ _. ℕ) [ true ↦ 1 | false ↦ length W ]) - 1) t₀)
          go true q =
              hand-all 0 t₀ some-nodes (begins-handed 0 (λ y i l. ap (λ (m : ℕ). unless (has m y) (times c y)) (eqb-true (M.parts c) 0 q) ∙ ap (λ (b : Bool). unless b (times c y)) (has-none y)) zeros)
          go false q = let n = some-nodes in hand-all (length W - 1) t₀ (omega arith) (begins-handed (length W - 1) (λ y i l. absurd (omega arith)) zeros)

    -- a row leaves the others alone
    row-long : (c k : ℕ) (t : List ℕ) → length (fill_rows (ways_turn K up P M c) k t) ≡ length t
    unfolding fill_rows join_at
    row-long c zero t = refl
    row-long c (suc k) t = row-long c k (ways_turn K up P M c (suc k) t) ∙ length-set t (cell c (up (suc k))) _

    rows_other : (c k : ℕ) (t : List ℕ) (d y : ℕ) → k < length W → y < length W → (d ≡ c → ⊥) → get_or (fill_rows (ways_turn K up P M c) k t) (cell d y) 0 ≡ get_or t (cell d y) 0
    unfolding fill_rows join_at
    rows_other c zero t d y l i ne = refl
    rows_other c (suc k) t d y l i ne =
        let f : up (suc k) < suc k = up-falls (suc k) (omega arith) l in
        rows_other c k (ways_turn K up P M c (suc k) t) d y (omega arith) i ne ∙ get_or-set_other t (cell c (up (suc k))) (cell d y) _ 0 (λ q. absurd (ne (omega arith)))

    -- the table of counts, each cut at the cap
    pub ways-table : (t : List ℕ) → 64 * length P ≤ length t → ((d y : ℕ) → d < length P → y < length W → get_or t (cell d y) 0 ≡ 0) → (c x : ℕ) → 0 < c → c < length P → x < length W
        → get_or (ways_table K up P M (length W) t) (cell c x) 0 ≡ min K (ways (length P) (pattern_parent P) (λ c x. members (places_by P M c x)) c x)
    unfolding ways_row
    ways-table t long-t begins c x z h l =
        rows-entries (length P) (length W) (ways_row K up P M (length W)) (λ c x. min K (count c x)) (λ c t h. row-long c (top_of (M.parts c) (length W) - 1) t)
        (λ c d y t h l ne. rows_other c (top_of (M.parts c) (length W) - 1) t d y (let r = top-range (M.parts c) (length W) tree.inhabited in omega arith) l ne)
        (λ c x t z h l e right zeros. (row-right c h t e right zeros).entries x l ∙ ap (min K) (come-count c h t e right x l)) t c x long-t begins z h l
