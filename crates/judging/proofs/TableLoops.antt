-- The loops that fill and read the table of counts: over a range, over rows from the last on. Assumes nothing.
use Prim.Native.Nat.{ℕ, suc, ◌+◌, ◌-◌, ◌*◌, ◌≤◌, ◌<◌, min}
use mathlib.Core.Path.{◌≡◌, refl, sym, ap, ap₂, ◌∙◌, subst}
use mathlib.Core.Bool.{Bool, true, false}
use mathlib.Core.List.{List}
use native.Mathlib.Omega.{arith}
use native.Mathlib.Numerals.{add-one}
use lib.ListN.{length, get_or}
use borrow.Author.Tests.{eq-eqb, ne_eqb, lt-ltb, le-ltb}
use Rattle.model.specs.Lists.{up_from}
use Rattle.model.specs.Pattern.{Pattern, pattern_parent}
use Rattle.judging.specs.Blocks.{cell}
use Rattle.judging.specs.Skipping.{loop, fill_rows, child_turn, child_loop, left_turn, left_by}

-- ---- over a range

-- the numbers before d had their turn, and going on from acc gives the whole
pub record Ranging (turn : ℕ → ℕ → ℕ) (whole m acc d : ℕ) : Type 0 where
  pub top : d ≤ m
  pub same : loop turn acc (up_from d (m - d)) ≡ whole

module _ {turn : ℕ → ℕ → ℕ} where
  ranging-start : {m acc d e : ℕ} → e ≡ d → d ≤ m → Ranging turn (loop turn acc (up_from d (m - d))) m acc e
  ranging-start {m} {acc} {d} {e} p h = record { top = omega arith; same = ap (λ (i : ℕ). loop turn acc (up_from i (m - i))) p }

  pub ranging-step : {whole m acc d acc' : ℕ} → Ranging turn whole m acc d → d < m → acc' ≡ turn acc d → Ranging turn whole m acc' (d + 1)
  unfolding loop up_from
  ranging-step {whole} {m} {acc} {d} {acc'} v h e =
      let n : m - d ≡ suc (m - (d + 1)) = omega arith in
      record {
        top = omega arith;
        same =
            ap₂ (λ (a i : ℕ). loop turn a (up_from i (m - (d + 1)))) e (add-one d)
            ∙ sym (ap (λ (k : ℕ). loop turn acc (up_from d k)) n) ∙ v.same;
      }

  pub ranging-end : {whole m acc d : ℕ} → Ranging turn whole m acc d → m ≤ d → acc ≡ whole
  unfolding loop up_from
  ranging-end {whole} {m} {acc} {d} v h =
      let n : 0 ≡ m - d = omega arith in
      ap (λ (k : ℕ). loop turn acc (up_from d k)) n ∙ v.same

-- over the children of a node
pub child-start : (join : ℕ → ℕ → ℕ) (start : ℕ) (P : Pattern) (t : List ℕ) (c y : ℕ) {m : ℕ} → m ≡ length P → c < length P → Ranging (child_turn join P t c y) (child_loop join start P t c y) m start (c + 1)
unfolding child_loop
child-start join start P t c y e h = subst (λ (n : ℕ). Ranging (child_turn join P t c y) (child_loop join start P t c y) n start (c + 1)) (sym e) (ranging-start (add-one c) h)

-- over the nodes left
pub left-start : (K : ℕ) (P : Pattern) (counts : List ℕ) (q : ℕ) (es : List ℕ) {m : ℕ} → m ≡ length P → q ≤ length P → Ranging (left_turn K P counts q es) (left_by K P counts q es) m 1 q
unfolding left_by
left-start K P counts q es e h = subst (λ (n : ℕ). Ranging (left_turn K P counts q es) (left_by K P counts q es) n 1 q) (sym e) (ranging-start refl h)

-- ---- over rows

-- the rows from c on are filled, and going on from t gives the whole
pub record Rowing (row : ℕ → List ℕ → List ℕ) (whole : List ℕ) (c : ℕ) (t : List ℕ) : Type 0 where
  pub low : 0 < c
  pub same : fill_rows row (c - 1) t ≡ whole

module _ {row : ℕ → List ℕ → List ℕ} where
  pub rowing_start : {c : ℕ} {t : List ℕ} → 0 < c → Rowing row (fill_rows row (c - 1) t) c t
  rowing_start h = record { low = h; same = refl }

  pub rowing-step : {whole : List ℕ} {c d : ℕ} {t t' : List ℕ} → Rowing row whole c t → 1 < c → d ≡ c - 1 → t' ≡ row d t → Rowing row whole d t'
  unfolding fill_rows
  rowing-step {whole} {c} {d} {t} {t'} v h e p =
      let n : c - 1 ≡ suc (d - 1) = omega arith in
      let m : d ≡ suc (d - 1) = omega arith in
      record { low = omega arith; same = ap (fill_rows row (d - 1)) (p ∙ ap (λ (i : ℕ). row i t) m) ∙ sym (ap (λ (i : ℕ). fill_rows row i t) n) ∙ v.same }

  pub rowing-end : {whole : List ℕ} {c : ℕ} {t : List ℕ} → Rowing row whole c t → c ≤ 1 → t ≡ whole
  unfolding fill_rows
  rowing-end {whole} {c} {t} v h =
      let l : 0 < c = v.low in
      let n : 0 ≡ c - 1 = omega arith in
      ap (λ (i : ℕ). fill_rows row i t) n ∙ v.same

-- ---- one turn, by its branch

module _ (join : ℕ → ℕ → ℕ) (P : Pattern) (t : List ℕ) (c y acc d : ℕ) where
  pub child-in : {j e : ℕ} → j ≡ pattern_parent P d → j ≡ c → e ≡ get_or t (cell d y) 0 → join acc e ≡ child_turn join P t c y acc d
  unfolding child_turn
  child-in p q e =
      ap (join acc) e ∙ sym (ap (λ (b : Bool). elim b as (λ _. ℕ) [ true ↦ join acc (get_or t (cell d y) 0) | false ↦ acc ]) (eq-eqb (pattern_parent P d) c (sym p ∙ q)))

  pub child-out : {j : ℕ} → j ≡ pattern_parent P d → (j ≡ c → ⊥) → acc ≡ child_turn join P t c y acc d
  unfolding child_turn
  child-out p ne = sym (ap (λ (b : Bool). elim b as (λ _. ℕ) [ true ↦ join acc (get_or t (cell d y) 0) | false ↦ acc ]) (ne_eqb (pattern_parent P d) c (λ e. ne (p ∙ e))))

module _ (K : ℕ) (P : Pattern) (counts : List ℕ) (q : ℕ) (es : List ℕ) (acc c : ℕ) where
  pub left_in_lem : {j x e : ℕ} → j ≡ pattern_parent P c → j < q → x ≡ get_or es j 0 → e ≡ get_or counts (cell c x) 0 → min K (acc * e) ≡ left_turn K P counts q es acc c
  unfolding left_turn
  left_in_lem {j} {x} {e} p l i n =
      ap (λ (v : ℕ). min K (acc * v)) (n ∙ ap (λ (v : ℕ). get_or counts (cell c v) 0) (i ∙ ap (λ (v : ℕ). get_or es v 0) p))
      ∙ sym (ap (λ (b : Bool). elim b as (λ _. ℕ) [ true ↦ min K (acc * get_or counts (cell c (get_or es (pattern_parent P c) 0)) 0) | false ↦ acc ]) (lt-ltb (pattern_parent P c) q (omega arith)))

  pub left_out : {j : ℕ} → j ≡ pattern_parent P c → q ≤ j → acc ≡ left_turn K P counts q es acc c
  unfolding left_turn
  left_out {j} p l = sym (ap (λ (b : Bool). elim b as (λ _. ℕ) [ true ↦ min K (acc * get_or counts (cell c (get_or es (pattern_parent P c) 0)) 0) | false ↦ acc ]) (le-ltb (pattern_parent P c) q (omega arith)))
