-- Counts are cut at a cap of 32 bits: each stays at or below it, so two of them multiply in 64 bits; and what a run that skips a count
-- of embeddings comes to. Assumes nothing.
use Prim.Native.Nat.{ℕ, suc, ◌+◌, ◌-◌, ◌*◌, ◌≤◌, ◌<◌, min}
use mathlib.Core.Path.{◌≡◌, refl, sym, ap, ◌∙◌, subst}
use mathlib.Core.Bool.{Bool, true, false}
use mathlib.Core.List.{List, [], ◌∷◌}
use native.Mathlib.Nat.{min-le_left}
use lib.Dec.{eqb, ltb}
use lib.ListN.{length, get_or, set}
use lib.Seq.{set_out, get_or-set_same, get_or-set_other}
use borrow.Author.Tests.{eqb-true, eqb-false, ltb-true, ltb-false, lt-ltb, le-ltb}
use Rattle.model.specs.Lists.{up_from, has}
use Rattle.model.specs.Pattern.{Pattern, pattern_parent}
use Rattle.model.specs.Verdict.{Progress, going, halted}
use Rattle.model.specs.Skipping.{skip}
use Rattle.judging.specs.declared.masks.Masks.{Masks}
use Rattle.judging.specs.Blocks.{cell, cap_in}
use Rattle.judging.specs.Room.{Capped}
use Rattle.judging.specs.Stepping.{Candidates}
use Rattle.judging.specs.Skipping.{loop, join_at, plus_up_to, times_up_to, child_turn, child_loop, times_by, own_ways, below_ways, left_turn}

-- ---- counts stay below the cap

-- a turn over a node's children, and over the nodes left
pub child-capped : (K : ℕ) (P : Pattern) (t : List ℕ) (c y acc d : ℕ) {r : ℕ} → r ≡ child_turn (times_up_to K) P t c y acc d → acc ≤ K → r ≤ K
unfolding child_turn
child-capped K P t c y acc d p h = subst (λ (n : ℕ). n ≤ K) (sym p) (go (eqb (pattern_parent P d) c))
  where
    go : (b : Bool) → (elim b as (λ _. ℕ) [ true ↦ min K (acc * get_or t (cell d y) 0) | false ↦ acc ]) ≤ K
    go true = min-le_left K (acc * get_or t (cell d y) 0)
    go false = h

pub left-capped : (K : ℕ) (P : Pattern) (counts es : List ℕ) (q acc c : ℕ) {r : ℕ} → r ≡ left_turn K P counts q es acc c → acc ≤ K → r ≤ K
unfolding left_turn
left-capped K P counts es q acc c p h = subst (λ (n : ℕ). n ≤ K) (sym p) (go (ltb (pattern_parent P c) q))
  where
    go : (b : Bool) → (elim b as (λ _. ℕ) [ true ↦ min K (acc * get_or counts (cell c (get_or es (pattern_parent P c) 0)) 0) | false ↦ acc ]) ≤ K
    go true = min-le_left K (acc * get_or counts (cell c (get_or es (pattern_parent P c) 0)) 0)
    go false = h

-- the whole loop over children
loop-capped : {K : ℕ} (turn : ℕ → ℕ → ℕ) → ((acc d : ℕ) → acc ≤ K → turn acc d ≤ K) → (xs : List ℕ) (acc : ℕ) → acc ≤ K → loop turn acc xs ≤ K
unfolding loop
loop-capped turn one [] acc h = h
loop-capped turn one (x ∷ xs) acc h = loop-capped turn one xs (turn acc x) (one acc x h)

pub times_capped : (K : ℕ) (P : Pattern) (t : List ℕ) (c y : ℕ) {r : ℕ} → r ≡ times_by K P t c y → 0 < K → r ≤ K
unfolding times_by child_loop
times_capped K P t c y p h =
    subst (λ (n : ℕ). n ≤ K) (sym p) (loop-capped (child_turn (times_up_to K) P t c y) (λ acc d l. child-capped K P t c y acc d refl l) (up_from (suc c) (length P - suc c)) 1 h)

-- one joined
pub count-joined : (i n : ℕ) (m : Masks) → i < 1024 → Capped m → Capped (record m { counts = join_at (plus_up_to (cap_in m)) i n m.counts })
unfolding join_at
count-joined i n m l R =
    record {
      some = R.some;
      small = R.small;
      bounded = λ j h. go j h (eqb j i) refl (ltb i (length m.counts)) refl;
    }
  where
    K : ℕ
    K = cap_in m

    v : ℕ
    v = min K (get_or m.counts i 0 + n)

    go : (j : ℕ) → j < 1024 → (b : Bool) → eqb j i ≡ b → (t : Bool) → ltb i (length m.counts) ≡ t → get_or (set m.counts i v) j 0 ≤ K
    go j h true q true t =
        subst (λ (k : ℕ). get_or (set m.counts i v) k 0 ≤ K) (sym (eqb-true j i q))
        (subst (λ (k : ℕ). k ≤ K) (sym (get_or-set_same m.counts i v 0 (ltb-true i (length m.counts) t))) (min-le_left K (get_or m.counts i 0 + n)))
    go j h true q false t = subst (λ (u : List ℕ). get_or u j 0 ≤ K) (sym (set_out m.counts i v (ltb-false i (length m.counts) t))) (R.bounded j h)
    go j h false q t p = subst (λ (k : ℕ). k ≤ K) (sym (get_or-set_other m.counts i j v 0 (eqb-false j i q))) (R.bounded j h)

-- ---- what is handed up

module _ (K : ℕ) (P : Pattern) (M : Candidates) (c : ℕ) (t : List ℕ) (y : ℕ) where
  abbrev own-by : Bool → ℕ
  own-by b = elim b as (λ _. ℕ) [ true ↦ times_by K P t c y | false ↦ 0 ]

  pub own-yes : {n : ℕ} → has (M.parts c) y ≡ true → n ≡ times_by K P t c y → n ≡ own_ways K P M c t y
  unfolding own_ways
  own-yes e p = p ∙ sym (ap own-by e)

  pub own-no : has (M.parts c) y ≡ false → 0 ≡ own_ways K P M c t y
  unfolding own_ways
  own-no e = sym (ap own-by e)

module _ (c : ℕ) (t : List ℕ) (y : ℕ) where
  abbrev below_at : Bool → ℕ
  below_at b = elim b as (λ _. ℕ) [ true ↦ get_or t (cell c y) 0 | false ↦ 0 ]

  pub below-yes : {far : Bool} {n : ℕ} → far ≡ true → n ≡ get_or t (cell c y) 0 → n ≡ below_ways far c t y
  unfolding below_ways
  below-yes e p = p ∙ sym (ap below_at e)

  pub below-no : {far : Bool} → far ≡ false → 0 ≡ below_ways far c t y
  unfolding below_ways
  below-no e = sym (ap below_at e)

-- ---- a skip

module _ (left tried n : ℕ) where
  abbrev by-test : Bool → Progress
  by-test b = elim b as (λ _. Progress) [ true ↦ halted (tried + left) | false ↦ going (left - n) (tried + n) ]

  -- the limit is met among the skipped
  pub skip_stop : left < n → halted (tried + left) ≡ skip left tried n
  unfolding skip
  skip_stop h = sym (ap by-test (lt-ltb left n h))

  -- or they are counted
  pub skip-go : n ≤ left → going (left - n) (tried + n) ≡ skip left tried n
  unfolding skip
  skip-go h = sym (ap by-test (le-ltb left n h))
