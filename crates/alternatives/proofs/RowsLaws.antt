-- The rows of all members: each is settled by itself, and a whole embedding passes by some member exactly when the root of some member
-- meets by what hangs from it in its row. Assumes nothing.
use Prim.Native.Nat.{ℕ, ◌+◌, ◌≤◌, ◌<◌}
use mathlib.Core.Path.{◌≡◌, sym, ap, ◌∙◌}
use mathlib.Core.List.{List, []}
use native.Mathlib.Omega.{arith}
use lib.ListN.{length, get_or, set, take, replicate, get_or-replicate}
use Rattle.model.specs.Lists.{up_from}
use Rattle.model.specs.Limits.{max_members}
use Rattle.model.specs.Pattern.{Pattern, IsPatternTree, pattern_parent}
use Rattle.model.proofs.ListLaws.{any-agree, up_from-mem}
use Rattle.judging.specs.declared.member.Member.{Member}
use Rattle.judging.specs.declared.masks.Masks.{Masks}
use Rattle.judging.specs.Blocks.{no_member, last_in, sets_in}
use Rattle.judging.specs.Judging.{root_by, judge_by}
use Rattle.judging.specs.Settling.{Lasts, folded_row}
use Rattle.judging.proofs.SettleLaws.{row-whole, row_same, row_kept, row_next, row-start}
use Rattle.alternatives.specs.Alternatives.{met_by_some}
use Rattle.alternatives.specs.Members.{judged_by_some, RowsSettled, RowsFolded, RowsWhole}

module _ (P : Pattern) (tree : IsPatternTree P) {ts : List Member} {m : Masks} where
  pub rows_whole : {q : ℕ} {es : List ℕ} {rows : List (List ℕ)} → RowsSettled ts m P q es rows → q ≡ length P → RowsWhole ts P es rows
  rows_whole s e = record { each = λ i k. row-whole P tree (s.each i k) e }

  pub rows_same : {q : ℕ} {es : List ℕ} {rows : List (List ℕ)} (fs : List ℕ) → q ≤ length P → ((c : ℕ) → c < q → get_or fs c 0 ≡ get_or es c 0) → RowsSettled ts m P q es rows → RowsSettled ts m P q fs rows
  rows_same fs h e s = record { each = λ i k. row_same P tree fs h e (s.each i k) }

  pub rows-kept : {q : ℕ} {es : List ℕ} {rows : List (List ℕ)} (fs : List ℕ) → q ≤ length P → take q fs ≡ take q es → RowsSettled ts m P q es rows → RowsSettled ts m P q fs rows
  rows-kept fs h e s = record { each = λ i k. row_kept P tree fs h e (s.each i k) }

  -- the rows are copied, and what ends with the node just placed is folded in
  pub rows_next : {q : ℕ} (v : ℕ) {es fs : List ℕ} {rows copies after : List (List ℕ)} → q < length P → length P ≤ 16 → RowsSettled ts m P q es rows → fs ≡ set es q v
      → ((i : ℕ) → i < length ts → get_or copies i [] ≡ get_or rows i []) → RowsFolded ts m P q fs copies after → RowsSettled ts m P (q + 1) fs after
  rows_next {q} v {es} {fs} h few s e copied folded =
      record { each = λ i k. row_next P tree v h few (s.each i k) e (folded.each i k ∙ ap (folded_row (sets_in (get_or ts i no_member)) P (last_in m) q fs) (copied i k)) }

  pub rows_start : (es : List ℕ) → Lasts (length P) (pattern_parent P) (last_in m) → length ts ≤ max_members → RowsSettled ts m P 1 es (replicate max_members (replicate 16 0))
  rows_start es L few =
      record { each = λ i k. record { lasts = L; same = get_or-replicate max_members i (replicate 16 0) [] (omega arith) ∙ (row-start {t = get_or ts i no_member} {m = m} P tree es L).same } }

-- by the first column of the rows
pub whole-met : (P : Pattern) (a : List ℕ) {ts : List Member} {es : List ℕ} {rows : List (List ℕ)} → RowsWhole ts P es rows → ((i : ℕ) → i < length ts → get_or a i 0 ≡ get_or (get_or rows i []) 0 0)
    → judged_by_some ts P es ≡ met_by_some ts a
unfolding judged_by_some met_by_some
whole-met P a {ts} {es} w column =
    any-agree (λ i. judge_by (sets_in (get_or ts i no_member)) P es) (λ i. root_by (sets_in (get_or ts i no_member)) (get_or a i 0)) (up_from 0 (length ts))
    (λ i k. (let h : i < length ts = (let u = up_from-mem 0 (length ts) i k in omega arith) in w.each i h ∙ ap (root_by (sets_in (get_or ts i no_member))) (sym (column i h))))
