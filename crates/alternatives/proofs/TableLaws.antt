-- The table of alternatives as it is stored: a cell stands for sets in use, and what is written to one leaves the others. Assumes nothing.
use Prim.Native.Nat.{ℕ, ◌+◌, ◌≤◌, ◌<◌}
use mathlib.Core.Path.{◌≡◌, refl, sym, ap, ap₂, ◌∙◌, subst}
use mathlib.Core.Bool.{Bool, true, false}
use mathlib.Core.List.{List, [], ◌∷◌, ◌++◌}
use native.Mathlib.Omega.{arith}
use lib.Dec.{ltb, eqb}
use lib.ListN.{length, get_or, set, take, drop, replicate, get_or-replicate, get_or-eq_default, get_or-append, length-replicate, length-drop, length-append}
use lib.Seq.{length-take-le, get_or-take, get_or-drop, get_or-append_right, get_or-set_same, get_or-set_other, ext_get_or}
use lib.Pointwise.{pointwise, bytes_decides}
use borrow.Author.Tests.{ltb-true, ltb-false}
use Rattle.std.specs.List.{list_all, zip}
use Rattle.model.proofs.ListLaws.{and_left, and_right}
use Rattle.judging.specs.Blocks.{cell}
use Rattle.alternatives.specs.declared.table.Cell.{Cell}
use Rattle.alternatives.specs.declared.table.Table.{Table}
use Rattle.alternatives.specs.Filled.{no_cell, Filled}
use Rattle.alternatives.specs.Entries.{start_in, many_in, entry_in, Stored, IsBare}

-- cells of which nothing is known
bare-cell : (i : ℕ) → get_or (replicate 1024 no_cell) i no_cell ≡ no_cell
bare-cell i = go (ltb i 1024) refl
  where
    go : (b : Bool) → ltb i 1024 ≡ b → get_or (replicate 1024 no_cell) i no_cell ≡ no_cell
    go true l = get_or-replicate {A = Cell} 1024 i no_cell no_cell (ltb-true i 1024 l)
    go false l =
        let e : length (replicate 1024 no_cell) ≡ 1024 = length-replicate {A = Cell} 1024 no_cell in
        let h : 1024 ≤ i = ltb-false i 1024 l in
        let k : length (replicate 1024 no_cell) ≤ i = omega arith in
        get_or-eq_default (replicate 1024 no_cell) no_cell k

pub filled_none : Filled (replicate 1024 no_cell) 0
filled_none =
    record {
      top = omega arith;
      within = λ i. (let s = ap (λ (k : Cell). k.start) (bare-cell i) in let m = ap (λ (k : Cell). k.many) (bare-cell i) in omega arith);
    }

pub bare_none : (t : Table) → t.cells ≡ replicate 1024 no_cell → IsBare t
unfolding entry_in
bare_none t e =
    record {
      bare = λ c x. ap (λ (k : Cell). length (take k.many (drop k.start t.sets))) (ap (λ (ks : List Cell). get_or ks (cell c x) no_cell) e ∙ bare-cell (cell c x));
    }

-- ---- what is written

-- a cell is written
pub stored-point : (t : Table) (s k : ℕ) {c x i : ℕ} (f : Filled (set t.cells i (record { start = s; many = k })) t.used) → i ≡ cell c x → i < length t.cells
    → Stored c x (take k (drop s t.sets)) t (record { cells = set t.cells i (record { start = s; many = k }); sets = t.sets; used = t.used; filled = f })
unfolding entry_in
stored-point t s k {c} {x} {i} f e h =
    record {
      here = ap (λ (v : Cell). take v.many (drop v.start t.sets)) (ap (λ (j : ℕ). get_or (set t.cells i new) j no_cell) (sym e) ∙ get_or-set_same t.cells i new no_cell h);
      others = λ d y ne. ap (λ (v : Cell). take v.many (drop v.start t.sets)) (get_or-set_other t.cells i (cell d y) new no_cell (λ q. ne (q ∙ e)));
    }
  where
    new : Cell
    new = record { start = s; many = k }

module _ (xs ys zs : List (List ℕ)) (a : ℕ) (h : a ≤ length xs) where
  abbrev whole : List (List ℕ)
  whole = take a xs ++ (ys ++ zs)

  front-long : length (take a xs) ≡ a
  front-long = length-take-le a xs h

  whole-long : length whole ≡ a + (length ys + length zs)
  whole-long = length-append (take a xs) (ys ++ zs) ∙ ap (λ (n : ℕ). n + length (ys ++ zs)) front-long ∙ ap (λ (n : ℕ). a + n) (length-append ys zs)

  -- what is put there stands there
  middle : take (length ys) (drop a whole) ≡ ys
  middle =
      ext_get_or [] (take (length ys) (drop a whole)) ys long
      (λ j l. (let k : j < length ys = subst (λ (n : ℕ). j < n) long l in
      get_or-take (length ys) (drop a whole) j [] k
      ∙ get_or-drop a whole j []
      ∙ get_or-append_right (take a xs) (ys ++ zs) (a + j) [] (let e = front-long in omega arith)
      ∙ ap (λ (i : ℕ). get_or (ys ++ zs) i []) (let e = front-long in omega arith)
      ∙ get_or-append ys zs [] j k))
    where
      long : length (take (length ys) (drop a whole)) ≡ length ys
      long = length-take-le (length ys) (drop a whole) (let e = whole-long in let d = length-drop a whole in omega arith)

  -- what stands before stays
  before : (s m : ℕ) → s + m ≤ a → take m (drop s whole) ≡ take m (drop s xs)
  before s m l =
      ext_get_or [] (take m (drop s whole)) (take m (drop s xs)) (long ∙ sym there)
      (λ j k. (let b : j < m = subst (λ (n : ℕ). j < n) long k in
      get_or-take m (drop s whole) j [] b
      ∙ get_or-drop s whole j []
      ∙ get_or-append (take a xs) (ys ++ zs) [] (s + j) (let e = front-long in omega arith)
      ∙ get_or-take a xs (s + j) [] (omega arith)
      ∙ sym (get_or-take m (drop s xs) j [] b ∙ get_or-drop s xs j [])))
    where
      long : length (take m (drop s whole)) ≡ m
      long = length-take-le m (drop s whole) (let e = whole-long in let d = length-drop s whole in omega arith)

      there : length (take m (drop s xs)) ≡ m
      there = length-take-le m (drop s xs) (let d = length-drop s xs in omega arith)

-- sets are put behind those in use, and a cell is written
pub stored-append : (t mid t' : Table) {c x : ℕ} {list : List (List ℕ)} (ys zs : List (List ℕ)) → mid.cells ≡ t.cells → mid.sets ≡ take t.used t.sets ++ (ys ++ zs) → ys ≡ list → t.used ≤ length t.sets
    → Stored c x (take (length list) (drop t.used mid.sets)) mid t' → Stored c x list t t'
unfolding entry_in
stored-append t mid t' {c} {x} {list} ys zs e q w h S =
    record {
      here =
          S.here ∙ ap (λ (l : List (List ℕ)). take (length l) (drop t.used mid.sets)) (sym w) ∙ ap (λ (l : List (List ℕ)). take (length ys) (drop t.used l)) q
          ∙ middle t.sets ys zs t.used h ∙ w;
      others = λ d y ne.
          S.others d y ne
          ∙ ap (λ (ks : List Cell). take (get_or ks (cell d y) no_cell).many (drop (get_or ks (cell d y) no_cell).start mid.sets)) e
          ∙ ap (λ (l : List (List ℕ)). take (many_in t d y) (drop (start_in t d y) l)) q
          ∙ before t.sets ys zs t.used h (start_in t d y) (many_in t d y) (t.filled.within (cell d y));
    }

-- lists whose sets are equal, one by one, are the same
abbrev pub pair_same : List ℕ × List ℕ → Bool
pair_same p = pointwise eqb p.0 p.1

pub pairs-same : (xs ys : List (List ℕ)) → length xs ≡ length ys → list_all pair_same (zip xs ys) ≡ true → xs ≡ ys
pairs-same [] [] l e = refl
pairs-same [] (y ∷ ys) l e = absurd (omega arith)
pairs-same (x ∷ xs) [] l e = absurd (omega arith)
pairs-same (x ∷ xs) (y ∷ ys) l e =
    let here : pointwise eqb x y ≡ true = and_left (pointwise eqb x y) (list_all pair_same (zip xs ys)) e in
    let there : list_all pair_same (zip xs ys) ≡ true = and_right (pointwise eqb x y) (list_all pair_same (zip xs ys)) e in
    ap₂ (λ (h : List ℕ) (t : List (List ℕ)). h ∷ t) ((bytes_decides x y).0 here) (pairs-same xs ys (omega arith) there)
