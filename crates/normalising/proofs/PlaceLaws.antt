-- The first place of a list where a row can stand, and the row put in there. Assumes nothing.
use Prim.Native.Nat.{ℕ, suc, ◌+◌, ◌-◌, ◌≤◌, ◌<◌}
use mathlib.Core.Path.{◌≡◌, refl, sym, ap, ap₂, ◌∙◌}
use mathlib.Core.Bool.{Bool, true, false, ◌&&◌}
use mathlib.Core.Logic.{⊎_elim}
use mathlib.Core.List.{List, [], ◌∷◌, ◌++◌, append_assoc}
use native.Mathlib.Omega.{arith}
use native.Mathlib.Numerals.{add-one}
use lib.Dec.{ltb}
use lib.ListN.{length, get_or, set, take, drop, drop_of_length-le, length-drop, length-append, get_or-append}
use lib.Seq.{drop-cons, take_all, take_at, drop_at, take-take, take-suc, drop-drop, length-take-le, get_or-take, get_or-drop, get_or-append-add}
use borrow.Author.Tests.{eq-eqb, ne_eqb, ltb-true, ltb-false}
use Rattle.std.proofs.lemmas.List.{take-append-drop, set-append_right}
use Rattle.std.proofs.lemmas.Slice.{between_is}
use Rattle.model.specs.Normal.{Entry, no_entry, by_subtree}
use Rattle.model.specs.Gathering.{opens, place_in, joined}
use Rattle.model.proofs.ListLaws.{true-or-false}
use Rattle.normalising.specs.Trees.{put_at}

module _ (r s : List Entry) {d e : Entry} (next : d ≡ get_or s 0 no_entry) (root : e ≡ get_or r 0 no_entry) where
  pub opens-no : (d.depth ≡ e.depth → ⊥) → false ≡ opens r s
  unfolding opens
  opens-no f = sym (ap (λ (t : Bool). t && by_subtree r s) (ne_eqb (get_or s 0 no_entry).depth (get_or r 0 no_entry).depth
      (λ z. f (ap (λ (x : Entry). x.depth) next ∙ z ∙ sym (ap (λ (x : Entry). x.depth) root)))))

  pub opens-rest : {t : Bool} → d.depth ≡ e.depth → t ≡ by_subtree r s → t ≡ opens r s
  unfolding opens
  opens-rest z u = u ∙ sym (ap (λ (t : Bool). t && by_subtree r s) (eq-eqb (get_or s 0 no_entry).depth (get_or r 0 no_entry).depth
      (sym (ap (λ (x : Entry). x.depth) next) ∙ z ∙ ap (λ (x : Entry). x.depth) root)))

-- the loop that looks for it: it is not before m
pub record Placing (r s : List Entry) (m : ℕ) : Type 0 where
  pub turns : m ≤ length s
  pub rest : place_in r s ≡ m + place_in r (drop m s)

module _ {r s : List Entry} where
  pub placing-start : Placing r s 0
  placing-start = record { turns = omega arith; rest = omega arith }

  module _ {m : ℕ} (w : Placing r s m) where
    -- what is asked at place m is asked of a part, which is all the rest
    place-there : {t : Bool} → m < length s → t ≡ opens r (take (length s - m) (drop m s))
        → place_in r (drop m s) ≡ elim t as (λ _. ℕ) [ true ↦ 0 | false ↦ suc (place_in r (drop (suc m) s)) ]
    unfolding place_in
    place-there {t} h o =
        let n : length (drop m s) ≤ length s - m = omega (arith, length-drop m s) in
        let c : drop m s ≡ get_or s m no_entry ∷ drop (suc m) s = drop-cons s m no_entry h in
        let p : take (length s - m) (drop m s) ≡ get_or s m no_entry ∷ drop (suc m) s = take_all (length s - m) (drop m s) n ∙ c in
        ap (place_in r) c
        ∙ sym (ap (λ (t : Bool). elim t as (λ _. ℕ) [ true ↦ 0 | false ↦ suc (place_in r (drop (suc m) s)) ]) (o ∙ ap (opens r) p))

    pub placing-step : m < length s → {t : Bool} → t ≡ opens r (take (length s - m) (drop m s)) → t ≡ false → Placing r s (m + 1)
    placing-step h {t} o e =
        let p : place_in r (drop m s) ≡ suc (place_in r (drop (suc m) s)) =
        place-there h o ∙ ap (λ (t : Bool). elim t as (λ _. ℕ) [ true ↦ 0 | false ↦ suc (place_in r (drop (suc m) s)) ]) e in
        let q : place_in r s ≡ m + 1 + place_in r (drop (suc m) s) = omega (arith, w.rest) in
        record { turns = omega arith; rest = q ∙ ap (λ (j : ℕ). m + 1 + place_in r (drop j s)) (sym (add-one m)) }

    pub placing-here : m < length s → {t : Bool} → t ≡ opens r (take (length s - m) (drop m s)) → t ≡ true → (m ≡ place_in r s) × (m ≤ length s)
    placing-here h {t} o e =
        let p : place_in r (drop m s) ≡ 0 = place-there h o ∙ ap (λ (t : Bool). elim t as (λ _. ℕ) [ true ↦ 0 | false ↦ suc (place_in r (drop (suc m) s)) ]) e in
        (omega (arith, w.rest), omega arith)

    pub placing-end : {n : ℕ} → n ≡ length s → n ≤ m → (n ≡ place_in r s) × (n ≤ length s)
    unfolding place_in
    placing-end e h =
        let past : length s ≤ m = omega arith in
        let p : place_in r (drop m s) ≡ 0 = ap (place_in r) (drop_of_length-le s past) in
        (omega (arith, w.rest, w.turns), omega arith)

-- ---- a row goes in at its place, the last entry first

-- places before i are as they were, the others as they are to be
abbrev pub Putting : List Entry → List Entry → ℕ → ℕ → ℕ → List Entry → Type 0
Putting r E at len i now = (at ≤ i) × (i ≤ len + length r) × (now ≡ take i E ++ drop i (put_at r E at len))

module _ (r E : List Entry) {at len : ℕ} (inside : at ≤ len) (fits : len + length r ≤ length E) where
  abbrev rest : List Entry
  rest = take (len - at) (drop at E)

  abbrev past : List Entry
  past = drop (len + length r) E

  abbrev T : List Entry
  T = put_at r E at len

  before-length : length (take at E) ≡ at
  before-length = length-take-le at E (omega arith)

  rest-length : length rest ≡ len - at
  rest-length = length-take-le (len - at) (drop at E) (omega (arith, length-drop at E))

  -- what is behind place `at` of the whole
  behind : (k : ℕ) → drop (at + k) T ≡ drop k (r ++ (rest ++ past))
  behind k =
      sym (drop-drop k at T) ∙ ap (drop k) (drop_at (take at E) (r ++ (rest ++ past)) at before-length)

  pub putting-start : Putting r E at len (len + length r) E
  putting-start =
      let k : len + length r ≡ at + (len - at + length r) = omega arith in
      let j : length (r ++ rest) ≡ len - at + length r = omega (arith, length-append r rest, rest-length) in (
        omega arith,
        omega arith,
        sym (take-append-drop (len + length r) E)
            ∙ ap (λ (l : List Entry). take (len + length r) E ++ l)
            (sym (ap (λ (x : ℕ). drop x T) k ∙ behind (len - at + length r) ∙ ap (drop (len - at + length r)) (sym (append_assoc r rest past)) ∙ drop_at (r ++ rest) past (len - at + length r) j)),
      )

  pub putting-end : {now : List Entry} → Putting r E at len at now → now ≡ T
  putting-end w = w.2 ∙ ap (λ (l : List Entry). l ++ drop at T) (sym (take_at (take at E) (r ++ (rest ++ past)) at before-length)) ∙ take-append-drop at T

  -- entries of the whole
  own-entry : (i : ℕ) → at ≤ i → i < at + length r → get_or T i no_entry ≡ get_or r (i - at) no_entry
  own-entry i a h =
      let e : at + (i - at) ≡ i = omega arith in
      ap (λ (x : ℕ). get_or T x no_entry) (sym e) ∙ sym (get_or-drop at T (i - at) no_entry)
      ∙ ap (λ (l : List Entry). get_or l (i - at) no_entry) (drop_at (take at E) (r ++ (rest ++ past)) at before-length)
      ∙ get_or-append r (rest ++ past) no_entry (i - at) (omega arith)

  rest-entry : (i : ℕ) → at + length r ≤ i → i < len + length r → get_or T i no_entry ≡ get_or E (i - length r) no_entry
  rest-entry i a h =
      let k : ℕ = i - at - length r in
      let e : at + (length r + k) ≡ i = omega arith in
      let j : at + k ≡ i - length r = omega arith in
      let m : k < len - at = omega arith in
      ap (λ (x : ℕ). get_or T x no_entry) (sym e) ∙ sym (get_or-drop at T (length r + k) no_entry)
      ∙ ap (λ (l : List Entry). get_or l (length r + k) no_entry) (drop_at (take at E) (r ++ (rest ++ past)) at before-length)
      ∙ get_or-append-add r (rest ++ past) k no_entry
      ∙ get_or-append rest past no_entry k (omega (arith, rest-length))
      ∙ get_or-take (len - at) (drop at E) k no_entry m
      ∙ get_or-drop at E k no_entry ∙ ap (λ (x : ℕ). get_or E x no_entry) j

  pub putting-step : {now : List Entry} {i : ℕ} {x : Entry} → Putting r E at len i now → at < i → (i - 1 < at + length r → x ≡ get_or r (i - 1 - at) no_entry)
      → (at + length r ≤ i - 1 → x ≡ get_or now (i - 1 - length r) no_entry) → Putting r E at len (i - 1) (set now (i - 1) x)
  putting-step {now} {i} {x} w h own behind-it =
      (omega arith, omega (arith, w.1), stored)
    where
      j : ℕ
      j = i - 1

      long : j < length T
      long = omega (arith, w.1, length-append (take at E) (r ++ (rest ++ past)), length-append r (rest ++ past), length-append rest past, length-drop (len + length r) E, before-length, rest-length)

      old : (k : ℕ) → k < i → get_or now k no_entry ≡ get_or E k no_entry
      old k l =
          let z : length (take i E) ≡ i = length-take-le i E (omega (arith, w.1)) in
          ap (λ (l : List Entry). get_or l k no_entry) w.2 ∙ get_or-append (take i E) (drop i T) no_entry k (omega (arith, z)) ∙ get_or-take i E k no_entry l

      read : x ≡ get_or T j no_entry
      read =
          ⊎_elim (λ (t : ltb j (at + length r) ≡ true). let l = ltb-true j (at + length r) t in own l ∙ sym (own-entry j (omega arith) l))
          (λ (t : ltb j (at + length r) ≡ false). let l = ltb-false j (at + length r) t in behind-it l ∙ old (j - length r) (omega arith) ∙ sym (rest-entry j l (omega (arith, w.1))))
          (true-or-false (ltb j (at + length r)))

      stored : set now j x ≡ take j E ++ drop j T
      stored =
          let up : i ≡ suc j = omega arith in
          let z : length (take j E) ≡ j = length-take-le j E (omega (arith, w.1)) in
          ap₂ (λ (l : List Entry) (v : Entry). set l j v) (w.2 ∙ ap (λ (k : ℕ). take k E ++ drop k T) up) read
          ∙ ap (λ (l : List Entry). set (l ++ drop (suc j) T) j (get_or T j no_entry)) (take-suc E j no_entry (omega (arith, w.1)))
          ∙ ap (λ (l : List Entry). set l j (get_or T j no_entry)) (append_assoc (take j E) (get_or E j no_entry ∷ []) (drop (suc j) T))
          ∙ set-append_right (take j E) (get_or E j no_entry ∷ drop (suc j) T) j j (get_or T j no_entry) z (omega arith)
          ∙ ap (λ (k : ℕ). take j E ++ set (get_or E j no_entry ∷ drop (suc j) T) k (get_or T j no_entry)) (let q : j - j ≡ 0 = omega arith in q)
          ∙ ap (λ (l : List Entry). take j E ++ l) (sym (drop-cons T j no_entry long))

-- so the first ones are the two, joined
pub row-inserted : (r E : List Entry) {at m n : ℕ} → n ≡ length r → at ≤ m → m + length r ≤ length E → at ≡ place_in r (take m E) → take (m + n) (put_at r E at m) ≡ joined r (take m E)
unfolding joined
row-inserted r E {at} {m} {n} size inside fits p =
    let b : length (take at E) ≡ at = length-take-le at E (omega arith) in
    let t : length (take (m - at) (drop at E)) ≡ m - at = length-take-le (m - at) (drop at E) (omega (arith, length-drop at E)) in
    let k : length (take at E ++ (r ++ take (m - at) (drop at E))) ≡ m + n =
    omega (arith, b, t, length-append (take at E) (r ++ take (m - at) (drop at E)), length-append r (take (m - at) (drop at E))) in
    ap (take (m + n)) (ap (λ (l : List Entry). take at E ++ l) (sym (append_assoc r (take (m - at) (drop at E)) (drop (m + length r) E)))
    ∙ sym (append_assoc (take at E) (r ++ take (m - at) (drop at E)) (drop (m + length r) E)))
    ∙ take_at (take at E ++ (r ++ take (m - at) (drop at E))) (drop (m + length r) E) (m + n) k
    ∙ ap₂ (λ (x y : List Entry). x ++ (r ++ y)) (sym (take-take at m E inside)) (between_is E at m)
    ∙ ap (λ (x : ℕ). take x (take m E) ++ (r ++ drop x (take m E))) p
