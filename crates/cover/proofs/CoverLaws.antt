-- Laws of sets over all members' nodes, and of lists of them: a set is inside another member by member, and a set may leave a list where
-- one inside it is kept. Assumes nothing.
use Prim.Native.Nat.{ℕ, suc, ◌+◌, ◌-◌, ◌*◌, ◌≤◌, ◌<◌}
use mathlib.Core.Path.{◌≡◌, refl, sym, ap, ◌∙◌, subst}
use mathlib.Core.Bool.{Bool, true, false, ◌&&◌, ◌||◌, false≢true}
use mathlib.Core.List.{List, [], ◌∷◌, ◌++◌}
use mathlib.Core.Logic.{◌⊎◌, inl, inr, ⊎_elim}
use native.Mathlib.Omega.{arith}
use native.Mathlib.Nat.{zero-add, add-zero}
use native.Mathlib.Numerals.{add-one}
use lib.Bits.{bit_and, bit_or}
use lib.Count.{ones}
use lib.Dec.{eqb, ltb}
use lib.ListN.{length, get_or, set, take, length-set, length-append, get_or-append, get_or-eq_default}
use lib.Seq.{get_or-set_same, get_or-set_other, get_or-take, get_or-append_seam, length-take-le, take-set-lt, take-take, ext_get_or}
use borrow.Author.Tests.{ltb-true, ltb-false, eqb-true, eqb-false}
use Rattle.std.specs.List.{list_all, list_any, zip}
use Rattle.model.specs.Lists.{has, all_of, up_from}
use Rattle.model.proofs.ListLaws.{and_left, and_right, or_cases, all-below, length-map-up_from, get_or-map-up_from}
use Rattle.bits.proofs.MaskLaws.{has-none, has-or, has-and, subset-members}
use Rattle.cover.specs.Cover.{Inside, Within, Among, Covers, without_set, inside_at, inside_by, each_by, shared_below}

-- ---- two sets, member by member

and-elim : (a b : Bool) → (a && b) ≡ elim a [ true ↦ b | false ↦ false ]
and-elim true b = refl
and-elim false b = refl

-- a set has nodes of its members only
node-member : (a : List ℕ) (i p : ℕ) → has (get_or a i 0) p ≡ true → i < length a
node-member a i p e = go (ltb i (length a)) refl
  where
    go : (b : Bool) → ltb i (length a) ≡ b → i < length a
    go true q = ltb-true i (length a) q
    go false q = absurd (false≢true (sym (has-none p) ∙ ap (λ (x : ℕ). has x p) (sym (get_or-eq_default a 0 (ltb-false i (length a) q))) ∙ e))

pub inside-within : (a b : List ℕ) → inside_by a b ≡ true → Within a b
unfolding inside_by
inside-within a b e n f w =
    record {
      each = λ j p k h.
          w.each j p k
          (subset-members (get_or a j 0) (get_or b j 0)
          (eqb-true (bit_and (get_or a j 0) (get_or b j 0)) (get_or a j 0) (all-below (inside_at a b) (length a) e j (node-member a j p h))) p h);
    }

-- of two masks, what is in the first is in the second
abbrev pub pair_inside : ℕ × ℕ → Bool
pair_inside p = eqb (bit_and p.0 p.1) p.0

-- the test of every pair is the test of every member
pairs-from : (t : ℕ → Bool) (k : ℕ) (a b : List ℕ) → length a ≡ length b → ((i : ℕ) → i < length a → t (k + i) ≡ pair_inside (get_or a i 0, get_or b i 0))
    → list_all pair_inside (zip a b) ≡ all_of t (up_from k (length a))
unfolding all_of up_from
pairs-from t k [] b l e = refl
pairs-from t k (x ∷ a) [] l e = absurd (omega arith)
pairs-from t k (x ∷ a) (y ∷ b) l e =
    let h : t k ≡ pair_inside (x, y) = ap t (sym (add-zero k)) ∙ e 0 (omega arith) in
    let r : list_all pair_inside (zip a b) ≡ all_of t (up_from (suc k) (length a)) = pairs-from t (suc k) a b (omega arith) (λ i j. ap t (omega arith) ∙ e (suc i) (omega arith)) in
    rw (h, r) (and-elim (pair_inside (x, y)) (all_of t (up_from (suc k) (length a))))

pub pairs-inside : (a b : List ℕ) → length a ≡ length b → list_all pair_inside (zip a b) ≡ inside_by a b
unfolding inside_by
pairs-inside a b l = pairs-from (inside_at a b) 0 a b l (λ i h. ap (inside_at a b) (zero-add i))

module _ (op : ℕ → ℕ → ℕ) (a b : List ℕ) where
  abbrev made_at : ℕ → ℕ
  made_at j = op (get_or a j 0) (get_or b j 0)

  -- what is made has 8 masks
  each_long : length (each_by op a b) ≡ 8
  unfolding each_by
  each_long = length-map-up_from made_at 0 8

  each_at : (j : ℕ) → j < 8 → get_or (each_by op a b) j 0 ≡ made_at j
  unfolding each_by
  each_at j h = get_or-map-up_from made_at 0 8 j 0 h ∙ ap made_at (zero-add j)

  -- a node of what is made
  made-node : {r : List ℕ} → r ≡ each_by op a b → (j p : ℕ) → has (get_or r j 0) p ≡ true → has (made_at j) p ≡ true
  made-node {r} e j p h =
      let l : length r ≡ 8 = ap length e ∙ each_long in
      let k : j < length r = node-member r j p h in
      ap (λ (x : ℕ). has x p) (sym (ap (λ (x : List ℕ). get_or x j 0) e ∙ each_at j (omega arith))) ∙ h

-- masks that are made of those of a and b, member by member
pub made-all : (op : ℕ → ℕ → ℕ) (a b : List ℕ) {r : List ℕ} → length r ≡ 8 → ((i : ℕ) → i < 8 → get_or r i 0 ≡ op (get_or a i 0) (get_or b i 0)) → r ≡ each_by op a b
made-all op a b {r} l e = ext_get_or 0 r (each_by op a b) (l ∙ sym (each_long op a b)) (λ j k. e j (omega arith) ∙ sym (each_at op a b j (omega arith)))

module _ {a b r : List ℕ} where
  pub either-covers : r ≡ each_by bit_or a b → (n : ℕ) (f : ℕ → ℕ → Bool) → Inside n a f → Inside n b f → Inside n r f
  either-covers e n f u w =
      record {
        each = λ j p k h.
            ⊎_elim (u.each j p k) (w.each j p k)
            (or_cases (has (get_or a j 0) p) (has (get_or b j 0) p) (sym (has-or (get_or a j 0) (get_or b j 0) p) ∙ made-node bit_or a b e j p h));
      }

  pub common-within : r ≡ each_by bit_and a b → Within r a × Within r b
  common-within e = (
    λ n f w. record { each = λ j p k h. w.each j p k (and_left (has (get_or a j 0) p) (has (get_or b j 0) p) (both j p h)) },
    λ n f w. record { each = λ j p k h. w.each j p k (and_right (has (get_or a j 0) p) (has (get_or b j 0) p) (both j p h)) },
  )
    where
      both : (j p : ℕ) → has (get_or r j 0) p ≡ true → (has (get_or a j 0) p && has (get_or b j 0) p) ≡ true
      both j p h = sym (has-and (get_or a j 0) (get_or b j 0) p) ∙ made-node bit_and a b e j p h

-- ---- how many nodes two sets share

-- n counts the nodes that the sets share, of the members before i
pub record SharedTo (a b : List ℕ) (n i : ℕ) : Type 0 where
  pub top : i ≤ 8
  pub few : n ≤ 64 * i
  pub same : n ≡ shared_below a b i

module _ {a b : List ℕ} where
  pub shared_start : SharedTo a b 0 0
  unfolding shared_below
  shared_start = record { top = omega arith; few = omega arith; same = refl }

  module _ {n i : ℕ} (v : SharedTo a b n i) where
    pub shared_step : {x : ℕ} → i < 8 → x ≡ ones (bit_and (get_or a i 0) (get_or b i 0)) → x ≤ 64 → SharedTo a b (n + x) (i + 1)
    unfolding shared_below
    shared_step {x} h e l =
        let k = v.few in
        record { top = omega arith; few = omega arith; same = rw (add-one, v.same, e) }

    pub shared-end : 8 ≤ i → n ≡ shared_below a b 8
    shared-end h = v.same ∙ ap (shared_below a b) (let l = v.top in let e : i ≡ 8 = omega arith in e)

-- ---- lists of sets

-- at a row of the list a set stands that is offered
among-at : {m : ℕ} {f : ℕ → ℕ → Bool} {sets : List (List ℕ)} {count : ℕ} {a : List ℕ} (k : ℕ) → k < count → get_or sets k [] ≡ a → Inside m a f → Among m sets count f
among-at {m = m} {f = f} k h e w = record { row = k; few = h; inside = subst (λ (x : List ℕ). Inside m x f) (sym e) w }

-- a set at the front, alone
pub front-alone : (sets : List (List ℕ)) (a : List ℕ) → 0 < length sets → take 1 (set sets 0 a) ≡ a ∷ []
front-alone [] a h = absurd (omega arith)
front-alone (x ∷ sets) a h = refl

module _ {m : ℕ} {f : ℕ → ℕ → Bool} where
  -- a set that passes a test says what is inside a
  pub covers-any : (sets : List (List ℕ)) (a : List ℕ) → list_any (λ b. inside_by b a) sets ≡ true → Inside m a f → Covers m sets f
  covers-any [] a e w = absurd (false≢true e)
  covers-any (b ∷ sets) a e w = go (inside_by b a) refl (λ h. covers-any sets a h w)
    where
      go : (t : Bool) → inside_by b a ≡ t → (list_any (λ c. inside_by c a) sets ≡ true → Covers m sets f) → Covers m (b ∷ sets) f
      go true q rest = record { row = 0; few = omega arith; inside = inside-within b a q m f w }
      go false q rest =
          let r = rest (sym (ap (λ (t : Bool). t || list_any (λ c. inside_by c a) sets) q) ∙ e) in
          let k = r.few in
          record { row = suc r.row; few = omega arith; inside = r.inside }

  -- a set is put at the end
  pub covers-push : (sets : List (List ℕ)) (a : List ℕ) → Covers m sets f ⊎ Inside m a f → Covers m (sets ++ a ∷ []) f
  covers-push sets a (inl s) =
      let k = s.few in
      among-at s.row (omega (arith, length-append sets (a ∷ []))) (get_or-append sets (a ∷ []) [] s.row k) s.inside
  covers-push sets a (inr w) = among-at (length sets) (omega (arith, length-append sets (a ∷ []))) (get_or-append_seam sets a [] []) w

  -- the last set takes the place of one that a is inside of
  pub covers-without : (sets : List (List ℕ)) {k : ℕ} {a : List ℕ} → k < length sets → Within a (get_or sets k []) → Covers m sets f → Covers m (without_set sets k) f ⊎ Inside m a f
  covers-without sets {k} {a} h w s = go (eqb s.row k) refl
    where
      n : ℕ
      n = length sets - 1

      last : List ℕ
      last = get_or sets n []

      long : length (take n (set sets k last)) ≡ n
      long = length-take-le n (set sets k last) (omega (arith, length-set sets k last))

      at : (i : ℕ) → i < n → get_or (set sets k last) i [] ≡ get_or sets s.row [] → Covers m (without_set sets k) f
      at i l e = among-at i (omega (arith, l, long)) (get_or-take n (set sets k last) i [] l ∙ e) s.inside

      move : (b : Bool) → eqb s.row n ≡ b → (s.row ≡ k → ⊥) → Covers m (without_set sets k) f
      move true q o =
          let e : s.row ≡ n = eqb-true s.row n q in
          let r = s.few in
          at k (omega arith) (get_or-set_same sets k last [] h ∙ ap (λ (x : ℕ). get_or sets x []) (sym e))
      move false q o =
          let e : s.row ≡ n → ⊥ = eqb-false s.row n q in
          let r = s.few in
          at s.row (omega arith) (get_or-set_other sets k s.row last [] o)

      go : (b : Bool) → eqb s.row k ≡ b → Covers m (without_set sets k) f ⊎ Inside m a f
      go true q = inr (w m f (subst (λ (x : ℕ). Inside m (get_or sets x []) f) (eqb-true s.row k q) s.inside))
      go false q = inl (move (eqb s.row n) refl (eqb-false s.row k q))

-- one set fewer
pub length-without : (sets : List (List ℕ)) (k : ℕ) → length (without_set sets k) ≡ length sets - 1
length-without sets k =
    length-take-le (length sets - 1) (set sets k (get_or sets (length sets - 1) [])) (omega (arith, length-set sets k (get_or sets (length sets - 1) [])))

-- of the first n rows of a table
pub without_front : (rows : List (List ℕ)) {n k : ℕ} → n ≤ length rows → k < n → take (n - 1) (set rows k (get_or rows (n - 1) [])) ≡ without_set (take n rows) k
without_front rows {n} {k} h l =
    sym (ap (λ (i : ℕ). take (i - 1) (set (take n rows) k (get_or (take n rows) (i - 1) []))) (length-take-le n rows h)
    ∙ ap (λ (v : List ℕ). take (n - 1) (set (take n rows) k v)) (get_or-take n rows (n - 1) [] (omega arith))
    ∙ ap (take (n - 1)) (sym (take-set-lt n rows k (get_or rows (n - 1) []) l))
    ∙ take-take (n - 1) n (set rows k (get_or rows (n - 1) [])) (omega arith))

-- a set of the first n rows
pub front-at : (rows : List (List ℕ)) {n k : ℕ} {sets : List (List ℕ)} → take n rows ≡ sets → k < n → get_or sets k [] ≡ get_or rows k []
front-at rows {n} {k} e h = ap (λ (l : List (List ℕ)). get_or l k []) (sym e) ∙ get_or-take n rows k [] h

-- of the sets that the list had some are left, and a is inside each of the others
pub record Dropping (a : List ℕ) (before now : List (List ℕ)) : Type 0 where
  pub few : length now ≤ length before
  pub kept : (m : ℕ) (f : ℕ → ℕ → Bool) → Covers m before f → Covers m now f ⊎ Inside m a f

pub dropping-start : {a : List ℕ} {sets : List (List ℕ)} → Dropping a sets sets
dropping-start = record { few = omega arith; kept = λ m f s. inl s }

pub dropping-step : {a : List ℕ} {before now now' : List (List ℕ)} {k : ℕ} → Dropping a before now → k < length now → Within a (get_or now k []) → now' ≡ without_set now k → Dropping a before now'
dropping-step {a} {before} {now} {now'} {k} v h w e =
    subst (Dropping a before) (sym e)
    (record {
      few = (let t = v.few in omega (arith, length-without now k));
      kept = λ m f s. ⊎_elim (λ u. covers-without now h w u) inr (v.kept m f s);
    })

-- the set at k is left out, sets that b is inside of are dropped, and b is put at the end
pub merged : {a b : List ℕ} {before now : List (List ℕ)} {k : ℕ} → k < length before → Within b (get_or before k []) × Within b a
    → ((m : ℕ) (f : ℕ → ℕ → Bool) → Covers m (without_set before k) f → Covers m now f ⊎ Inside m b f)
    → (m : ℕ) (f : ℕ → ℕ → Bool) → Covers m before f ⊎ Inside m a f → Covers m (now ++ b ∷ []) f
merged {b = b} {before = before} {now = now} h w kept m f s =
    covers-push now b (⊎_elim (λ u. ⊎_elim (kept m f) inr (covers-without before h w.0 u)) (λ u. inr (w.1 m f u)) s)
