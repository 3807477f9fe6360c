-- What the loops that read the tables off have: zeros after what is not 0, and the list of the nodes that pass a test, of which after v
-- turns those below v stand. Assumes nothing.
use Prim.Native.Nat.{ℕ, ◌+◌, ◌≤◌, ◌<◌}
use mathlib.Core.Path.{◌≡◌, refl, sym, ap, ap₂, ◌∙◌}
use mathlib.Core.Bool.{Bool, true, false}
use mathlib.Core.List.{List, [], ◌∷◌, ◌++◌, map, append-nil}
use native.Mathlib.Omega.{arith}
use native.Mathlib.Nat.{zero-add}
use lib.Dec.{ltb}
use lib.ListN.{length, get_or, set, replicate, length-set, length-append, length-replicate}
use lib.Seq.{ext_get_or}
use borrow.Author.Tests.{ltb-true, ltb-false}
use Rattle.model.specs.Lists.{up_from, keep}
use Rattle.model.specs.Bytes.{list_of, written_at_front}
use Rattle.model.specs.Facts.{ListFacts}
use Rattle.model.proofs.ListLaws.{mem-at, length-map-up_from}
use Rattle.model.proofs.Bytes.{front-none}
use Rattle.format.proofs.RangeLaws.{up_from-last, get_or-map-below}
use Rattle.format.proofs.FrontLaws.{front-set}
use Rattle.matching.specs.Wanted.{SmallNumbers}
use Rattle.matching.proofs.TurnLaws.{front-entry, front-after-entry, front-size, zeros-at}

-- an array of zeros filled as far as f is not 0
pub filled-zeros : (f : ℕ → ℕ) (n k : ℕ) → n ≤ k → ((i : ℕ) → n ≤ i → i < k → f i ≡ 0) → written_at_front (map f (up_from 0 n)) (replicate k 0) ≡ map f (up_from 0 k)
filled-zeros f n k h none =
    ext_get_or 0 t (map f (up_from 0 k)) (size ∙ sym (length-map-up_from f 0 k)) (λ i l. (let j : i < k = omega (arith, size) in entry i j (ltb i n) refl ∙ sym (get_or-map-below f k i 0 j)))
  where
    t : List ℕ
    t = written_at_front (map f (up_from 0 n)) (replicate k 0)

    size : length t ≡ k
    size = front-size f n (replicate k 0) {t = t} (omega (arith, length-replicate {A = ℕ} k 0)) refl ∙ length-replicate {A = ℕ} k 0

    entry : (i : ℕ) → i < k → (b : Bool) → ltb i n ≡ b → get_or t i 0 ≡ f i
    entry i j true e = front-entry f n (replicate k 0) refl i (ltb-true i n e)
    entry i j false e = front-after-entry f n (replicate k 0) refl i (ltb-false i n e) ∙ zeros-at k i ∙ sym (none i (ltb-false i n e) j)

-- ---- those that pass, one after another

keep-last : (test : ℕ → Bool) (xs : List ℕ) (x : ℕ) → keep test (xs ++ (x ∷ [])) ≡ keep test xs ++ keep test (x ∷ [])
unfolding keep
keep-last test [] x = refl
keep-last test (y ∷ ys) x = go (test y) refl (keep-last test ys x)
  where
    go : (b : Bool) → test y ≡ b → keep test (ys ++ (x ∷ [])) ≡ keep test ys ++ keep test (x ∷ [])
        → ◌≡◌ {A = List ℕ} (elim b as (λ _. List ℕ) [ true ↦ y ∷ keep test (ys ++ (x ∷ [])) | false ↦ keep test (ys ++ (x ∷ [])) ])
        ((elim b as (λ _. List ℕ) [ true ↦ y ∷ keep test ys | false ↦ keep test ys ]) ++ keep test (x ∷ []))
    go true e r = ap (λ (l : List ℕ). y ∷ l) r
    go false e r = r

-- the numbers below v that pass stand at the front of l, which was b
pub record Listing (test : ℕ → Bool) (n : ℕ) (b l : List ℕ) (count v : ℕ) : Type 0 where
  pub turns : v ≤ n
  pub size : length l ≡ length b
  pub number : count ≡ length (keep test (up_from 0 v))
  pub few : count ≤ v
  pub front : l ≡ written_at_front (keep test (up_from 0 v)) b

module _ (test : ℕ → Bool) where
  -- one number more
  more : (v : ℕ) → keep test (up_from 0 (v + 1)) ≡ keep test (up_from 0 v) ++ keep test (v ∷ [])
  more v = ap (keep test) (up_from-last 0 v ∙ ap (λ (k : ℕ). up_from 0 v ++ (k ∷ [])) (zero-add v)) ∙ keep-last test (up_from 0 v) v

  taken : (v : ℕ) → test v ≡ true → keep test (up_from 0 (v + 1)) ≡ keep test (up_from 0 v) ++ (v ∷ [])
  unfolding keep
  taken v e = more v ∙ rw (e, keep)

  passed : (v : ℕ) → test v ≡ false → keep test (up_from 0 (v + 1)) ≡ keep test (up_from 0 v)
  unfolding keep
  passed v e = more v ∙ rw (e, keep) (append-nil (keep test (up_from 0 v)))

module _ {test : ℕ → Bool} {n : ℕ} {b : List ℕ} where
  pub listing_start : Listing test n b b 0 0
  unfolding keep up_from
  listing_start = record { turns = omega arith; size = refl; number = refl; few = omega arith; front = sym (front-none b) }

  -- v passes and goes after the others
  pub listing-in : {l : List ℕ} {count v : ℕ} → Listing test n b l count v → n ≤ length b → v < n → test v ≡ true → Listing test n b (set l count v) (count + 1) (v + 1)
  listing-in {l} {count} {v} s room h e =
      let w : List ℕ = keep test (up_from 0 v) in
      let next : keep test (up_from 0 (v + 1)) ≡ w ++ (v ∷ []) = taken test v e in
      let len : length (w ++ (v ∷ [])) ≡ length w + 1 = length-append w (v ∷ []) in
      record {
        turns = omega arith;
        size = length-set l count v ∙ s.size;
        number = omega (arith, s.number) ∙ sym (ap length next);
        few = omega (arith, s.few);
        front = ap₂ (λ (k : List ℕ) (i : ℕ). set k i v) s.front s.number ∙ front-set w b v (omega (arith, s.number, s.few)) ∙ ap (λ (k : List ℕ). written_at_front k b) (sym next);
      }

  -- or it does not
  pub listing-out : {l : List ℕ} {count v : ℕ} → Listing test n b l count v → v < n → test v ≡ false → Listing test n b l count (v + 1)
  listing-out {v = v} s h e =
      let next : keep test (up_from 0 (v + 1)) ≡ keep test (up_from 0 v) = passed test v e in
      record {
        turns = omega arith;
        size = s.size;
        number = s.number ∙ sym (ap length next);
        few = omega (arith, s.few);
        front = s.front ∙ ap (λ (k : List ℕ). written_at_front k b) (sym next);
      }

-- the numbers of a document's nodes are small
pub list-small : {k n : ℕ} {l : List ℕ} → ListFacts k n l → n < 65536 → SmallNumbers l
list-small {k} {n} {l} L h i j = let b : get_or (list_of l) i 0 < n = L.below (get_or (list_of l) i 0) (mem-at (list_of l) i 0 j) in omega arith
