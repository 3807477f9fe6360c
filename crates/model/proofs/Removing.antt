-- A list without one element, and a pattern without one leaf: what stands where, and that the shorter pattern is carried into the longer.
-- Assumes nothing.
use Prim.Native.Nat.{ℕ, zero, suc, ◌-◌, ◌≤◌, ◌<◌}
use mathlib.Core.Path.{◌≡◌, refl, sym, ap, ◌∙◌, subst}
use mathlib.Core.Bool.{Bool, true, false, ◌&&◌, not}
use mathlib.Core.Logic.{◌⊎◌, inl, inr}
use mathlib.Core.List.{List, [], ◌∷◌, map}
use native.Mathlib.Omega.{arith}
use lib.Dec.{eqb, ltb}
use lib.ListN.{length, get_or, length-map, get_or-eq_default}
use borrow.Author.Tests.{ltb-true, ltb-false, lt-ltb, le-ltb, eqb-true, eqb-false, not-true}
use Rattle.model.specs.Lists.{count_of}
use Rattle.model.specs.Pattern.{PatternRecord, Pattern, no_pattern_record, pattern_parent, position, arity, IsPatternTree, Carries}
use Rattle.model.specs.Striking.{removed, lowered, raised, relinked, without, childless, may_go}
use Rattle.model.proofs.ListLaws.{true-or-false, and_left, and_right, all-below, get_or_map}

-- ---- numbers, with node q and without it

less : (x y : ℕ) → x ≤ y → (x ≡ y → ⊥) → x < y
less x y h d = go (true-or-false (ltb x y))
  where
    go : (ltb x y ≡ true) ⊎ (ltb x y ≡ false) → x < y
    go (inl t) = ltb-true x y t
    go (inr t) = absurd (d (let l = ltb-false x y t in omega arith))

pub raised-cases : (q i : ℕ) → ((i < q) × (raised q i ≡ i)) ⊎ ((q ≤ i) × (raised q i ≡ suc i))
raised-cases q i = go (true-or-false (ltb i q))
  where
    value : {t : Bool} → ltb i q ≡ t → raised q i ≡ elim t as (λ _. ℕ) [ true ↦ i | false ↦ suc i ]
    value e = ap (λ (t : Bool). elim t as (λ _. ℕ) [ true ↦ i | false ↦ suc i ]) e

    go : (ltb i q ≡ true) ⊎ (ltb i q ≡ false) → ((i < q) × (raised q i ≡ i)) ⊎ ((q ≤ i) × (raised q i ≡ suc i))
    go (inl e) = inl (ltb-true i q e, value e)
    go (inr e) = inr (ltb-false i q e, value e)

pub lowered-cases : (q i : ℕ) → ((q < i) × (lowered q i ≡ i - 1)) ⊎ ((i ≤ q) × (lowered q i ≡ i))
lowered-cases q i = go (true-or-false (ltb q i))
  where
    value : {t : Bool} → ltb q i ≡ t → lowered q i ≡ elim t as (λ _. ℕ) [ true ↦ i - 1 | false ↦ i ]
    value e = ap (λ (t : Bool). elim t as (λ _. ℕ) [ true ↦ i - 1 | false ↦ i ]) e

    go : (ltb q i ≡ true) ⊎ (ltb q i ≡ false) → ((q < i) × (lowered q i ≡ i - 1)) ⊎ ((i ≤ q) × (lowered q i ≡ i))
    go (inl e) = inl (ltb-true q i e, value e)
    go (inr e) = inr (ltb-false q i e, value e)

-- lowered and raised again
pub raised-lowered : (q i : ℕ) → (i ≡ q → ⊥) → raised q (lowered q i) ≡ i
raised-lowered q i h = go (lowered-cases q i) (raised-cases q (lowered q i))
  where
    go : ((q < i) × (lowered q i ≡ i - 1)) ⊎ ((i ≤ q) × (lowered q i ≡ i))
        → ((lowered q i < q) × (raised q (lowered q i) ≡ lowered q i)) ⊎ ((q ≤ lowered q i) × (raised q (lowered q i) ≡ suc (lowered q i))) → raised q (lowered q i) ≡ i
    go (inl a) (inl b) = absurd (omega arith)
    go (inl a) (inr b) = omega arith
    go (inr a) (inl b) = omega arith
    go (inr a) (inr b) = absurd (h (omega arith))

pub raised-not : (q i : ℕ) → raised q i ≡ q → ⊥
raised-not q i e = go (raised-cases q i)
  where
    go : ((i < q) × (raised q i ≡ i)) ⊎ ((q ≤ i) × (raised q i ≡ suc i)) → ⊥
    go (inl a) = omega arith
    go (inr a) = omega arith

pub raised-ascends : (q i j : ℕ) → i < j → raised q i < raised q j
raised-ascends q i j h = go (raised-cases q i) (raised-cases q j)
  where
    go : ((i < q) × (raised q i ≡ i)) ⊎ ((q ≤ i) × (raised q i ≡ suc i)) → ((j < q) × (raised q j ≡ j)) ⊎ ((q ≤ j) × (raised q j ≡ suc j)) → raised q i < raised q j
    go (inl a) (inl b) = omega arith
    go (inl a) (inr b) = omega arith
    go (inr a) (inl b) = omega arith
    go (inr a) (inr b) = omega arith

pub raised-apart : (q i j : ℕ) → raised q i ≡ raised q j → i ≡ j
raised-apart q i j e = go (raised-cases q i) (raised-cases q j)
  where
    go : ((i < q) × (raised q i ≡ i)) ⊎ ((q ≤ i) × (raised q i ≡ suc i)) → ((j < q) × (raised q j ≡ j)) ⊎ ((q ≤ j) × (raised q j ≡ suc j)) → i ≡ j
    go (inl a) (inl b) = omega arith
    go (inl a) (inr b) = absurd (omega arith)
    go (inr a) (inl b) = absurd (omega arith)
    go (inr a) (inr b) = omega arith

-- of n numbers below suc n
pub raised-inside : (q i n : ℕ) → i < n → raised q i < suc n
raised-inside q i n h = go (raised-cases q i)
  where
    go : ((i < q) × (raised q i ≡ i)) ⊎ ((q ≤ i) × (raised q i ≡ suc i)) → raised q i < suc n
    go (inl a) = omega arith
    go (inr a) = omega arith

pub lowered-inside : (q i n : ℕ) → q < suc n → i < suc n → (i ≡ q → ⊥) → lowered q i < n
lowered-inside q i n k h d = go (lowered-cases q i)
  where
    go : ((q < i) × (lowered q i ≡ i - 1)) ⊎ ((i ≤ q) × (lowered q i ≡ i)) → lowered q i < n
    go (inl a) = omega arith
    go (inr a) = let l = less i q a.0 d in omega arith

-- ---- lists

module _ {A : Type 0} where
  pub length_removed : (q : ℕ) (xs : List A) → q < length xs → suc (length (removed q xs)) ≡ length xs
  unfolding removed
  length_removed q [] h = absurd (omega arith)
  length_removed zero (x ∷ xs) h = refl
  length_removed (suc q) (x ∷ xs) h = let e = length_removed q xs (omega arith) in omega arith

  pub get_or-removed : (q : ℕ) (xs : List A) (i : ℕ) (d : A) → get_or (removed q xs) i d ≡ get_or xs (raised q i) d
  unfolding removed
  get_or-removed q [] i d = sym (get_or-eq_default [] d {n = raised q i} (omega arith))
  get_or-removed zero (x ∷ xs) i d = ap (λ (t : Bool). get_or (x ∷ xs) (elim t as (λ _. ℕ) [ true ↦ i | false ↦ suc i ]) d) (sym (le-ltb i 0 (omega arith)))
  get_or-removed (suc q) (x ∷ xs) zero d = ap (λ (t : Bool). get_or (x ∷ xs) (elim t as (λ _. ℕ) [ true ↦ 0 | false ↦ 1 ]) d) (sym (lt-ltb 0 (suc q) (omega arith)))
  get_or-removed (suc q) (x ∷ xs) (suc i) d = get_or-removed q xs i d ∙ ap (λ (n : ℕ). get_or (x ∷ xs) n d) (sym (up (raised-cases q i) (raised-cases (suc q) (suc i))))
    where
      up : ((i < q) × (raised q i ≡ i)) ⊎ ((q ≤ i) × (raised q i ≡ suc i)) → ((suc i < suc q) × (raised (suc q) (suc i) ≡ suc i)) ⊎ ((suc q ≤ suc i) × (raised (suc q) (suc i) ≡ suc (suc i)))
          → raised (suc q) (suc i) ≡ suc (raised q i)
      up (inl a) (inl b) = omega arith
      up (inl a) (inr b) = absurd (omega arith)
      up (inr a) (inl b) = absurd (omega arith)
      up (inr a) (inr b) = omega arith

  -- an element that does not pass is not counted
  pub count-removed : (test : A → Bool) (q : ℕ) (xs : List A) (d : A) → q < length xs → test (get_or xs q d) ≡ false → count_of test (removed q xs) ≡ count_of test xs
  unfolding removed count_of
  count-removed test q [] d h e = refl
  count-removed test zero (x ∷ xs) d h e = rw (e, count_of) refl
  count-removed test (suc q) (x ∷ xs) d h e = go (test x) (count-removed test q xs d (omega arith) e)
    where
      go : (t : Bool) → count_of test (removed q xs) ≡ count_of test xs
          → ◌≡◌ {A = ℕ} (elim t as (λ _. ℕ) [ true ↦ suc (count_of test (removed q xs)) | false ↦ count_of test (removed q xs) ]) (elim t as (λ _. ℕ) [ true ↦ suc (count_of test xs) | false ↦ count_of test xs ])
      go true r = ap suc r
      go false r = r

-- ---- patterns

arity-relinked : (q : ℕ) (P : Pattern) → arity (map (relinked q) P) ≡ arity P
unfolding count_of
arity-relinked q [] = refl
arity-relinked q (r ∷ P) = ap (λ (n : ℕ). elim (ltb 0 r.position) as (λ _. ℕ) [ true ↦ suc n | false ↦ n ]) (arity-relinked q P)

pub length_without : (P : Pattern) (q : ℕ) → q < length P → suc (length (without P q)) ≡ length P
unfolding without
length_without P q h = ap suc (length-map (removed q P) (relinked q)) ∙ length_removed q P h

module _ (P : Pattern) (q : ℕ) (h : q < length P) where
  -- record i of what is left
  pub record-without : (i : ℕ) → i < length (without P q) → get_or (without P q) i no_pattern_record ≡ relinked q (get_or P (raised q i) no_pattern_record)
  unfolding without
  record-without i l =
      get_or_map (relinked q) (removed q P) i no_pattern_record no_pattern_record (subst (λ (n : ℕ). i < n) (length-map (removed q P) (relinked q)) l)
      ∙ ap (relinked q) (get_or-removed q P i no_pattern_record)

  module _ (may : may_go P q ≡ true) where
    pub not_root_lem : 0 < q
    unfolding may_go
    not_root_lem = ltb-true 0 q (and_left _ _ (and_left _ _ may))

    pub no-position : position P q ≡ 0
    unfolding may_go
    no-position = eqb-true (position P q) 0 (and_right (ltb 0 q) _ (and_left _ _ may))

    pub no-children : (i : ℕ) → i < length P → pattern_parent P i ≡ q → ⊥
    unfolding may_go childless
    no-children i l =
        eqb-false (pattern_parent P i) q
        (not-true (eqb (pattern_parent P i) q) (all-below (λ (j : ℕ). not (eqb (pattern_parent P j) q)) (length P) (and_right (ltb 0 q && eqb (position P q) 0) _ may) i l))

    inside : (i : ℕ) → i < length (without P q) → raised q i < length P
    inside i l = subst (λ (n : ℕ). raised q i < n) (length_without P q h) (raised-inside q i (length (without P q)) l)

    pub without-carries : Carries (without P q) P (raised q)
    unfolding without
    without-carries =
        record {
          inside = inside;
          root = ap (λ (t : Bool). elim t as (λ _. ℕ) [ true ↦ 0 | false ↦ 1 ]) (lt-ltb 0 q not_root_lem);
          not_root = λ i z l. go i z (raised-cases q i);
          parents = λ i z l.
              sym (ap (λ (r : PatternRecord). raised q r.parent) (record-without i l) ∙ raised-lowered q (pattern_parent P (raised q i)) (no-children (raised q i) (inside i l)));
          labels = λ i l. sym (ap (λ (r : PatternRecord). r.label) (record-without i l));
          edges = λ i l. sym (ap (λ (r : PatternRecord). eqb r.edge 1) (record-without i l));
          positions = λ i l. sym (ap (λ (r : PatternRecord). r.position) (record-without i l));
          figures = λ i l. sym (ap (λ (r : PatternRecord). r.figure) (record-without i l));
          apart = λ i j l m e. raised-apart q i j e;
          positioned = λ j l z. (
              let d : j ≡ q → ⊥ = (λ e. let p : position P j ≡ 0 = ap (position P) e ∙ no-position in omega arith) in
              (lowered q j, lowered-inside q j (length (without P q)) (let n = length_without P q h in omega arith) (let n = length_without P q h in omega arith) d, raised-lowered q j d)
              );
          arities = arity-relinked q (removed q P) ∙ count-removed (λ (r : PatternRecord). ltb 0 r.position) q P no_pattern_record h (le-ltb 0 (position P q) (let e = no-position in omega arith));
        }
      where
        go : (i : ℕ) → 0 < i → ((i < q) × (raised q i ≡ i)) ⊎ ((q ≤ i) × (raised q i ≡ suc i)) → 0 < raised q i
        go i z (inl a) = omega arith
        go i z (inr a) = omega arith

    pub without-tree : IsPatternTree P → IsPatternTree (without P q)
    without-tree tree =
        record {
          inhabited = some;
          root = ap (λ (r : PatternRecord). r.parent) (record-without 0 some) ∙ ap (lowered q) (ap (pattern_parent P) without-carries.root ∙ tree.root)
              ∙ ap (λ (t : Bool). elim t as (λ _. ℕ) [ true ↦ 0 - 1 | false ↦ 0 ]) (le-ltb q 0 (omega arith));
          earlier = λ i z l. subst (λ (p : ℕ). p < i) (sym (ap (λ (r : PatternRecord). r.parent) (record-without i l)))
              (up i (pattern_parent P (raised q i)) (no-children (raised q i) (inside i l)) (tree.earlier (raised q i) (without-carries.not_root i z l) (inside i l)) (raised-cases q i) (lowered-cases q (pattern_parent P (raised q i))));
        }
      where
        some : 0 < length (without P q)
        some = let n = length_without P q h in let z = not_root_lem in omega arith

        up : (i x : ℕ) → (x ≡ q → ⊥) → x < raised q i → ((i < q) × (raised q i ≡ i)) ⊎ ((q ≤ i) × (raised q i ≡ suc i)) → ((q < x) × (lowered q x ≡ x - 1)) ⊎ ((x ≤ q) × (lowered q x ≡ x)) → lowered q x < i
        up i x d l (inl a) (inl b) = absurd (omega arith)
        up i x d l (inl a) (inr b) = omega arith
        up i x d l (inr a) (inl b) = omega arith
        up i x d l (inr a) (inr b) = let m = less x q b.0 d in omega arith
