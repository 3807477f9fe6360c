-- The table of alternatives: what hangs from a node and what it offers to the node above are covered by what is known, and every cell's
-- sets stay alternatives while the table is filled. Assumes nothing.
use Prim.Native.Nat.{ℕ, ◌+◌, ◌≤◌, ◌<◌}
use mathlib.Core.Path.{◌≡◌, refl, sym, ap, ap₂, ◌∙◌, subst}
use mathlib.Core.Bool.{Bool, true, false, not, false≢true}
use mathlib.Core.Logic.{◌⊎◌, inl, inr, ⊎_elim}
use mathlib.Core.List.{List, [], ◌∷◌, ◌++◌, Memᴰ}
use native.Mathlib.Omega.{arith}
use lib.Bits.{bit_and}
use lib.Dec.{eqb}
use lib.ListN.{length, get_or, replicate}
use borrow.Author.Count.{below_more}
use borrow.Author.Tests.{eqb-true, eqb-false, eq-eqb, ne_eqb}
use Rattle.model.specs.Lists.{up_from, has, members}
use Rattle.model.specs.Pattern.{Pattern, no_pattern_record, pattern_parent, descends}
use Rattle.model.proofs.ListLaws.{not-both, and_intro, and_left, and_right, keep-elim, keep-intro, mem-up_from, up_from-mem}
use Rattle.bits.proofs.MaskLaws.{has-none, has-and}
use Rattle.cover.specs.Cover.{Inside, Within, Covers}
use Rattle.judging.specs.declared.member.Member.{Member}
use Rattle.judging.specs.declared.masks.Masks.{Masks}
use Rattle.judging.specs.Blocks.{cell, child_in, below_in, part_in, candidates_in}
use Rattle.judging.specs.Judging.{nobody}
use Rattle.judging.specs.Prepared.{Made}
use Rattle.judging.specs.Skipping.{PlacedBy}
use Rattle.judging.specs.Stepping.{Candidates, reach_by, places_by}
use Rattle.alternatives.specs.declared.judges.Judges.{Judges}
use Rattle.alternatives.specs.declared.table.Table.{Table}
use Rattle.alternatives.specs.Entries.{entry_in, Entry, Stored, IsBare}
use Rattle.alternatives.specs.Alternatives.{given_of, offered_of, node_of, Raises, Grown, Alternatives, IsRight, At, FarBelow, Toward, Covered, matters_by, Fillable}
use Rattle.alternatives.proofs.JoinLaws.{none_inside}
use Rattle.alternatives.proofs.Offered.{reach_far, child-inside, toward, offered-given, own-offered, below-offered}

-- ---- those who judge

-- the first pattern is one of few enough nodes, each after its parent
pub judged-few : (J : Judges) → length J.pattern.now ≤ 16
judged-few J = J.kept.few

pub judged-parent : (J : Judges) {c j : ℕ} → 0 < c → c < length J.pattern.now → j ≡ pattern_parent J.pattern.now c → j < c
judged-parent J {c} z h p = subst (λ (i : ℕ). i < c) (sym p) (J.kept.tree.earlier c z h)

-- ---- what hangs from a node

-- only at the root are sets left out
pub not_top : {A B : Type 0} → A ⊎ ((false ≡ true) × B) → A
not_top (inl a) = a
not_top (inr m) = absurd (false≢true m.0)

-- the list covers whatever the children of node c at y, before node i, do, as far as they are known
pub record Owning (n : ℕ) (t : Table) (P : Pattern) (c y : ℕ) (list : List (List ℕ)) (i : ℕ) : Type 0 where
  pub covers : (f : ℕ → ℕ → Bool) → ((d : ℕ) → c < d → d < length P → pattern_parent P d ≡ c → Entry n t d y f) → Covers n list f

module _ {n : ℕ} {t : Table} {P : Pattern} {c y : ℕ} where
  pub owning-start : {before list : List (List ℕ)} {i : ℕ} → ((n : ℕ) (f : ℕ → ℕ → Bool) → Covers n before f ⊎ Inside n (replicate 8 0) f → Covers n list f) → Owning n t P c y list i
  owning-start a = record { covers = λ f e. a n f (inr none_inside) }

  pub owning-step : {list after : List (List ℕ)} {d : ℕ} → Owning n t P c y list d → c < d → d < length P
      → ((f : ℕ → ℕ → Bool) → Covers n list f → (pattern_parent P d ≡ c → Entry n t d y f) → Covers n after f) → Owning n t P c y after (d + 1)
  owning-step {d = d} v h l a = record { covers = λ f e. a f (v.covers f e) (e d h l) }

-- ---- what node c offers to the node above y

-- in a whole embedding a node stands at a place of its parent's: one of its paths, which its edge reaches
placed-mask : {P : Pattern} {M : Candidates} {es : List ℕ} → PlacedBy P M (length P) es → (c : ℕ) → 0 < c → c < length P
    → (has (reach_by M (get_or es (pattern_parent P c) 0) (descends P c)) (get_or es c 0) ≡ true) × (has (M.parts c) (get_or es c 0) ≡ true)
unfolding places_by members
placed-mask {P} {M} {es} G c z h =
    let k = (keep-elim (has (places_by P M c x)) v (up_from 0 64) (G.placed c z h)).1 in
    let e = sym (has-and (reach_by M x (descends P c)) (M.parts c) v) ∙ k in
    (and_left (has (reach_by M x (descends P c)) v) (has (M.parts c) v) e, and_right (has (reach_by M x (descends P c)) v) (has (M.parts c) v) e)
  where
    x : ℕ
    x = get_or es (pattern_parent P c) 0

    v : ℕ
    v = get_or es c 0

-- what a cell covers stays covered by more
entry_more : {n : ℕ} {t : Table} {c x : ℕ} {f g : ℕ → ℕ → Bool} → ((a : List ℕ) → Inside n a f → Inside n a g) → Entry n t c x f → Entry n t c x g
entry_more w e = record { covers = λ h. (let a = e.covers h in record { row = a.row; few = a.few; inside = w _ a.inside }) }

module _ {ts : List Member} {m : Masks} {P : Pattern} {t : Table} (K : IsRight ts m P t) where
  -- what is known of c's children covers what hangs from it
  children-known : (R : Made ts m P) (c y : ℕ) (es : List ℕ) → PlacedBy P (candidates_in m) (length P) es → get_or es c 0 ≡ y → y < 64
      → (d : ℕ) → c < d → d < length P → pattern_parent P d ≡ c → Entry (length ts) t d y (given_of ts P es c)
  children-known R c y es G e w d h l p =
      subst (λ (j : ℕ). Entry (length ts) t d y (given_of ts P es j)) p
      (entry_more (λ a I. offered-given R es G d (omega arith) l a (subst (λ (x : ℕ). Inside (length ts) a (offered_of ts P es d x)) (sym above) I))
      (K.right d y (let s = R.small in omega arith) w es G (subst (λ (x : ℕ). has (reach_by (candidates_in m) x (descends P d)) (get_or es d 0) ≡ true) above (placed-mask G d (omega arith) l).0)))
    where
      above : get_or es (pattern_parent P d) 0 ≡ y
      above = ap (λ (j : ℕ). get_or es j 0) p ∙ e

  -- it stands at y
  pub own-covered : (c y : ℕ) → 0 < c → c < length P → y < 64 → {sets : List (List ℕ)}
      → ((g f : ℕ → ℕ → Bool) → Raises (length ts) (node_of ts y c) g f → ((d : ℕ) → c < d → d < length P → pattern_parent P d ≡ c → Entry (length ts) t d y g) → Covers (length ts) sets f)
      → Covered ts m P c y (At y) sets
  own-covered c y z h w a =
      record {
        offered = λ R x l k es G e.
            a (given_of ts P es c) (offered_of ts P es c x) (λ u v I B. own-offered R es G c x y z h l k e u v I B.each) (children-known R c y es G e w);
      }

  -- it stands below
  pub below-covered : (c y : ℕ) → 0 < c → c < length P → c < 16 → y < 64 → {sets : List (List ℕ)}
      → ((g f : ℕ → ℕ → Bool) → Raises (length ts) (node_of ts y nobody) g f → Entry (length ts) t c y g → Covers (length ts) sets f)
      → Covered ts m P c y (FarBelow m P c y) sets
  below-covered c y z h s w a =
      record {
        offered = λ R x l k es G e.
            a (offered_of ts P es c y) (offered_of ts P es c x) (λ u v I B. below-offered R es G c x y z h l k e.1 u v I B.each)
            (K.right c y s w es G (ap (λ (n : ℕ). has n (get_or es c 0)) (sym (reach_far (candidates_in m) y e.0)) ∙ e.1));
      }

-- it has no path there
pub own-none : {ts : List Member} {m : Masks} {P : Pattern} (c y : ℕ) {sets : List (List ℕ)} → 0 < c → c < length P → has (part_in m c) y ≡ false → Covered ts m P c y (At y) sets
own-none {m = m} c y z h e =
    record { offered = λ R x l k es G p. absurd (not-both (has (part_in m c) (get_or es c 0)) (placed-mask G c z h).1 (ap (has (part_in m c)) p ∙ e)) }

pub below_none : {ts : List Member} {m : Masks} {P : Pattern} (c y : ℕ) {sets : List (List ℕ)} → 0 < c → c < length P → bit_and (below_in m y) (part_in m c) ≡ 0 → Covered ts m P c y (FarBelow m P c y) sets
below_none {m = m} c y z h e =
    record {
      offered = λ R x l k es G p.
          absurd (not-both (has (bit_and (below_in m y) (part_in m c)) (get_or es c 0))
          (has-and (below_in m y) (part_in m c) (get_or es c 0) ∙ and_intro p.1 (placed-mask G c z h).1) (ap (λ (n : ℕ). has n (get_or es c 0)) e ∙ has-none (get_or es c 0)));
    }

pub near_none : {ts : List Member} {m : Masks} {P : Pattern} (c y : ℕ) {sets : List (List ℕ)} → descends P c ≡ false → Covered ts m P c y (FarBelow m P c y) sets
near_none {P = P} c y e = record { offered = λ R x l k es G p. absurd (not-both (descends P c) p.0 e) }

-- more is covered by a list that has grown
pub covered-grown : {ts : List Member} {m : Masks} {P : Pattern} {c y : ℕ} {Here : ℕ → Type 0} {before after : List (List ℕ)} → Grown (length ts) before after
    → Covered ts m P c y Here before → Covered ts m P c y Here after
covered-grown g v = record { offered = λ R x l k es G e. g.more _ (v.offered R x l k es G e) }

pub covered-both : {ts : List Member} {m : Masks} {P : Pattern} {c y : ℕ} {A B : ℕ → Type 0} {sets : List (List ℕ)} → Covered ts m P c y A sets → Covered ts m P c y B sets
    → Covered ts m P c y (λ v. A v ⊎ B v) sets
covered-both a b = record { offered = λ R x l k es G e. ⊎_elim (a.offered R x l k es G) (b.offered R x l k es G) e }

pub grown-none : {n : ℕ} {sets : List (List ℕ)} → Grown n sets sets
grown-none = record { more = λ f s. s }

pub grown-trans : {n : ℕ} {a b c : List (List ℕ)} → Grown n a b → Grown n b c → Grown n a c
grown-trans g h = record { more = λ f s. h.more f (g.more f s) }

-- ---- all children of x

-- a member of a mask
pub member-small : (m : ℕ) {y : ℕ} {ys : List ℕ} → members m ≡ y ∷ ys → y < 64
unfolding members
member-small m {y} {ys} e =
    let k = keep-elim (has m) y (up_from 0 64) (subst (λ (l : List ℕ). Memᴰ y l) (sym e) (mathlib.Core.List.Memᴰ.head refl)) in
    let u = up_from-mem 0 64 y k.0 in
    omega arith

-- at another summary node
pub fill-below : {ts : List Member} {m : Masks} {P : Pattern} {t : Table} {c x y : ℕ} → Fillable ts m P t c x → y < 64 → Fillable ts m P t c y
fill-below F h = record { made = F.made; table = F.table; some = F.some; inside = F.inside; narrow = h }

-- those of `all` that are not in rest are covered
pub record Gathered (ts : List Member) (m : Masks) (P : Pattern) (c : ℕ) (all : List ℕ) (list : List (List ℕ)) (rest : List ℕ) : Type 0 where
  pub each : (y : ℕ) → Memᴰ y all → Memᴰ y rest ⊎ Covered ts m P c y (Toward m P c y) list

module _ {ts : List Member} {m : Masks} {P : Pattern} {c : ℕ} {all : List ℕ} where
  pub gathered-start : {list : List (List ℕ)} {rest : List ℕ} → rest ≡ all → Gathered ts m P c all list rest
  gathered-start e = record { each = λ y k. inl (subst (λ (ys : List ℕ). Memᴰ y ys) (sym e) k) }

  module _ {list after : List (List ℕ)} {rest : List ℕ} (v : Gathered ts m P c all list rest) where
    pub gathered-step : {y : ℕ} {rest' : List ℕ} → rest ≡ y ∷ rest' → Grown (length ts) list after → Covered ts m P c y (Toward m P c y) after → Gathered ts m P c all after rest'
    gathered-step {y} {rest'} q g w = record { each = λ z k. ⊎_elim (λ i. taken z (subst (λ (l : List ℕ). Memᴰ z l) q i)) (λ u. inr (covered-grown g u)) (v.each z k) }
      where
        taken : (z : ℕ) → Memᴰ z (y ∷ rest') → Memᴰ z rest' ⊎ Covered ts m P c z (Toward m P c z) after
        taken z (mathlib.Core.List.Memᴰ.head e) = inr (subst (λ (i : ℕ). Covered ts m P c i (Toward m P c i) after) (sym e) w)
        taken z (mathlib.Core.List.Memᴰ.tail k) = inl k

pub gathered-end : {ts : List Member} {m : Masks} {P : Pattern} {c : ℕ} {list : List (List ℕ)} {all x : ℕ} {rest : List ℕ} → Gathered ts m P c (members all) list rest → rest ≡ [] → all ≡ child_in m x
    → (R : Made ts m P) → x < length R.summary → Alternatives ts m P c x list
unfolding members
gathered-end {ts} {m} {P} {c} {list} {all} {x} {rest} v e f R l = record { offered = λ es G k. at es G (toward R c x (get_or es c 0) l k) }
  where
    none : (y : ℕ) → Memᴰ y rest → ⊥
    none y k = mathlib.Core.List.Memᴰ.not-nil (subst (λ (ys : List ℕ). Memᴰ y ys) e k)

    at : (es : List ℕ) → PlacedBy P (candidates_in m) (length P) es → (y : ℕ) × (has (child_in m x) y ≡ true) × Toward m P c y (get_or es c 0) → Covers (length ts) list (offered_of ts P es c x)
    at es G (y, h, t) =
        let s : y < length R.summary = child-inside R x y l h in
        let n = R.narrow in
        let k : Memᴰ y (members all) = keep-intro (has all) y (up_from 0 64) (mem-up_from 0 64 y (omega arith) (omega arith)) (ap (λ (i : ℕ). has i y) f ∙ h) in
        ⊎_elim (λ i. absurd (none y i)) (λ u. u.offered R x l h es G t) (v.each y k)

-- ---- storing

-- r is inside each of the first k sets
pub record InAll (r : List ℕ) (sets : List (List ℕ)) (k : ℕ) : Type 0 where
  pub start : Within r (get_or sets 0 [])
  pub each : (j : ℕ) → j < k → Within r (get_or sets j [])

pub in-all-start : {sets : List (List ℕ)} → InAll (get_or sets 0 []) sets 0
in-all-start = record { start = λ n f w. w; each = λ j l. absurd (omega arith) }

pub in-all-step : {r r' : List ℕ} {sets : List (List ℕ)} {k : ℕ} → InAll r sets k → Within r' r × Within r' (get_or sets k []) → InAll r' sets (k + 1)
in-all-step {r' = r'} {sets = sets} {k = k} v w =
    record {
      start = λ n f u. w.0 n f (v.start n f u);
      each = below_more (λ (j : ℕ). Within r' (get_or sets j [])) k (λ j l n f u. w.0 n f (v.each j l n f u)) w.1;
    }

-- what all sets have in common covers what they do
pub common-covers : {r : List ℕ} {sets : List (List ℕ)} → ((k : ℕ) → k < length sets → Within r (get_or sets k [])) → (n : ℕ) (f : ℕ → ℕ → Bool) → Covers n sets f → Covers n (r ∷ []) f
common-covers w n f a = record { row = 0; few = omega arith; inside = w a.row a.few n f a.inside }

-- a table of which nothing is known is right
pub bare-right : {ts : List Member} {m : Masks} {P : Pattern} {t : Table} → IsBare t → IsRight ts m P t
bare-right b = record { right = λ c x h l es G e. record { covers = λ some. (let z = b.bare c x in absurd (omega arith)) } }

-- what is stored covers what the alternatives do
pub right-stored : {ts : List Member} {m : Masks} {P : Pattern} {t t' : Table} {c x : ℕ} {sets kept : List (List ℕ)} → c < 16 → x < 64 → IsRight ts m P t → Stored c x kept t t'
    → ((n : ℕ) (f : ℕ → ℕ → Bool) → Covers n sets f → Covers n kept f) → Alternatives ts m P c x sets → IsRight ts m P t'
right-stored {ts} {m} {P} {t} {t'} {c} {x} {sets} {kept} hc hx K S more A = record { right = λ d y h l. go d y h l (eqb (cell d y) (cell c x)) refl }
  where
    Right : ℕ → ℕ → Type 0
    Right d y = (es : List ℕ) → PlacedBy P (candidates_in m) (length P) es → has (reach_by (candidates_in m) y (descends P d)) (get_or es d 0) ≡ true → Entry (length ts) t' d y (offered_of ts P es d y)

    same : (d y : ℕ) (es : List ℕ) → entry_in t' d y ≡ entry_in t d y → Entry (length ts) t d y (offered_of ts P es d y) → Entry (length ts) t' d y (offered_of ts P es d y)
    same d y es e E =
        record {
          covers = λ some. subst (λ (l : List (List ℕ)). Covers (length ts) l (offered_of ts P es d y)) (sym e) (E.covers (subst (λ (l : List (List ℕ)). 0 < length l) e some));
        }

    go : (d y : ℕ) → d < 16 → y < 64 → (b : Bool) → eqb (cell d y) (cell c x) ≡ b → Right d y
    go d y h l true q =
        let e : cell d y ≡ cell c x = eqb-true (cell d y) (cell c x) q in
        let u : c ≡ d = omega arith in
        let v : x ≡ y = omega arith in
        subst (λ (j : ℕ). Right d j) v
        (subst (λ (i : ℕ). Right i x) u
        (λ es G w. record { covers = λ some. subst (λ (l : List (List ℕ)). Covers (length ts) l (offered_of ts P es c x)) (sym S.here) (more (length ts) (offered_of ts P es c x) (A.offered es G w)) }))
    go d y h l false q = λ es G w. same d y es (S.others d y (eqb-false (cell d y) (cell c x) q)) (K.right d y h l es G w)

-- ---- what matters

module _ (P : Pattern) (M : Candidates) (c x : ℕ) where
  abbrev matter : Bool → Bool
  matter b = elim b as (λ _. Bool) [ true ↦ not (eqb (bit_and (M.descendants x) (M.parts c)) 0) | false ↦ has (M.parts (pattern_parent P c)) x ]

  pub matters-far : {d k e : ℕ} → e ≡ (get_or P c no_pattern_record).edge → e ≡ 1 → d ≡ M.descendants x → k ≡ M.parts c → not (eqb (bit_and d k) 0) ≡ matters_by P M c x
  unfolding matters_by
  matters-far {e = e} p q i j = ap₂ (λ (a b : ℕ). not (eqb (bit_and a b) 0)) i j ∙ sym (ap matter (eq-eqb (get_or P c no_pattern_record).edge 1 (sym p ∙ q)))

  pub matters-near : {k j e : ℕ} {r : Bool} → e ≡ (get_or P c no_pattern_record).edge → (e ≡ 1 → ⊥) → j ≡ pattern_parent P c → k ≡ M.parts j → r ≡ has k x → r ≡ matters_by P M c x
  unfolding matters_by
  matters-near {r = r} p ne i k e =
      e ∙ ap (λ (n : ℕ). has n x) (k ∙ ap M.parts i) ∙ sym (ap matter (ne_eqb (get_or P c no_pattern_record).edge 1 (λ q. ne (p ∙ q))))
