-- What is left open of a partial embedding: the lists begin with what is settled, a turn of any node keeps what they cover, and where the
-- root's list is empty every completion passes. Assumes nothing.
use Prim.Native.Nat.{ℕ, ◌+◌, ◌≤◌, ◌<◌}
use mathlib.Core.Path.{◌≡◌, refl, sym, ap, ◌∙◌, subst}
use mathlib.Core.Bool.{Bool, true, false}
use mathlib.Core.Logic.{◌⊎◌, inl, inr}
use mathlib.Core.List.{List, [], ◌∷◌, Memᴰ}
use native.Mathlib.Omega.{arith}
use lib.Dec.{eqb}
use lib.ListN.{length, get_or, set, take, length-set}
use lib.Seq.{get_or-set_same, get_or-set_other, get_or-take, length-take-le}
use borrow.Author.Count.{below_more}
use borrow.Author.Tests.{eqb-true, eqb-false}
use Rattle.model.specs.Lists.{up_from, has, members}
use Rattle.model.specs.Pattern.{Pattern, pattern_parent, descends}
use Rattle.model.proofs.ListLaws.{and_left, keep-elim}
use Rattle.bits.proofs.MaskLaws.{has-and}
use Rattle.cover.specs.Cover.{Inside, Covers}
use Rattle.judging.specs.declared.member.Member.{Member}
use Rattle.judging.specs.declared.masks.Masks.{Masks}
use Rattle.judging.specs.Blocks.{candidates_in}
use Rattle.judging.specs.Prepared.{Made}
use Rattle.judging.specs.Skipping.{PlacedBy}
use Rattle.judging.specs.Stepping.{Candidates, reach_by, places_by}
use Rattle.alternatives.specs.Alternatives.{given_of, offered_of, RowBy, pass_of, Met, IsRight, Finishes, LeftOpen, AllCovered}
use Rattle.alternatives.specs.Members.{judged_by_some, RowsSettled}
use Rattle.alternatives.specs.declared.table.Table.{Table}
use Rattle.alternatives.specs.Entries.{Entry}
use Rattle.alternatives.specs.Open.{Settles, Begun, ListBy, RaisedOf, Turned}
use Rattle.alternatives.proofs.Offered.{offered-given, passed-given, met-passes, settled-inside}
use Rattle.alternatives.proofs.RowsLaws.{rows_same}
use Rattle.alternatives.proofs.Skipping.{listed-finishes}

-- ---- the lists begin

-- those of the nodes before j do
pub record BegunTo (n : ℕ) (rows : List (List ℕ)) (now : List (List (List ℕ))) (j : ℕ) : Type 0 where
  pub long : length now ≡ 16
  pub alone : (k : ℕ) → k < j → length (get_or now k []) ≡ 1
  pub first : (k : ℕ) → k < j → (i : ℕ) → i < n → get_or (get_or (get_or now k []) 0 []) i 0 ≡ get_or (get_or rows i []) k 0

module _ {n : ℕ} {rows : List (List ℕ)} where
  pub begun-start : {now : List (List (List ℕ))} → length now ≡ 16 → BegunTo n rows now 0
  begun-start l = record { long = l; alone = λ k h. absurd (omega arith); first = λ k h. absurd (omega arith) }

  pub begun-step : {now : List (List (List ℕ))} {j : ℕ} (list : List (List ℕ)) (a : List ℕ) → BegunTo n rows now j → j < 16 → ((i : ℕ) → i < n → get_or a i 0 ≡ get_or (get_or rows i []) j 0)
      → list ≡ a ∷ [] → BegunTo n rows (set now j list) (j + 1)
  begun-step {now} {j} list a v h e w =
      let s = v.long in
      record {
        long = length-set now j list ∙ s;
        alone =
            below_more (λ (k : ℕ). length (get_or (set now j list) k []) ≡ 1) j
            (λ k m. ap (λ (l : List (List ℕ)). length l) (other k m) ∙ v.alone k m) (ap (λ (l : List (List ℕ)). length l) here);
        first =
            below_more (λ (k : ℕ). (i : ℕ) → i < n → get_or (get_or (get_or (set now j list) k []) 0 []) i 0 ≡ get_or (get_or rows i []) k 0) j
            (λ k m i f. ap (λ (l : List (List ℕ)). get_or (get_or l 0 []) i 0) (other k m) ∙ v.first k m i f)
            (λ i f. ap (λ (l : List (List ℕ)). get_or (get_or l 0 []) i 0) here ∙ e i f);
      }
    where
      other : (k : ℕ) → k < j → get_or (set now j list) k [] ≡ get_or now k []
      other k m = get_or-set_other now j k list [] (λ p. omega arith)

      here : get_or (set now j list) j [] ≡ a ∷ []
      here = let s = v.long in get_or-set_same now j list [] (omega arith) ∙ w

  pub begun-end : {now : List (List (List ℕ))} {count : ℕ} → BegunTo n rows now count → Begun n count rows now
  begun-end v = record { alone = v.alone; first = λ j i h. v.first j h i }

  -- so each covers what is settled there
  pub begun-covers : {lists : List (List (List ℕ))} {count : ℕ} → Begun n count rows lists → (j : ℕ) → j < count → (f : ℕ → ℕ → Bool) → Settles n rows j f → Covers n (get_or lists j []) f
  begun-covers {lists} b j h f u =
      let one = b.alone j h in record { row = 0; few = omega arith; inside = u.inside (get_or (get_or lists j []) 0 []) (λ i k. b.first j i h k) }

-- ---- a list is passed on

-- the sets before i are
pub record ListTo (n : ℕ) (F : ℕ → ℕ → ℕ) (sets before now : List (List ℕ)) (i : ℕ) : Type 0 where
  pub long : length now ≡ length before
  pub each : (k : ℕ) → k < i → RowBy n F (get_or sets k []) (get_or now k [])

module _ {n : ℕ} {F : ℕ → ℕ → ℕ} {sets before : List (List ℕ)} where
  pub list-to-start : ListTo n F sets before before 0
  list-to-start = record { long = refl; each = λ k h. absurd (omega arith) }

  module _ {now : List (List ℕ)} {i : ℕ} (v : ListTo n F sets before now i) where
    pub list-to-step : {a : List ℕ} → i < length before → RowBy n F (get_or sets i []) a → ListTo n F sets before (set now i a) (i + 1)
    list-to-step {a} h r =
        let s = v.long in
        record {
          long = length-set now i a ∙ s;
          each =
              below_more (λ (k : ℕ). RowBy n F (get_or sets k []) (get_or (set now i a) k [])) i
              (λ k m. subst (λ (b : List ℕ). RowBy n F (get_or sets k []) b) (sym (get_or-set_other now i k a [] (λ p. omega arith))) (v.each k m))
              (subst (λ (b : List ℕ). RowBy n F (get_or sets i []) b) (sym (get_or-set_same now i a [] (omega arith))) r);
        }

    pub list-to-end : length sets ≤ i → ListBy n F sets now
    list-to-end h = record { each = λ k m. v.each k (omega arith) }

-- what is made covers what the list is raised to
pub covers-made : {n : ℕ} {F : ℕ → ℕ → ℕ} {sets made : List (List ℕ)} {f : ℕ → ℕ → Bool} → ListBy n F sets made → length sets ≤ length made → RaisedOf n F sets f → Covers n (take (length sets) made) f
covers-made {n} {F} {sets} {made} {f} v room r =
    let s = r.covers in
    record {
      row = s.row;
      few = subst (λ (k : ℕ). s.row < k) (sym (length-take-le (length sets) made room)) s.few;
      inside = subst (λ (a : List ℕ). Inside n a f) (sym (get_or-take (length sets) made s.row [] s.few)) (r.raises (get_or sets s.row []) (get_or made s.row []) s.inside (v.each s.row s.few));
    }

-- ---- a list is joined into another

pub turned-join : {ts : List Member} {j : ℕ} {Known : (ℕ → ℕ → Bool) → Type 0} {lists : List (List (List ℕ))} {list : List (List ℕ)} → j < length lists
    → ((f : ℕ → ℕ → Bool) → Covers (length ts) (get_or lists j []) f → Known f → Covers (length ts) list f ⊎ Met ts (eqb j 0) f) → Turned ts j Known lists (set lists j list)
turned-join {ts} {j} {Known} {lists} {list} h joined =
    record {
      joined = λ f s w. subst (λ (l : List (List ℕ)). Covers (length ts) l f ⊎ Met ts (eqb j 0) f) (sym (get_or-set_same lists j list [] h)) (joined f s w);
      others = λ i ne. get_or-set_other lists j i list [] ne;
    }

-- ---- what is left open

-- a cell's sets cover more where f is more
entry-raised : {n : ℕ} {t : Table} {c x : ℕ} {g f : ℕ → ℕ → Bool} → ((a : List ℕ) → Inside n a g → Inside n a f) → Entry n t c x g → Entry n t c x f
entry-raised up e = record { covers = λ z. (let s = e.covers z in record { row = s.row; few = s.few; inside = up _ s.inside }) }

-- a place is one that the edge reaches
place-reached : (P : Pattern) (M : Candidates) (c x v : ℕ) → Memᴰ v (members (places_by P M c x)) → has (reach_by M x (descends P c)) v ≡ true
unfolding members places_by
place-reached P M c x v k =
    and_left (has (reach_by M x (descends P c)) v) (has (M.parts c) v)
    (sym (has-and (reach_by M x (descends P c)) (M.parts c) v) ∙ (keep-elim (has (places_by P M c x)) v (up_from 0 64) k).1)

parent-before : {ts : List Member} {m : Masks} {P : Pattern} {c j : ℕ} → Made ts m P → 0 < c → c < length P → j ≡ pattern_parent P c → j < c
parent-before {c = c} R z h p = subst (λ (x : ℕ). x < c) (sym p) (R.tree.earlier c z h)

module _ {ts : List Member} {m : Masks} {P : Pattern} (R : Made ts m P) {q : ℕ} {es : List ℕ} (le : q ≤ length P) where
  -- each list begins with what covers what is settled
  pub left-start : {rows : List (List ℕ)} {lists : List (List (List ℕ))} → RowsSettled ts m P q es rows
      → ((j : ℕ) → j < length P → (f : ℕ → ℕ → Bool) → Settles (length ts) rows j f → Covers (length ts) (get_or lists j []) f) → LeftOpen ts m P q es lists
  left-start {rows = rows} {lists = lists} s covers =
      record {
        covered = λ fs F. inr (λ j h. covers j h (given_of ts P fs j)
            (record { inside = λ a e. settled-inside R fs F.placed q j rows a h (rows_same P R.tree fs le F.kept s) e }));
      }

  module _ {lists : List (List (List ℕ))} (v : LeftOpen ts m P q es lists) where
    -- what is known of node j in each whole embedding was joined into its list
    left-turned : {lists' : List (List (List ℕ))} (j : ℕ) (Known : (ℕ → ℕ → Bool) → Type 0) → j < length P → Turned ts j Known lists lists'
        → ((fs : List ℕ) → Finishes P (candidates_in m) q es fs → ((i : ℕ) → i < length P → Covers (length ts) (get_or lists i []) (given_of ts P fs i)) → Known (given_of ts P fs j))
        → LeftOpen ts m P q es lists'
    left-turned {lists'} j Known h t known = record { covered = λ fs F. go fs F (v.covered fs F) }
      where
        Cover : List (List (List ℕ)) → List ℕ → ℕ → Type 0
        Cover ls fs i = Covers (length ts) (get_or ls i []) (given_of ts P fs i)

        others : (fs : List ℕ) → ((i : ℕ) → i < length P → Cover lists fs i) → Cover lists' fs j → (i : ℕ) → i < length P → Cover lists' fs i
        others fs all new i k = by (eqb i j) refl
          where
            by : (b : Bool) → eqb i j ≡ b → Cover lists' fs i
            by true e = subst (λ (x : ℕ). Cover lists' fs x) (sym (eqb-true i j e)) new
            by false e = subst (λ (l : List (List ℕ)). Covers (length ts) l (given_of ts P fs i)) (sym (t.others i (eqb-false i j e))) (all i k)

        go : (fs : List ℕ) → Finishes P (candidates_in m) q es fs → (judged_by_some ts P fs ≡ true) ⊎ ((i : ℕ) → i < length P → Cover lists fs i)
            → (judged_by_some ts P fs ≡ true) ⊎ ((i : ℕ) → i < length P → Cover lists' fs i)
        go fs F (inl e) = inl e
        go fs F (inr all) = next (t.joined (given_of ts P fs j) (all j h) (known fs F all))
          where
            next : Cover lists' fs j ⊎ Met ts (eqb j 0) (given_of ts P fs j) → (judged_by_some ts P fs ≡ true) ⊎ ((i : ℕ) → i < length P → Cover lists' fs i)
            next (inl new) = inr (others fs all new)
            next (inr (e, (a, I, w))) = inl (met-passes R fs F.placed a (subst (λ (x : ℕ). Inside (length ts) a (given_of ts P fs x)) (eqb-true j 0 e) I) w)

    module _ {lists' : List (List (List ℕ))} {c j : ℕ} (z : 0 < c) (h : c < length P) (p : j ≡ pattern_parent P c) where
      -- the turn of a node that is placed
      pub left-placed : c < q → Turned ts j (RaisedOf (length ts) (pass_of ts P es c) (get_or lists c [])) lists lists' → LeftOpen ts m P q es lists'
      left-placed k t =
          let l : j < c = parent-before R z h p in
          left-turned j (RaisedOf (length ts) (pass_of ts P es c) (get_or lists c [])) (omega arith) t
          (λ fs F all. record {
            base = given_of ts P fs c;
            raises = λ a b I r. subst (λ (x : ℕ). Inside (length ts) b (given_of ts P fs x)) (sym p)
                (passed-given R fs F.placed es c z h (F.kept c k) (F.kept (pattern_parent P c) (subst (λ (x : ℕ). x < q) p (let w : j < q = omega arith in w))) a b I r.each);
            covers = all c h;
          })

      -- the turn of a node that is not, and whose parent is
      pub left_open : {k : Table} {x : ℕ} → c < 16 → x < 64 → j < q → x ≡ get_or es j 0 → IsRight ts m P k → Turned ts j (Entry (length ts) k c x) lists lists' → LeftOpen ts m P q es lists'
      left_open {k = tab} {x} n w k e T t =
          let l : j < c = parent-before R z h p in
          left-turned j (Entry (length ts) tab c x) (omega arith) t (λ fs F all.
          let s : x ≡ get_or fs (pattern_parent P c) 0 = e ∙ sym (F.kept j k) ∙ ap (λ (i : ℕ). get_or fs i 0) p in
          subst (λ (i : ℕ). Entry (length ts) tab c x (given_of ts P fs i)) (sym p)
          (entry-raised
          (λ a I. offered-given R fs F.placed c z h a (subst (λ (y : ℕ). Inside (length ts) a (offered_of ts P fs c y)) s I))
          (T.right c x n w fs F.placed (subst (λ (y : ℕ). has (reach_by (candidates_in m) y (descends P c)) (get_or fs c 0) ≡ true) (sym s) (place-reached P (candidates_in m) c (get_or fs (pattern_parent P c) 0) (get_or fs c 0) (F.placed.placed c z h))))))

    -- nothing is left open
    pub left_end : 0 < q → q ≤ length es → PlacedBy P (candidates_in m) q es → length (get_or lists 0 []) ≡ 0 → AllCovered ts m P q es
    left_end z long G e = record { pass = λ fs k. go fs (v.covered fs (listed-finishes R.summary P (candidates_in m) R.steps R.facts R.tree R.narrow q es z le long G fs k)) }
      where
        go : (fs : List ℕ) → (judged_by_some ts P fs ≡ true) ⊎ ((i : ℕ) → i < length P → Covers (length ts) (get_or lists i []) (given_of ts P fs i)) → judged_by_some ts P fs ≡ true
        go fs (inl s) = s
        go fs (inr all) = let k = (all 0 R.tree.inhabited).few in absurd (omega arith)
