-- Striking out: a leaf goes only where the selection without it is included, and dropping a leaf loses no result, so results stay; the loop
-- ends where a round strikes nothing; each round strikes one of at most one leaf fewer than there are nodes. Assumes nothing.
use Prim.Native.Nat.{ℕ, zero, suc, ◌+◌, ◌-◌, ◌≤◌, ◌<◌}
use mathlib.Core.Path.{◌≡◌, refl, sym, ap, ◌∙◌, subst}
use mathlib.Core.Bool.{true, false}
use mathlib.Core.Logic.Iff
use mathlib.Core.Logic.{◌⊎◌, inl, inr, ◌↔◌}
use mathlib.Core.Option.{Option, none, some}
use mathlib.Core.List.Memᴰ
use mathlib.Core.List.{List, [], ◌∷◌, ◌++◌, map, map-map, map-id, Memᴰ}
use native.Mathlib.Omega.{arith}
use native.Mathlib.Nat.{zero-add}
use lib.Dec.{eqb}
use lib.ListN.{length, get_or, length-append, length-map}
use borrow.Author.Tests.{eqb-true, eqb-false}
use Rattle.model.specs.Limits.{max_pattern, max_verdicts}
use Rattle.model.specs.Lists.{up_from, keep}
use Rattle.model.specs.Tree.{Document}
use Rattle.model.specs.Summary.{Summary, Fits}
use Rattle.model.specs.Pattern.{PatternRecord, Pattern, Result, Carries}
use Rattle.model.specs.Facts.{SummaryFacts, PatternFacts, MemberFacts}
use Rattle.model.specs.Striking.{removed, lowered, raised, relinked, without, may_go, may_go_of, verdict_without, Round, round, Struck, also_struck, strike_from, strike_all}
use Rattle.model.specs.Demands.{Shortened}
use Rattle.model.proofs.ListLaws.{true-or-false, map-agree, up_from-mem, mem-up_from, keep-elim, keep-intro, length-keep, length-up_from, get_or-up_from}
use Rattle.model.proofs.KeepLaws.{keep_out}
use Rattle.model.proofs.Verdict.{IsIncluded, judge-included, verdict-judge, verdict-tried}
use Rattle.model.proofs.Decision.{contained-exact}
use Rattle.model.proofs.Carrying.{carries-self, carries-after, carried-result, carried-facts}
use Rattle.model.proofs.Removing.{raised-not, raised-ascends, raised-apart, raised-lowered, lowered-inside, get_or-removed, length_without, without-carries, without-tree}
use Rattle.model.proofs.Rounds.{Each, each_append, RoundFacts, round-facts}

-- the root is no such leaf
root-stays : (P : Pattern) → may_go P 0 ≡ false
unfolding may_go
root-stays P = refl

-- there are fewer such leaves than nodes
few-leaves : (P : Pattern) → length (may_go_of P) ≤ length P - 1
unfolding up_from keep
few-leaves P = go (length P)
  where
    go : (n : ℕ) → length (keep (may_go P) (up_from 0 n)) ≤ n - 1
    go zero = omega arith
    go (suc n) =
        let e : length (keep (may_go P) (up_from 0 (suc n))) ≡ length (keep (may_go P) (up_from 1 n)) = ap length (keep_out (may_go P) 0 (up_from 1 n) (root-stays P)) in
        let l : length (keep (may_go P) (up_from 1 n)) ≤ length (up_from 1 n) = length-keep (may_go P) (up_from 1 n) in
        let k : length (up_from 1 n) ≡ n = length-up_from 1 n in
        omega arith

-- ---- one leaf less

module _ {S : Summary} (s : SummaryFacts S) (L : ℕ) {P : Pattern} (p : PatternFacts P) (small : length P ≤ max_pattern) {q : ℕ} (inside : q < length P) (may : may_go P q ≡ true) where
  carries : Carries (without P q) P (raised q)
  carries = without-carries P q inside may

  pub facts-without : PatternFacts (without P q)
  facts-without = carried-facts carries p (without-tree P q inside may p.tree)

  -- the present selection as the set of one
  pub member : (Q : Pattern) → Memᴰ Q (P ∷ []) → MemberFacts (without P q) Q
  member Q m = go (Memᴰ.cases_cons m)
    where
      go : (Q ≡ P) ⊎ Memᴰ Q [] → MemberFacts (without P q) Q
      go (inl e) = subst (MemberFacts (without P q)) (sym e) (record { pattern = p; same_arity = carries.arities; size = small })
      go (inr n) = absurd (Memᴰ.not-nil n)

  -- where the verdict says "included", both have the same results
  pub results-without : IsIncluded (verdict_without S L P q) → (W : Document) → Fits S W → (r : List ℕ) → Result P W r ↔ Result (without P q) W r
  results-without i W w r = (
    λ k. carried-result carries p k,
    λ k. (
        let c = (judge-included _ L _ i.0 (sym (verdict-judge S (without P q) (P ∷ []) L) ∙ i.1)).1 in
        let some = (contained-exact s facts-without member).1 c.pass W w r k in
        only some.pattern some.result (Memᴰ.cases_cons some.among)
        ),
  )
    where
      only : (Q : Pattern) → Result Q W r → (Q ≡ P) ⊎ Memᴰ Q [] → Result P W r
      only Q k (inl e) = subst (λ (X : Pattern). Result X W r) e k
      only Q k (inr n) = absurd (Memᴰ.not-nil n)

-- ---- the loop

-- the verdicts of a selection of n nodes: n - 1 leaves, then n - 2, and so on
unfoldable pub verdicts_of : ℕ → ℕ
verdicts_of zero = 0
verdicts_of (suc n) = n + verdicts_of n

-- at most 120 of 16 nodes: 15 + 14 + .. + 1
verdicts-more : (n k : ℕ) → verdicts_of n ≤ verdicts_of (n + k)
unfolding verdicts_of
verdicts-more zero k = omega arith
verdicts-more (suc n) k =
    let l = verdicts-more n k in
    let e : suc n + k ≡ suc (n + k) = omega arith in
    subst (λ (m : ℕ). n + verdicts_of n ≤ verdicts_of m) (sym e) (omega arith)

pub few-verdicts : (n : ℕ) → n ≤ max_pattern → verdicts_of n ≤ max_verdicts
unfolding verdicts_of
few-verdicts n h =
    let e : n + (max_pattern - n) ≡ max_pattern = omega arith in
    subst (λ (m : ℕ). verdicts_of n ≤ verdicts_of m) e (verdicts-more n (max_pattern - n))

-- what the loop comes to from P, whose nodes were numbered `names`
pub record LoopFacts (S : Summary) (L : ℕ) (P : Pattern) (names : List ℕ) (s : Struck) : Type 0 where
  pub facts : PatternFacts s.pattern
  pub same : (W : Document) → Fits S W → (r : List ℕ) → Result P W r ↔ Result s.pattern W r
  pub none : (q : ℕ) → q < length s.pattern → may_go s.pattern q ≡ true → IsIncluded (verdict_without S L s.pattern q) → ⊥
  -- by P's own numbers
  pub gone : List ℕ
  pub named : s.struck ≡ map (λ j. get_or names j 0) gone
  pub shortened : Shortened P gone s.pattern
  pub few : length s.tried ≤ verdicts_of (length P)
  pub each : Each L s.tried

-- one of these leaves is a node, and may go
pub leaf-may : (P : Pattern) (q : ℕ) → Memᴰ q (may_go_of P) → (q < length P) × (may_go P q ≡ true)
leaf-may P q m = let k = keep-elim (may_go P) q (up_from 0 (length P)) m in let l = up_from-mem 0 (length P) q k.0 in (omega arith, k.1)

may-leaf : (P : Pattern) (q : ℕ) → q < length P → may_go P q ≡ true → Memᴰ q (may_go_of P)
may-leaf P q h e = keep-intro (may_go P) q (up_from 0 (length P)) (mem-up_from 0 (length P) q (omega arith) (omega arith)) e

module _ {S : Summary} (s : SummaryFacts S) (L : ℕ) where
  -- a round that strikes none
  ended : {P : Pattern} (names : List ℕ) → PatternFacts P → (r : Round) → RoundFacts (verdict_without S L P) L (may_go_of P) r → r.struck ≡ none
      → LoopFacts S L P names (record { pattern = P; struck = []; tried = r.tried })
  unfolding verdicts_of
  ended {P} names p r f e =
      record {
        facts = p;
        same = λ W w x. (λ k. k, λ k. k);
        none = λ q h may. f.keeps e q (may-leaf P q h may);
        gone = [];
        named = refl;
        shortened =
            record {
              old = λ i. i;
              carried = carries-self P;
              ordered = λ i j h k. h;
              stays = λ i h m. Memᴰ.not-nil m;
              goes = λ x m. absurd (Memᴰ.not-nil m);
              all = λ x h. inr (x, h, refl);
              count = omega arith;
            };
        few = at (length P) (few-leaves P);
        each = f.each;
      }
    where
      at : (n : ℕ) → length (may_go_of P) ≤ n - 1 → length r.tried ≤ verdicts_of n
      at zero h = let l = f.few in omega arith
      at (suc n) h = let l = f.few in omega arith

  -- a round that strikes q, and the rest
  went_on : {P : Pattern} (names : List ℕ) → PatternFacts P → length P ≤ max_pattern → (r : Round) → RoundFacts (verdict_without S L P) L (may_go_of P) r → (q : ℕ) → r.struck ≡ some q
      → (rest : Struck) → LoopFacts S L (without P q) (removed q names) rest → LoopFacts S L P names (also_struck (get_or names q 0) r.tried rest)
  unfolding verdicts_of
  went_on {P} names p small r f q e rest g =
      record {
        facts = g.facts;
        same = λ W w x. Iff.trans (results-without s L p small inside may (f.strikes q e).1 W w x) (g.same W w x);
        none = g.none;
        gone = q ∷ map (raised q) g.gone;
        named = ap (λ (l : List ℕ). get_or names q 0 ∷ l) (g.named ∙ map-agree (λ j. get_or (removed q names) j 0) (λ j. get_or names (raised q j) 0) g.gone (λ j m. get_or-removed q names j 0) ∙ sym (map-map (λ j. get_or names j 0) (raised q) g.gone));
        shortened =
            record {
              old = λ i. raised q (t.old i);
              carried = carries-after t.carried (without-carries P q inside may);
              ordered = λ i j h k. raised-ascends q (t.old i) (t.old j) (t.ordered i j h k);
              stays = λ i h m. stay i h (Memᴰ.cases_cons m);
              goes = λ x m. go x (Memᴰ.cases_cons m);
              all = λ x h. every x h (true-or-false (eqb x q));
              count = let c = t.count in let n = length_without P q inside in let l : length (map (raised q) g.gone) ≡ length g.gone = length-map g.gone (raised q) in omega arith;
            };
        few = let l = f.few in let a = few-leaves P in let b = g.few in let c : length (r.tried ++ rest.tried) ≡ length r.tried + length rest.tried = length-append r.tried rest.tried in sum (length_without P q inside) (omega arith) c b;
        each = each_append L r.tried rest.tried f.each g.each;
      }
    where
      inside : q < length P
      inside = (leaf-may P q (f.strikes q e).0).0

      may : may_go P q ≡ true
      may = (leaf-may P q (f.strikes q e).0).1

      t : Shortened (without P q) g.gone rest.pattern
      t = g.shortened

      stay : (i : ℕ) → i < length rest.pattern → (raised q (t.old i) ≡ q) ⊎ Memᴰ (raised q (t.old i)) (map (raised q) g.gone) → ⊥
      stay i h (inl k) = raised-not q (t.old i) k
      stay i h (inr m) = let k = Memᴰ.of_map (raised q) g.gone m in t.stays i h (subst (λ (x : ℕ). Memᴰ x g.gone) (raised-apart q k.0 (t.old i) k.2) k.1)

      go : (x : ℕ) → (x ≡ q) ⊎ Memᴰ x (map (raised q) g.gone) → x < length P
      go x (inl k) = subst (λ (y : ℕ). y < length P) (sym k) inside
      go x (inr m) = let k = Memᴰ.of_map (raised q) g.gone m in subst (λ (y : ℕ). y < length P) k.2 ((without-carries P q inside may).inside k.0 (t.goes k.0 k.1))

      every : (x : ℕ) → x < length P → (eqb x q ≡ true) ⊎ (eqb x q ≡ false) → Memᴰ x (q ∷ map (raised q) g.gone) ⊎ ((i : ℕ) × (i < length rest.pattern) × (raised q (t.old i) ≡ x))
      every x h (inl y) = inl (Memᴰ.head (eqb-true x q y))
      every x h (inr n) = at (t.all (lowered q x) (lowered-inside q x (length (without P q)) (let c = length_without P q inside in let i = inside in omega arith) (let c = length_without P q inside in omega arith) (eqb-false x q n)))
        where
          back : raised q (lowered q x) ≡ x
          back = raised-lowered q x (eqb-false x q n)

          at : Memᴰ (lowered q x) g.gone ⊎ ((i : ℕ) × (i < length rest.pattern) × (t.old i ≡ lowered q x))
              → Memᴰ x (q ∷ map (raised q) g.gone) ⊎ ((i : ℕ) × (i < length rest.pattern) × (raised q (t.old i) ≡ x))
          at (inl m) = inl (Memᴰ.tail (subst (λ (y : ℕ). Memᴰ y (map (raised q) g.gone)) back (Memᴰ.map (raised q) m)))
          at (inr k) = inr (k.0, k.1, ap (raised q) k.2 ∙ back)

      sum : {n : ℕ} → suc n ≡ length P → length r.tried ≤ length P - 1 → length (r.tried ++ rest.tried) ≡ length r.tried + length rest.tried → length rest.tried ≤ verdicts_of n
          → length (r.tried ++ rest.tried) ≤ verdicts_of (length P)
      sum {n} c a l b = subst (λ (m : ℕ). length (r.tried ++ rest.tried) ≤ verdicts_of m) c (omega arith)

  pub loop-facts : (n : ℕ) {P : Pattern} (names : List ℕ) → PatternFacts P → length P ≤ max_pattern → length P ≤ n → LoopFacts S L P names (strike_from n S L P names)
  unfolding strike_from
  loop-facts zero names p small enough = absurd (let i = p.tree.inhabited in omega arith)
  loop-facts (suc n) {P} names p small enough = go r.struck refl (λ q h may. loop-facts n {P = without P q} (removed q names) (facts-without s L p small h may) (let c = length_without P q h in omega arith) (let c = length_without P q h in omega arith))
    where
      r : Round
      r = round (verdict_without S L P) (may_go_of P)

      f : RoundFacts (verdict_without S L P) L (may_go_of P) r
      f = round-facts (verdict_without S L P) L (λ q. verdict-tried S (without P q) (P ∷ []) L) (may_go_of P)

      go : (o : Option ℕ) → r.struck ≡ o → ((q : ℕ) → q < length P → may_go P q ≡ true → LoopFacts S L (without P q) (removed q names) (strike_from n S L (without P q) (removed q names)))
          → LoopFacts S L P names (elim o as (λ _. Struck) [ none ↦ record { pattern = P; struck = []; tried = r.tried } | some q ↦ also_struck (get_or names q 0) r.tried (strike_from n S L (without P q) (removed q names)) ])
      go none e rest = ended names p r f e
      go (some q) e rest = let m = leaf-may P q (f.strikes q e).0 in went_on names p small r f q e (strike_from n S L (without P q) (removed q names)) (rest q m.0 m.1)

-- ---- what a record keeps

removed-mem : {A : Type 0} {x : A} (q : ℕ) (xs : List A) → Memᴰ x (removed q xs) → Memᴰ x xs
unfolding removed
removed-mem q [] m = m
removed-mem zero (y ∷ xs) m = Memᴰ.tail m
removed-mem (suc q) (y ∷ xs) (Memᴰ.head e) = Memᴰ.head e
removed-mem (suc q) (y ∷ xs) (Memᴰ.tail m) = Memᴰ.tail (removed-mem q xs m)

-- what holds of every record, and of each again when its parent is renumbered, holds of every record that is left
module _ (Ok : PatternRecord → Type 0) (again : (q : ℕ) (r : PatternRecord) → Ok r → Ok (relinked q r)) where
  abbrev Every : Pattern → Type 0
  Every P = (r : PatternRecord) → Memᴰ r P → Ok r

  without-every : (P : Pattern) (q : ℕ) → Every P → Every (without P q)
  unfolding without
  without-every P q h r m = let k = Memᴰ.of_map (relinked q) (removed q P) m in subst Ok k.2 (again q k.0 (h k.0 (removed-mem q P k.1)))

  from-every : (n : ℕ) (S : Summary) (L : ℕ) (P : Pattern) (names : List ℕ) → Every P → Every (strike_from n S L P names).pattern
  unfolding strike_from
  from-every zero S L P names h = h
  from-every (suc n) S L P names h = go r.struck (λ q. from-every n S L (without P q) (removed q names) (without-every P q h))
    where
      r : Round
      r = round (verdict_without S L P) (may_go_of P)

      go : (o : Option ℕ) → ((q : ℕ) → Every (strike_from n S L (without P q) (removed q names)).pattern)
          → Every (elim o as (λ _. Struck) [ none ↦ record { pattern = P; struck = []; tried = r.tried } | some q ↦ also_struck (get_or names q 0) r.tried (strike_from n S L (without P q) (removed q names)) ]).pattern
      go none rest = h
      go (some q) rest = rest q

  pub every-record : (S : Summary) (L : ℕ) (P : Pattern) → Every P → Every (strike_all S L P).pattern
  unfolding strike_all
  every-record S L P h = from-every (length P) S L P (up_from 0 (length P)) h

-- ---- from the start

module _ {S : Summary} (s : SummaryFacts S) (L : ℕ) {P : Pattern} (p : PatternFacts P) (small : length P ≤ max_pattern) where
  pub all-facts : LoopFacts S L P (up_from 0 (length P)) (strike_all S L P)
  unfolding strike_all
  all-facts = loop-facts s L (length P) (up_from 0 (length P)) p small (omega arith)

  -- the numbers are P's own
  pub struck-shortened : Shortened P (strike_all S L P).struck (strike_all S L P).pattern
  struck-shortened = subst (λ (l : List ℕ). Shortened P l (strike_all S L P).pattern) (sym own) all-facts.shortened
    where
      own : (strike_all S L P).struck ≡ all-facts.gone
      own =
          all-facts.named
          ∙ map-agree (λ j. get_or (up_from 0 (length P)) j 0) (λ j. j) all-facts.gone (λ j m. get_or-up_from 0 (length P) j 0 (all-facts.shortened.goes j m) ∙ zero-add j)
          ∙ map-id all-facts.gone
