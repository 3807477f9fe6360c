-- Question 8 of one pattern, by masks of the positions that its nodes hold. Assumes nothing.
use Prim.Native.Nat.{ℕ, zero, suc, ◌+◌, ◌^◌, ◌≤◌, ◌<◌}
use mathlib.Core.Path.{◌≡◌, refl, sym, ap, ap₂, ◌∙◌, subst}
use mathlib.Core.Bool.{Bool, true, false, ◌&&◌, ◌||◌, not, or-false}
use mathlib.Core.Logic.{◌⊎◌, inl, inr}
use native.Mathlib.Omega.{arith}
use lib.Bits.{bit_or}
use lib.Dec.{eqb, leb, ltb}
use lib.ListN.{length, take}
use lib.Seq.{take_all}
use borrow.Author.Tests.{le-leb, lt-leb, ne_eqb, eqb-true}
use Rattle.model.specs.Lists.{up_from, all_of, count_of, has}
use Rattle.model.specs.Pattern.{PatternRecord, Pattern, no_pattern_record, position, arity}
use Rattle.model.proofs.ListLaws.{true-or-false}
use Rattle.model.specs.Questions.{positions_once}
use Rattle.bits.specs.Sets.{insert_if}
use Rattle.bits.proofs.MaskLaws.{has-none, has-insert}
use Rattle.questions.specs.declared.positions.Seen.{Seen}
use Rattle.std.specs.Int.{from_bool}
use Rattle.questions.specs.Positions.{holders_of, held_once}
use Rattle.questions.specs.Seen.{Sees, SeenIn}
use Rattle.questions.proofs.TestLaws.{and_no, eqb-sym}
use Rattle.questions.proofs.LoopLaws.{count-more}

-- ---- the positions that are held, as masks

-- those that the first q nodes hold
pub record SeenBefore (P : Pattern) (q : ℕ) (h : Seen) : Type 0 where
  pub seen : SeenIn (take q P) h
  pub inside : q ≤ length P
  pub few : h.count ≤ q

pub seen_none : (P : Pattern) → SeenBefore P 0 (record { once = 0; twice = 0; count = 0 })
unfolding count_of
seen_none P = record { seen = record { once = λ i l. has-none i; twice = λ i l. has-none i; count = refl }; inside = omega arith; few = omega arith }

-- one more holder, or none
one_more : (n : ℕ) (t : Bool) → leb 1 (n + from_bool t) ≡ (leb 1 n || t)
one_more zero true = refl
one_more zero false = refl
one_more (suc n) t = le-leb 1 (suc n + from_bool t) (omega arith) ∙ sym (ap (λ (b : Bool). b || t) (le-leb 1 (suc n) (omega arith)))

two-more : (n : ℕ) (t : Bool) → leb 2 (n + from_bool t) ≡ (leb 2 n || (leb 1 n && t))
two-more zero true = refl
two-more zero false = refl
two-more (suc zero) true = refl
two-more (suc zero) false = refl
two-more (suc (suc n)) t =
    le-leb 2 (suc (suc n) + from_bool t) (omega arith)
    ∙ sym (ap (λ (b : Bool). b || (leb 1 (suc (suc n)) && t)) (le-leb 2 (suc (suc n)) (omega arith)))

-- the masks with position p
has-insert-if : (t : Bool) (m p i : ℕ) → has (insert_if t m p) i ≡ (has m i || (t && eqb i p))
unfolding insert_if
has-insert-if true m p i = has-insert m p i
has-insert-if false m p i = sym (or-false (has m i))

has_here : (m p i : ℕ) → (has m p && eqb i p) ≡ (has m i && eqb i p)
has_here m p i = go (true-or-false (eqb i p))
  where
    go : (eqb i p ≡ true) ⊎ (eqb i p ≡ false) → (has m p && eqb i p) ≡ (has m i && eqb i p)
    go (inl e) = ap (λ (x : ℕ). has m x && eqb i p) (sym (eqb-true i p e))
    go (inr e) = rw (e) (and_no (has m p) ∙ sym (and_no (has m i)))

pub sees-far : (h : Seen) (p n : ℕ) → n ≡ h.count + from_bool (ltb 0 p) → 63 < p → Sees h p (record { once = h.once; twice = h.twice; count = n })
sees-far h p n c l =
    let none : (i : ℕ) → i < 64 → eqb i p ≡ false = λ i u. ne_eqb i p (λ e. absurd (omega arith)) in
    record {
      once = λ i u. rw (none i u) (sym (or-false (has h.once i)));
      twice = λ i u. rw (none i u, and_no (has h.once i)) (sym (or-false (has h.twice i)));
      count = c;
    }

pub sees-in : (h g : Seen) (p : ℕ) (t : Bool) → g.count ≡ h.count + from_bool (ltb 0 p) → g.once ≡ bit_or h.once (2 ^ p) → t ≡ has h.once p → g.twice ≡ insert_if t h.twice p → Sees h p g
sees-in h g p t c o e w =
    record {
      once = λ i u. ap (λ (m : ℕ). has m i) o ∙ has-insert h.once p i;
      twice = λ i u.
          ap (λ (m : ℕ). has m i) w ∙ has-insert-if t h.twice p i
          ∙ ap (λ (b : Bool). has h.twice i || b) (ap (λ (b : Bool). b && eqb i p) e ∙ has_here h.once p i);
      count = c;
    }

pub seen_more : (P : Pattern) (q p : ℕ) (h g : Seen) → SeenBefore P q h → q < length P → p ≡ position P q → Sees h p g → SeenBefore P (q + 1) g
seen_more P q p h g s u e m =
    let k : g.count ≡ h.count + from_bool (ltb 0 p) = m.count in
    let o : from_bool (ltb 0 p) ≤ 1 = one_at_most (ltb 0 p) in
    let f : h.count ≤ q = s.few in
    record { seen = record { once = once₁; twice = twice₁; count = count₁ }; inside = omega arith; few = omega arith }
  where
    at : ℕ → PatternRecord → Bool
    at i r = eqb r.position i

    more : (i : ℕ) → count_of (at i) (take (q + 1) P) ≡ count_of (at i) (take q P) + from_bool (eqb i p)
    more i = count-more (at i) P no_pattern_record q (eqb i p) u (ap (λ (x : ℕ). eqb x i) (sym e) ∙ eqb-sym p i)

    one_at_most : (t : Bool) → from_bool t ≤ 1
    one_at_most true = omega arith
    one_at_most false = omega arith

    count₁ : g.count ≡ arity (take (q + 1) P)
    count₁ =
        m.count ∙ ap (λ (n : ℕ). n + from_bool (ltb 0 p)) s.seen.count
        ∙ sym (count-more (λ (r : PatternRecord). ltb 0 r.position) P no_pattern_record q (ltb 0 p) u (ap (ltb 0) (sym e)))

    once₁ : (i : ℕ) → i < 64 → has g.once i ≡ leb 1 (count_of (at i) (take (q + 1) P))
    once₁ i l = m.once i l ∙ ap (λ (t : Bool). t || eqb i p) (s.seen.once i l) ∙ sym (one_more (count_of (at i) (take q P)) (eqb i p)) ∙ sym (ap (leb 1) (more i))

    twice₁ : (i : ℕ) → i < 64 → has g.twice i ≡ leb 2 (count_of (at i) (take (q + 1) P))
    twice₁ i l =
        m.twice i l ∙ ap₂ (λ (t o : Bool). t || (o && eqb i p)) (s.seen.twice i l) (s.seen.once i l)
        ∙ sym (two-more (count_of (at i) (take q P)) (eqb i p)) ∙ sym (ap (leb 2) (more i))

pub seen_all : (P : Pattern) (q : ℕ) (h : Seen) → SeenBefore P q h → length P ≤ q → SeenIn P h
seen_all P q h s l = subst (λ (Q : Pattern). SeenIn Q h) (take_all q P l) s.seen

-- one position, by the masks
pub held-by-masks : (P : Pattern) (h : Seen) → SeenIn P h → (p : ℕ) → p ≤ 63 → (has h.once p && not (has h.twice p)) ≡ held_once P p
held-by-masks P h s p l = ap₂ (λ (a b : Bool). a && not b) (s.once p (omega arith)) (s.twice p (omega arith)) ∙ exactly (holders_of P p)
  where
    exactly : (n : ℕ) → (leb 1 n && not (leb 2 n)) ≡ eqb n 1
    exactly zero = refl
    exactly (suc zero) = refl
    exactly (suc (suc n)) = ap (λ (b : Bool). leb 1 (suc (suc n)) && not b) (le-leb 2 (suc (suc n)) (omega arith)) ∙ and_no (leb 1 (suc (suc n))) ∙ sym (ne_eqb (suc (suc n)) 1 (λ e. absurd (omega arith)))

-- 8 by k, which was read
module _ (P : Pattern) (k : ℕ) (e : k ≡ arity P) where
  pub once-none : k < 1 → false ≡ positions_once P
  unfolding positions_once
  once-none h = rw (← e, lt-leb 1 k h) refl

  pub once-each : (r : Bool) → 1 ≤ k → r ≡ all_of (held_once P) (up_from 1 k) → r ≡ positions_once P
  unfolding positions_once
  once-each r h a = rw (← e, le-leb 1 k h) a
