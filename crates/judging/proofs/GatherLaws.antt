-- Tables that are gathered from the leaves up: nodes from the last to the first, each passing on what its entry gives to its
-- parent's. A parent comes before its children, so a node's entry is complete when its turn comes. Assumes nothing.
use Prim.Native.Nat.{ℕ, zero, suc, ◌-◌, ◌≤◌, ◌<◌}
use mathlib.Core.Path.{◌≡◌, refl, sym, ap, ap₂, ◌∙◌, subst}
use mathlib.Core.Bool.{Bool, true, false, ◌&&◌, ◌||◌, or_comm, false≢true}
use mathlib.Core.List.{List}
use native.Mathlib.Omega.{arith}
use lib.Bits.{bit_or}
use lib.Dec.{eqb, ltb}
use lib.ListN.{length, get_or, set, length-set}
use lib.Seq.{get_or-set_same, get_or-set_other}
use borrow.Author.Tests.{eqb-true, eqb-false, ne_eqb, ltb-true, ltb-false, lt-ltb}
use Rattle.model.specs.Lists.{up_from, any_of, mask_below}
use Rattle.model.proofs.ListLaws.{bool-ext, and_intro, any-intro, any-elim, mem-up_from, up_from-mem}
use Rattle.bits.proofs.MaskLaws.{any-cons, mask-agree, mask-or}
use Rattle.model.proofs.Masks.{mask-none}
use Rattle.judging.specs.Judging.{join_up, gather}

-- ---- unions over ranges

-- the numbers from a on, to c, are those from b on, where those before b do not pass
any-later : (test : ℕ → Bool) (a b c : ℕ) → a ≤ b → b ≤ c → ((i : ℕ) → a ≤ i → i < b → test i ≡ false) → any_of test (up_from a (c - a)) ≡ any_of test (up_from b (c - b))
any-later test a b c h k none =
    bool-ext (any_of test (up_from a (c - a))) (any_of test (up_from b (c - b)))
    (λ e.
    let r = any-elim test (up_from a (c - a)) e in
    let l = up_from-mem a (c - a) r.0 r.1 in
    any-intro test r.0 (up_from b (c - b)) (mem-up_from b (c - b) r.0 (late r.0 l.0 r.2 (ltb r.0 b) refl) (omega arith)) r.2)
    (λ e.
    let r = any-elim test (up_from b (c - b)) e in
    let l = up_from-mem b (c - b) r.0 r.1 in
    any-intro test r.0 (up_from a (c - a)) (mem-up_from a (c - a) r.0 (omega arith) (omega arith)) r.2)
  where
    late : (i : ℕ) → a ≤ i → test i ≡ true → (t : Bool) → ltb i b ≡ t → b ≤ i
    late i l e true q = absurd (false≢true (sym (none i l (ltb-true i b q)) ∙ e))
    late i l e false q = ltb-false i b q

-- ---- gathering

module _ (n w : ℕ) (parent : ℕ → ℕ) (F : ℕ → ℕ → ℕ) (E G : ℕ → ℕ → Bool) (earlier : (c : ℕ) → 0 < c → c < n → parent c < c)
    (passes : (c : ℕ) → 0 < c → c < n → F c (mask_below (E c) w) ≡ mask_below (G c) w)
    (sum : (x p : ℕ) → x < n → p < w → E x p ≡ any_of (λ c. ltb 0 c && eqb (parent c) x && G c p) (up_from 0 n)) where
  -- c is a child of x, and passes p on to it
  abbrev hands : ℕ → ℕ → ℕ → Bool
  hands x p c = ltb 0 c && eqb (parent c) x && G c p

  -- what the children of x from k on pass on
  abbrev from : ℕ → ℕ → ℕ → Bool
  from k x p = any_of (hands x p) (up_from k (n - k))

  -- the table after the nodes from k on
  pub record Gathered (k : ℕ) (t : List ℕ) : Type 0 where
    pub long : n ≤ length t
    pub entries : (x : ℕ) → x < n → get_or t x 0 ≡ mask_below (from k x) w

  pub gathered-start : (t : List ℕ) → n ≤ length t → ((x : ℕ) → x < n → get_or t x 0 ≡ 0) → Gathered n t
  unfolding any_of up_from
  gathered-start t l zeros =
      record {
        long = l;
        entries = λ x h. zeros x h ∙ sym (mask-none (from n x) w (λ p k. ap (λ (i : ℕ). any_of (hands x p) (up_from n i)) none));
      }
    where
      none : n - n ≡ 0
      none = omega arith

  -- a node before k, or at it, is no child of x, where x is at or past it
  not-hands : (x p c : ℕ) → c ≤ x → x < n → hands x p c ≡ false
  not-hands x p zero l h = refl
  not-hands x p (suc c) l h =
      let k : parent (suc c) < suc c = earlier (suc c) (omega arith) (omega arith) in
      ap (λ (b : Bool). ltb 0 (suc c) && b && G (suc c) p) (ne_eqb (parent (suc c)) x (λ q. omega arith)) ∙ shut (ltb 0 (suc c))
    where
      shut : (b : Bool) → (b && false && G (suc c) p) ≡ false
      shut true = refl
      shut false = refl

  -- a node's entry is complete once the nodes after it had their turn
  from-whole : (k x p : ℕ) → k ≤ suc x → x < n → p < w → from k x p ≡ E x p
  from-whole k x p l h q =
      let e : n ≡ n - 0 = omega arith in
      sym (sum x p h q
      ∙ ap (λ (i : ℕ). any_of (hands x p) (up_from 0 i)) e
      ∙ any-later (hands x p) 0 k n (omega arith) (omega arith) (λ i a b. not-hands x p i (omega arith) h))

  from_next : (c x p : ℕ) → c < n → from c x p ≡ (hands x p c || from (suc c) x p)
  unfolding up_from
  from_next c x p h =
      let e : n - c ≡ suc (n - suc c) = omega arith in
      ap (λ (i : ℕ). any_of (hands x p) (up_from c i)) e ∙ any-cons (hands x p) c (up_from (suc c) (n - suc c))

  pub gathered-step : (c : ℕ) (t : List ℕ) → 0 < c → c < n → Gathered (suc c) t → Gathered c (join_up parent F c t)
  unfolding join_up
  gathered-step c t z h g =
      record {
        long = subst (λ (l : ℕ). n ≤ l) (sym (length-set t (parent c) (bit_or (get_or t (parent c) 0) (F c (get_or t c 0))))) g.long;
        entries = λ x k. go x k (eqb (parent c) x) refl;
      }
    where
      u : ℕ
      u = parent c

      below : parent c < c
      below = earlier c z h

      passed : F c (get_or t c 0) ≡ mask_below (G c) w
      passed =
          ap (F c) (g.entries c h ∙ mask-agree (from (suc c) c) (E c) w (λ p q. from-whole (suc c) c p (omega arith) h q)) ∙ passes c z h

      go : (x : ℕ) → x < n → (b : Bool) → eqb (parent c) x ≡ b → get_or (set t (parent c) (bit_or (get_or t (parent c) 0) (F c (get_or t c 0)))) x 0 ≡ mask_below (from c x) w
      go x k true q =
          let e : parent c ≡ x = eqb-true (parent c) x q in
          let l : n ≤ length t = g.long in
          subst (λ (y : ℕ). get_or (set t y (bit_or (get_or t y 0) (F c (get_or t c 0)))) x 0 ≡ mask_below (from c x) w) (sym e)
          (get_or-set_same t x (bit_or (get_or t x 0) (F c (get_or t c 0))) 0 (omega arith)
          ∙ ap₂ bit_or (g.entries x k) passed ∙ mask-or (from (suc c) x) (G c) w
          ∙ mask-agree (λ p. from (suc c) x p || G c p) (from c x) w (λ p m. sym (from_next c x p h ∙ ap (λ (b : Bool). b || from (suc c) x p) (ap (λ (b : Bool). b && G c p) (and_intro (lt-ltb 0 c z) q)) ∙ or_comm (G c p) (from (suc c) x p))))
      go x k false q =
          let ne : parent c ≡ x → ⊥ = eqb-false (parent c) x q in
          get_or-set_other t (parent c) x (bit_or (get_or t (parent c) 0) (F c (get_or t c 0))) 0 (λ e. ne (sym e)) ∙ g.entries x k
          ∙ mask-agree (from (suc c) x) (from c x) w (λ p m. sym (from_next c x p h ∙ ap (λ (b : Bool). b || from (suc c) x p) (ap (λ (b : Bool). ltb 0 c && b && G c p) q ∙ shut (ltb 0 c) (G c p))))
        where
          shut : (a b : Bool) → (a && false && b) ≡ false
          shut true b = refl
          shut false b = refl

  gathered-gather : (c : ℕ) (t : List ℕ) → c < n → Gathered (suc c) t → Gathered 1 (gather parent F c t)
  unfolding gather
  gathered-gather zero t h g = g
  gathered-gather (suc c) t h g = gathered-gather c (join_up parent F (suc c) t) (omega arith) (gathered-step (suc c) t (omega arith) h g)

  pub gathered-end : (t : List ℕ) (x : ℕ) → Gathered 1 t → x < n → get_or t x 0 ≡ mask_below (E x) w
  gathered-end t x g h = g.entries x h ∙ mask-agree (from 1 x) (E x) w (λ p q. from-whole 1 x p (omega arith) h q)

  -- from a table of zeros, every entry is its node's set
  pub gather-entries : (t : List ℕ) (x : ℕ) → n ≤ length t → ((y : ℕ) → y < n → get_or t y 0 ≡ 0) → x < n → get_or (gather parent F (n - 1) t) x 0 ≡ mask_below (E x) w
  gather-entries t x l zeros h =
      let e : n ≡ suc (n - 1) = omega arith in
      gathered-end (gather parent F (n - 1) t) x (gathered-gather (n - 1) t (omega arith) (subst (λ (k : ℕ). Gathered k t) e (gathered-start t l zeros))) h
