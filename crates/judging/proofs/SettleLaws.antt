-- Gathering may be parted: what the nodes of a set that has every child of its members pass on is gathered first, and what the others pass
-- on after it. For a node of the others passes on to one of the others, so the turns commute. So a row is settled node by node. Assumes
-- nothing.
use Prim.Native.Nat.{ℕ, zero, suc, ◌+◌, ◌-◌, ◌*◌, ◌/◌, ◌%◌, ◌≤◌, ◌<◌, max}
use mathlib.Core.Path.{◌≡◌, refl, sym, ap, ap₂, ◌∙◌, subst}
use mathlib.Core.Bool.{Bool, true, false, true≢false}
use mathlib.Core.List.{List}
use native.Mathlib.Omega.{arith}
use lib.Arith.{bin_ind}
use lib.Bits.{bit_or, or_step, or_zero_r, or_comm, or_shr}
use lib.Dec.{eqb, ltb}
use lib.ListN.{length, get_or, set, take, replicate, length-set}
use lib.Seq.{get_or-set_same, get_or-set_other, get_or-take, take-set-le, set-set, set_comm, set-get_or}
use borrow.Author.Tests.{eqb-true, eqb-false, eq-eqb, ne_eqb, ltb-true, ltb-false, lt-ltb, le-ltb}
use Rattle.model.specs.Pattern.{Pattern, IsPatternTree, pattern_parent}
use Rattle.judging.specs.Judging.{join_up, gather, Sets, hang_by, pass_by, given_by, root_by, judge_by}
use Rattle.judging.specs.Settling.{Lasts, settled_by, settled_row, folded_by, folded_row, Settled}
use Rattle.judging.specs.declared.member.Member.{Member}
use Rattle.judging.specs.declared.masks.Masks.{Masks}
use Rattle.judging.specs.Blocks.{last_in, sets_in}

-- ---- unions

-- the order of two unions does not matter
or_swap : (x a b : ℕ) → bit_or (bit_or x a) b ≡ bit_or (bit_or x b) a
or_swap = bin_ind (λ x. (a b : ℕ) → bit_or (bit_or x a) b ≡ bit_or (bit_or x b) a) (λ a b. or_comm a b) (λ x ih a b. parts x a b ∙ ap₂ (λ (m n : ℕ). m * 2 + n) (ih (a / 2) (b / 2)) (last (x % 2) (a % 2) (b % 2)) ∙ sym (parts x b a))
  where
    half : (m n : ℕ) → bit_or m n / 2 ≡ bit_or (m / 2) (n / 2)
    half m n = or_shr m n 1

    odd : (m n : ℕ) → bit_or m n % 2 ≡ max (m % 2) (n % 2)
    odd m n =
        let e : bit_or m n ≡ bit_or (m / 2) (n / 2) * 2 + max (m % 2) (n % 2) = or_step m n in
        let h : bit_or m n / 2 ≡ bit_or (m / 2) (n / 2) = half m n in
        omega arith

    last : (m n k : ℕ) → max (max m n) k ≡ max (max m k) n
    last m n k = omega arith

    parts : (x a b : ℕ) → bit_or (bit_or x a) b ≡ bit_or (bit_or (x / 2) (a / 2)) (b / 2) * 2 + max (max (x % 2) (a % 2)) (b % 2)
    parts x a b = or_step (bit_or x a) b ∙ ap₂ (λ (m n : ℕ). m * 2 + n) (ap (λ (m : ℕ). bit_or m (b / 2)) (half x a)) (ap (λ (m : ℕ). max m (b % 2)) (odd x a))

-- ---- one turn

-- a node that passes nothing on changes nothing
pub turn-none : (parent : ℕ → ℕ) (F : ℕ → ℕ → ℕ) (c : ℕ) (t : List ℕ) → F c (get_or t c 0) ≡ 0 → join_up parent F c t ≡ t
unfolding join_up
turn-none parent F c t e = ap (λ (v : ℕ). set t (parent c) (bit_or (get_or t (parent c) 0) v)) e ∙ ap (set t (parent c)) (or_zero_r (get_or t (parent c) 0)) ∙ set-get_or t (parent c) 0

turn_agree : (parent : ℕ → ℕ) (F G : ℕ → ℕ → ℕ) (c : ℕ) (t : List ℕ) → F c (get_or t c 0) ≡ G c (get_or t c 0) → join_up parent F c t ≡ join_up parent G c t
unfolding join_up
turn_agree parent F G c t e = ap (λ (v : ℕ). set t (parent c) (bit_or (get_or t (parent c) 0) v)) e

turn-length : (parent : ℕ → ℕ) (F : ℕ → ℕ → ℕ) (c : ℕ) (t : List ℕ) → length (join_up parent F c t) ≡ length t
unfolding join_up
turn-length parent F c t = length-set t (parent c) (bit_or (get_or t (parent c) 0) (F c (get_or t c 0)))

-- two turns commute where neither node is the other's parent
turn-swap : (parent : ℕ → ℕ) (F : ℕ → ℕ → ℕ) (c d : ℕ) (t : List ℕ) → (parent c ≡ d → ⊥) → (parent d ≡ c → ⊥) → parent c < length t → parent d < length t
    → join_up parent F d (join_up parent F c t) ≡ join_up parent F c (join_up parent F d t)
unfolding join_up
turn-swap parent F c d t p q k l = go (eqb (parent c) (parent d)) refl
  where
    u : ℕ
    u = parent c

    w : ℕ
    w = parent d

    a : ℕ
    a = F c (get_or t c 0)

    b : ℕ
    b = F d (get_or t d 0)

    t₁ : List ℕ
    t₁ = set t u (bit_or (get_or t u 0) a)

    t₂ : List ℕ
    t₂ = set t w (bit_or (get_or t w 0) b)

    left : join_up parent F d (join_up parent F c t) ≡ set t₁ w (bit_or (get_or t₁ w 0) b)
    left = ap (λ (e : ℕ). set t₁ w (bit_or (get_or t₁ w 0) (F d e))) (get_or-set_other t u d (bit_or (get_or t u 0) a) 0 (λ e. p (sym e)))

    right : join_up parent F c (join_up parent F d t) ≡ set t₂ u (bit_or (get_or t₂ u 0) a)
    right = ap (λ (e : ℕ). set t₂ u (bit_or (get_or t₂ u 0) (F c e))) (get_or-set_other t w c (bit_or (get_or t w 0) b) 0 (λ e. q (sym e)))

    go : (e : Bool) → eqb (parent c) (parent d) ≡ e → join_up parent F d (join_up parent F c t) ≡ join_up parent F c (join_up parent F d t)
    go true e =
        let s : u ≡ w = eqb-true u w e in
        let x : ℕ = get_or t u 0 in
        left ∙ ap (λ (i : ℕ). set t₁ i (bit_or (get_or t₁ i 0) b)) (sym s) ∙ ap (λ (v : ℕ). set t₁ u (bit_or v b)) (get_or-set_same t u (bit_or x a) 0 k)
        ∙ set-set t u (bit_or x a) (bit_or (bit_or x a) b) ∙ ap (set t u) (or_swap x a b) ∙ sym (set-set t u (bit_or x b) (bit_or (bit_or x b) a))
        ∙ ap (λ (v : ℕ). set (set t u (bit_or x b)) u (bit_or v a)) (sym (get_or-set_same t u (bit_or x b) 0 k))
        ∙ ap (λ (i : ℕ). set (set t i (bit_or (get_or t i 0) b)) u (bit_or (get_or (set t i (bit_or (get_or t i 0) b)) u 0) a)) s ∙ sym right
    go false e =
        let ne : u ≡ w → ⊥ = eqb-false u w e in
        left
        ∙ ap (λ (v : ℕ). set t₁ w (bit_or v b)) (get_or-set_other t u w (bit_or (get_or t u 0) a) 0 (λ s. ne (sym s)))
        ∙ set_comm t u w (bit_or (get_or t u 0) a) (bit_or (get_or t w 0) b) ne
        ∙ ap (λ (v : ℕ). set t₂ u (bit_or v a)) (sym (get_or-set_other t w u (bit_or (get_or t w 0) b) 0 ne))
        ∙ sym right

-- ---- parted gathering

module _ (n : ℕ) (parent : ℕ → ℕ) (earlier : (c : ℕ) → 0 < c → c < n → parent c < c) (A : ℕ → Bool)
    (closed : (c : ℕ) → 0 < c → c < n → A (parent c) ≡ true → A c ≡ true) (F : ℕ → ℕ → ℕ) where
  -- what the nodes of A pass on, and what the others do
  abbrev on : ℕ → ℕ → ℕ
  on c e = elim (A c) as (λ _. ℕ) [ true ↦ F c e | false ↦ 0 ]

  abbrev off : ℕ → ℕ → ℕ
  off c e = elim (A c) as (λ _. ℕ) [ true ↦ 0 | false ↦ F c e ]

  on-yes : (c : ℕ) (t : List ℕ) → A c ≡ true → join_up parent on c t ≡ join_up parent F c t
  on-yes c t e = turn_agree parent on F c t (ap (λ (b : Bool). elim b as (λ _. ℕ) [ true ↦ F c (get_or t c 0) | false ↦ 0 ]) e)

  on-no : (c : ℕ) (t : List ℕ) → A c ≡ false → join_up parent on c t ≡ t
  on-no c t e = turn-none parent on c t (ap (λ (b : Bool). elim b as (λ _. ℕ) [ true ↦ F c (get_or t c 0) | false ↦ 0 ]) e)

  off-yes : (c : ℕ) (t : List ℕ) → A c ≡ true → join_up parent off c t ≡ t
  off-yes c t e = turn-none parent off c t (ap (λ (b : Bool). elim b as (λ _. ℕ) [ true ↦ 0 | false ↦ F c (get_or t c 0) ]) e)

  off-no : (c : ℕ) (t : List ℕ) → A c ≡ false → join_up parent off c t ≡ join_up parent F c t
  off-no c t e = turn_agree parent off F c t (ap (λ (b : Bool). elim b as (λ _. ℕ) [ true ↦ 0 | false ↦ F c (get_or t c 0) ]) e)

  -- the turn of a node that is not in A commutes with those of the nodes of A before it
  past : (c k : ℕ) (t : List ℕ) → k < c → c < n → n ≤ length t → A c ≡ false → gather parent on k (join_up parent F c t) ≡ join_up parent F c (gather parent on k t)
  unfolding gather
  past c zero t h l m e = refl
  past c (suc k) t h l m e = go (A (suc k)) refl (λ u z. past c k u (omega arith) l z e)
    where
      go : (b : Bool) → A (suc k) ≡ b → ((u : List ℕ) → n ≤ length u → gather parent on k (join_up parent F c u) ≡ join_up parent F c (gather parent on k u))
          → gather parent on k (join_up parent on (suc k) (join_up parent F c t)) ≡ join_up parent F c (gather parent on k (join_up parent on (suc k) t))
      go true a rest =
          let i : parent c < c = earlier c (omega arith) l in
          let j : parent (suc k) < suc k = earlier (suc k) (omega arith) (omega arith) in
          let size = turn-length parent F (suc k) t in
          ap (gather parent on k) (on-yes (suc k) (join_up parent F c t) a
          ∙ turn-swap parent F c (suc k) t (λ p. true≢false (sym (closed c (omega arith) l (ap A p ∙ a)) ∙ e)) (λ p. omega arith) (omega arith) (omega arith))
          ∙ rest (join_up parent F (suc k) t) (omega arith) ∙ ap (λ (u : List ℕ). join_up parent F c (gather parent on k u)) (sym (on-yes (suc k) t a))
      go false a rest =
          ap (gather parent on k) (on-no (suc k) (join_up parent F c t) a) ∙ rest t m ∙ ap (λ (u : List ℕ). join_up parent F c (gather parent on k u)) (sym (on-no (suc k) t a))

  -- first what the nodes of A pass on, then what the others do
  pub parted : (k : ℕ) (t : List ℕ) → k < n → n ≤ length t → gather parent F k t ≡ gather parent off k (gather parent on k t)
  unfolding gather
  parted zero t h m = refl
  parted (suc k) t h m = go (A (suc k)) refl (λ u z. parted k u (omega arith) z)
    where
      size : length (join_up parent F (suc k) t) ≡ length t
      size = turn-length parent F (suc k) t

      go : (b : Bool) → A (suc k) ≡ b → ((u : List ℕ) → n ≤ length u → gather parent F k u ≡ gather parent off k (gather parent on k u))
          → gather parent F k (join_up parent F (suc k) t) ≡ gather parent off k (join_up parent off (suc k) (gather parent on k (join_up parent on (suc k) t)))
      go true a rest =
          rest (join_up parent F (suc k) t) (let s = size in omega arith)
          ∙ ap (λ (u : List ℕ). gather parent off k (gather parent on k u)) (sym (on-yes (suc k) t a))
          ∙ ap (gather parent off k) (sym (off-yes (suc k) (gather parent on k (join_up parent on (suc k) t)) a))
      go false a rest =
          rest (join_up parent F (suc k) t) (let s = size in omega arith)
          ∙ ap (gather parent off k) (past (suc k) k t (omega arith) h m a ∙ sym (off-no (suc k) (gather parent on k t) a)
          ∙ ap (λ (u : List ℕ). join_up parent off (suc k) (gather parent on k u)) (sym (on-no (suc k) t a)))

-- where what is passed on agrees, so does what is gathered
gather-agree : (parent : ℕ → ℕ) (F G : ℕ → ℕ → ℕ) (n : ℕ) (t : List ℕ) → ((c e : ℕ) → c ≤ n → F c e ≡ G c e) → gather parent F n t ≡ gather parent G n t
unfolding gather
gather-agree parent F G zero t h = refl
gather-agree parent F G (suc n) t h =
    gather-agree parent F G n (join_up parent F (suc n) t) (λ c e l. h c e (omega arith))
    ∙ ap (gather parent G n) (turn_agree parent F G (suc n) t (h (suc n) (get_or t (suc n) 0) (omega arith)))

-- nothing is passed on
gather-nothing : (parent : ℕ → ℕ) (F : ℕ → ℕ → ℕ) (k : ℕ) (t : List ℕ) → ((c e : ℕ) → 0 < c → c ≤ k → F c e ≡ 0) → gather parent F k t ≡ t
unfolding gather
gather-nothing parent F zero t h = refl
gather-nothing parent F (suc k) t h =
    ap (gather parent F k) (turn-none parent F (suc k) t (h (suc k) (get_or t (suc k) 0) (omega arith) (omega arith)))
    ∙ gather-nothing parent F k t (λ c e p l. h c e p (omega arith))

-- ---- rows

abbrev choose : ℕ → ℕ → Bool → ℕ
choose a b t = elim t as (λ _. ℕ) [ true ↦ a | false ↦ b ]

-- what a node's turn passes on, by whether its part ends with the node just placed
module _ (T : Sets) (P : Pattern) (last : ℕ → ℕ) (q : ℕ) (es : List ℕ) (c e : ℕ) where
  pub folded-yes : {l : ℕ} → l ≡ last c → l ≡ q → pass_by T P es c e ≡ folded_by T P last q es c e
  unfolding folded_by
  folded-yes p h = sym (ap (choose (pass_by T P es c e) 0) (eq-eqb (last c) q (sym p ∙ h)))

  pub folded-no : {l : ℕ} → l ≡ last c → (l ≡ q → ⊥) → folded_by T P last q es c e ≡ 0
  unfolding folded_by
  folded-no p h = ap (choose (pass_by T P es c e) 0) (ne_eqb (last c) q (λ i. h (p ∙ i)))

module _ (T : Sets) (P : Pattern) (tree : IsPatternTree P) (last : ℕ → ℕ) (L : Lasts (length P) (pattern_parent P) last) where
  -- a part that stands in a complete one is complete
  complete : (q c : ℕ) → 0 < c → c < length P → ltb (last (pattern_parent P c)) q ≡ true → ltb (last c) q ≡ true
  complete q c z h e =
      let u : last c ≤ last (pattern_parent P c) = L.up c z h in
      let k : last (pattern_parent P c) < q = ltb-true (last (pattern_parent P c)) q e in
      lt-ltb (last c) q (omega arith)

  zeros : length P ≤ 16 → length P ≤ length {A = ℕ} (replicate 16 0)
  zeros h = h

  -- before a node is placed nothing is complete
  pub settled-start : (es : List ℕ) → settled_row T P last 1 es ≡ replicate 16 0
  unfolding settled_row settled_by
  settled-start es =
      gather-nothing (pattern_parent P) (settled_by T P last 1 es) (length P - 1) (replicate 16 0) (λ c e z l.
      let i = tree.inhabited in
      let k : c ≤ last c = L.own c (omega arith) in
      ap (choose (pass_by T P es c e) 0) (le-ltb (last c) 1 (omega arith)))

  -- the images of the nodes that are placed settle it
  pub settled_same : (q : ℕ) (es fs : List ℕ) → q ≤ length P → ((c : ℕ) → c < q → get_or es c 0 ≡ get_or fs c 0) → settled_row T P last q es ≡ settled_row T P last q fs
  unfolding settled_row settled_by pass_by
  settled_same q es fs h same =
      gather-agree (pattern_parent P) (settled_by T P last q es) (settled_by T P last q fs) (length P - 1) (replicate 16 0) (λ c g l. go c g l (ltb (last c) q) refl)
    where
      under : (c : ℕ) → c < q → pattern_parent P c < q
      under zero k = subst (λ (x : ℕ). x < q) (sym tree.root) k
      under (suc c) k = let p = tree.earlier (suc c) (omega arith) (omega arith) in omega arith

      go : (c g : ℕ) → c ≤ length P - 1 → (b : Bool) → ltb (last c) q ≡ b → choose (pass_by T P es c g) 0 (ltb (last c) q) ≡ choose (pass_by T P fs c g) 0 (ltb (last c) q)
      go c g l true a =
          let i = tree.inhabited in
          let k : c ≤ last c = L.own c (omega arith) in
          let m : last c < q = ltb-true (last c) q a in
          let here = same c (omega arith) in
          let above = same (pattern_parent P c) (under c (omega arith)) in
          ap (λ (x : ℕ). choose x 0 (ltb (last c) q)) (λ j. hang_by T (above j) (here j) c g)
      go c g l false a = ap (choose (pass_by T P es c g) 0) a ∙ sym (ap (choose (pass_by T P fs c g) 0) a)

  pub settled-images : (q : ℕ) (es fs : List ℕ) → q ≤ length P → take q es ≡ take q fs → settled_row T P last q es ≡ settled_row T P last q fs
  settled-images q es fs h e = settled_same q es fs h (λ c k. sym (get_or-take q es c 0 k) ∙ ap (λ (l : List ℕ). get_or l c 0) e ∙ get_or-take q fs c 0 k)

  -- with node q placed, the parts that end with it are folded in
  pub settled-step : {q : ℕ} {row : List ℕ} (es : List ℕ) → q < length P → length P ≤ 16 → row ≡ settled_row T P last q es → folded_row T P last q es row ≡ settled_row T P last (q + 1) es
  unfolding folded_row folded_by settled_row settled_by
  settled-step {q} {row} es h few e =
      ap (gather (pattern_parent P) (folded_by T P last q es) (length P - 1)) e
      ∙ gather-agree (pattern_parent P) (folded_by T P last q es) (off (length P) (pattern_parent P) tree.earlier whole (complete q) next) (length P - 1) settled (λ c g l. sym (others c g (whole c) refl))
      ∙ ap (gather (pattern_parent P) (off (length P) (pattern_parent P) tree.earlier whole (complete q) next) (length P - 1))
      (gather-agree (pattern_parent P) (settled_by T P last q es) (on (length P) (pattern_parent P) tree.earlier whole (complete q) next) (length P - 1) (replicate 16 0) (λ c g l. sym (same c g (whole c) refl)))
      ∙ sym (parted (length P) (pattern_parent P) tree.earlier whole (complete q) next (length P - 1) (replicate 16 0) (let i = tree.inhabited in omega arith) (zeros few))
    where
      whole : ℕ → Bool
      whole c = ltb (last c) q

      next : ℕ → ℕ → ℕ
      next = settled_by T P last (q + 1) es

      settled : List ℕ
      settled = gather (pattern_parent P) (settled_by T P last q es) (length P - 1) (replicate 16 0)

      same : (c g : ℕ) (b : Bool) → whole c ≡ b → choose (next c g) 0 (whole c) ≡ settled_by T P last q es c g
      same c g true a =
          let k : last c < q = ltb-true (last c) q a in
          ap (choose (next c g) 0) a ∙ ap (choose (pass_by T P es c g) 0) (lt-ltb (last c) (q + 1) (omega arith)) ∙ sym (ap (choose (pass_by T P es c g) 0) a)
      same c g false a = ap (choose (next c g) 0) a ∙ sym (ap (choose (pass_by T P es c g) 0) a)

      others : (c g : ℕ) (b : Bool) → whole c ≡ b → choose 0 (next c g) (whole c) ≡ folded_by T P last q es c g
      others c g true a =
          let k : last c < q = ltb-true (last c) q a in
          ap (choose 0 (next c g)) a ∙ sym (ap (choose (pass_by T P es c g) 0) (ne_eqb (last c) q (λ s. omega arith)))
      others c g false a =
          let k : q ≤ last c = ltb-false (last c) q a in
          ap (choose 0 (next c g)) a ∙ ap (choose (pass_by T P es c g) 0) (ends (eqb (last c) q) refl k)
        where
          ends : (b : Bool) → eqb (last c) q ≡ b → q ≤ last c → ltb (last c) (q + 1) ≡ eqb (last c) q
          ends true s k = let i : last c ≡ q = eqb-true (last c) q s in lt-ltb (last c) (q + 1) (omega arith) ∙ sym s
          ends false s k = let i : last c ≡ q → ⊥ = eqb-false (last c) q s in le-ltb (last c) (q + 1) (omega arith) ∙ sym s

  -- where all nodes are placed it is what hangs from each
  pub settled-whole : {q : ℕ} (es : List ℕ) → q ≡ length P → judge_by T P es ≡ root_by T (get_or (settled_row T P last q es) 0 0)
  unfolding judge_by given_by settled_row settled_by
  settled-whole {q} es e =
      ap (λ (t : List ℕ). root_by T (get_or t 0 0))
      (gather-agree (pattern_parent P) (pass_by T P es) (settled_by T P last q es) (length P - 1) (replicate 16 0) (λ c g l.
      let i = tree.inhabited in
      let k : last c < length P = L.inside c (omega arith) in
      sym (ap (choose (pass_by T P es c g) 0) (lt-ltb (last c) q (omega arith)))))

-- ---- the row that stepping carries

module _ {t : Member} {m : Masks} (P : Pattern) (tree : IsPatternTree P) where
  -- a whole embedding is judged by what hangs from its root
  pub row-whole : {q : ℕ} {es row : List ℕ} → Settled t m P q es row → q ≡ length P → judge_by (sets_in t) P es ≡ root_by (sets_in t) (get_or row 0 0)
  row-whole {q} {es} s e = settled-whole (sets_in t) P tree (last_in m) s.lasts es e ∙ ap (λ (r : List ℕ). root_by (sets_in t) (get_or r 0 0)) (sym s.same)

  -- other images of the nodes that are not placed do as well
  pub row_same : {q : ℕ} {es row : List ℕ} (fs : List ℕ) → q ≤ length P → ((c : ℕ) → c < q → get_or fs c 0 ≡ get_or es c 0) → Settled t m P q es row → Settled t m P q fs row
  row_same {q} {es} fs h e s = record { lasts = s.lasts; same = s.same ∙ settled_same (sets_in t) P tree (last_in m) s.lasts q es fs h (λ c k. sym (e c k)) }

  pub row_kept : {q : ℕ} {es row : List ℕ} (fs : List ℕ) → q ≤ length P → take q fs ≡ take q es → Settled t m P q es row → Settled t m P q fs row
  row_kept {q} {es} fs h e s = record { lasts = s.lasts; same = s.same ∙ settled-images (sets_in t) P tree (last_in m) s.lasts q es fs h (sym e) }

  -- the next node is placed, and what ends with it folded in
  pub row_next : {q : ℕ} (v : ℕ) {es fs row r : List ℕ} → q < length P → length P ≤ 16 → Settled t m P q es row → fs ≡ set es q v → r ≡ folded_row (sets_in t) P (last_in m) q fs row → Settled t m P (q + 1) fs r
  row_next {q} v {es} {fs} h few s e f =
      let k = row_kept fs (omega arith) (ap (take q) e ∙ take-set-le q es q v (omega arith)) s in
      record { lasts = s.lasts; same = f ∙ settled-step (sets_in t) P tree (last_in m) s.lasts fs h few k.same }

  -- with the root placed nothing is settled
  pub row-start : (es : List ℕ) → Lasts (length P) (pattern_parent P) (last_in m) → Settled t m P 1 es (replicate 16 0)
  row-start es L = record { lasts = L; same = sym (settled-start (sets_in t) P tree (last_in m) L es) }
