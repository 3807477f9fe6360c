-- Laws of the quick test's parts: what `meets` and `offers` say, that more offered below gives more offered above, and what
-- `closed`, `hang` and `given` are without their bounds on depth. A bound suffices since children have the greater numbers.
-- Assumes nothing.
use Prim.Native.Nat.{ℕ, zero, suc, ◌+◌, ◌≤◌, ◌<◌}
use mathlib.Core.Path.{◌≡◌, refl, sym, ap, ◌∙◌, subst}
use mathlib.Core.Bool.{Bool, true, false, ◌&&◌, ◌||◌, not, false≢true}
use mathlib.Core.Logic.{◌⊎◌, inl, inr, ◌↔◌, ⊎_elim}
use mathlib.Core.List.{List, [], ◌∷◌}
use native.Mathlib.Omega.{arith}
use lib.Dec.{eqb, ltb}
use lib.ListN.{length}
use borrow.Author.Tests.{ltb-true, lt-ltb, eqb-true, eq-eqb}
use Rattle.model.specs.Lists.{up_from, any_of, all_of}
use Rattle.model.specs.Tree.{IsTree}
use Rattle.model.specs.Summary.{Summary, as_document, summary_label, StrongEdge}
use Rattle.model.specs.Pattern.{Pattern, IsPatternTree, pattern_parent, pattern_label, descends, position, pattern_figure, label_fits, figure_fits}
use Rattle.model.specs.Embeddings.{image_in}
use Rattle.model.specs.Fitting.{strong_children}
use Rattle.model.specs.Canonical.{chain}
use Rattle.model.specs.Quick.{Held, held_by, unheld, may_hold, hangs_from, meets, offers, closed_in, closed, base, union, hang, given_in, given, settled, quick}
use Rattle.model.proofs.ListLaws.{bool-ext, and_intro, and_left, and_right, or_cases, or_left, or_right, all-below, below_all, any_below, below-any, any-intro, any-elim, any-agree, up_from-mem}
use Rattle.model.proofs.TreeLaws.{child-lt, length-as_document, figure-raised}
use Rattle.model.proofs.Fitting.{strong-children-exact}
use Rattle.model.proofs.NodeByNode.{UnderOf, under-lt}

-- every element of the first set is in the second
abbrev pub Within : (ℕ → Bool) → (ℕ → Bool) → Type 0
Within f g = (p : ℕ) → f p ≡ true → g p ≡ true

-- ---- what the tests say

pub hangs-under : (Q : Pattern) (p c : ℕ) → c < length Q → hangs_from Q p c ≡ true → UnderOf Q p c
unfolding hangs_from
hangs-under Q p c h e =
    record {
      not_root = ltb-true 0 c (and_left (ltb 0 c) (eqb (pattern_parent Q c) p) e);
      inside = h;
      is_parent = eqb-true (pattern_parent Q c) p (and_right (ltb 0 c) (eqb (pattern_parent Q c) p) e);
    }

pub under-hangs : {Q : Pattern} {p c : ℕ} → UnderOf Q p c → hangs_from Q p c ≡ true
unfolding hangs_from
under-hangs {Q} {p} {c} u = and_intro (lt-ltb 0 c u.not_root) (eq-eqb (pattern_parent Q c) p u.is_parent)

-- what `may_hold` says
pub may-says : (Q : Pattern) (h : Held) (p : ℕ) → (may_hold Q h p ≡ true) ↔ (((position Q p ≡ 0) ⊎ (position Q p ≡ h.position)) × (figure_fits (pattern_figure Q p) h.figure ≡ true))
unfolding may_hold
may-says Q h p = (λ e. (place (or_cases (eqb (position Q p) 0) (eqb (position Q p) h.position) (and_left pin fit e)), and_right pin fit e), λ r. and_intro (back r.0) r.1)
  where
    pin : Bool
    pin = eqb (position Q p) 0 || eqb (position Q p) h.position

    fit : Bool
    fit = figure_fits (pattern_figure Q p) h.figure

    place : (eqb (position Q p) 0 ≡ true) ⊎ (eqb (position Q p) h.position ≡ true) → (position Q p ≡ 0) ⊎ (position Q p ≡ h.position)
    place (inl k) = inl (eqb-true (position Q p) 0 k)
    place (inr k) = inr (eqb-true (position Q p) h.position k)

    back : (position Q p ≡ 0) ⊎ (position Q p ≡ h.position) → (eqb (position Q p) 0 || eqb (position Q p) h.position) ≡ true
    back (inl k) = or_left (eqb (position Q p) h.position) (eq-eqb (position Q p) 0 k)
    back (inr k) = or_right (eqb (position Q p) 0) (eq-eqb (position Q p) h.position k)

-- what may stand where nothing is held may stand anywhere
may_more : (Q : Pattern) (h h' : Held) (p : ℕ) → (h ≡ unheld) ⊎ (h ≡ h') → may_hold Q h p ≡ true → may_hold Q h' p ≡ true
may_more Q h h' p (inl z) e = (let r = (may-says Q unheld p).0 (subst (λ (x : Held). may_hold Q x p ≡ true) z e) in (may-says Q h' p).1 (inl (free r.0), figure-raised (pattern_figure Q p) 0 h'.figure r.1 (omega arith)))
  where
    free : (position Q p ≡ 0) ⊎ (position Q p ≡ 0) → position Q p ≡ 0
    free (inl k) = k
    free (inr k) = k
may_more Q h h' p (inr z) e = subst (λ (x : Held). may_hold Q x p ≡ true) z e

-- what `meets` says
pub record Meets (S : Summary) (Q : Pattern) (x : ℕ) (h : Held) (acc : ℕ → Bool) (p : ℕ) : Type 0 where
  pub label : label_fits (pattern_label Q p) (summary_label S x) ≡ true
  pub holds : may_hold Q h p ≡ true
  pub children : (c : ℕ) → UnderOf Q p c → acc c ≡ true

pub meets-says : (S : Summary) (Q : Pattern) (x : ℕ) (h : Held) (acc : ℕ → Bool) (p : ℕ) → meets S Q x h acc p ≡ true → Meets S Q x h acc p
unfolding meets
meets-says S Q x h acc p e =
    record {
      label = and_left fit pin front;
      holds = and_right fit pin front;
      children = λ c u. ⊎_elim (λ k. absurd (outside c u k)) (λ k. k) (or_cases (not (hangs_from Q p c)) (acc c) (all-below test (length Q) (and_right (fit && pin) every e) c u.inside));
    }
  where
    fit : Bool
    fit = label_fits (pattern_label Q p) (summary_label S x)

    pin : Bool
    pin = may_hold Q h p

    test : ℕ → Bool
    test c = not (hangs_from Q p c) || acc c

    every : Bool
    every = all_of test (up_from 0 (length Q))

    front : (fit && pin) ≡ true
    front = and_left (fit && pin) every e

    outside : (c : ℕ) → UnderOf Q p c → not (hangs_from Q p c) ≡ true → ⊥
    outside c u k = false≢true (sym (ap not (under-hangs u)) ∙ k)

pub says_meets : {S : Summary} {Q : Pattern} {x : ℕ} {h : Held} {acc : ℕ → Bool} {p : ℕ} → Meets S Q x h acc p → meets S Q x h acc p ≡ true
unfolding meets
says_meets {S} {Q} {x} {h} {acc} {p} m =
    and_intro (and_intro m.label m.holds) (below_all (λ c. not (hangs_from Q p c) || acc c) (length Q) (λ c l. child c l (hangs_from Q p c) refl))
  where
    child : (c : ℕ) → c < length Q → (b : Bool) → hangs_from Q p c ≡ b → (not (hangs_from Q p c) || acc c) ≡ true
    child c l true e = or_right (not (hangs_from Q p c)) (m.children c (hangs-under Q p c l e))
    child c l false e = or_left (acc c) (ap not e)

pub offers-cases : (S : Summary) (Q : Pattern) (x : ℕ) (n : Held) (acc : ℕ → Bool) (p : ℕ) → offers S Q x n acc p ≡ true
    → (meets S Q x n acc p ≡ true) ⊎ ((descends Q p ≡ true) × (acc p ≡ true))
unfolding offers
offers-cases S Q x n acc p e =
    ⊎_elim inl (λ k. inr (and_left (descends Q p) (acc p) k, and_right (descends Q p) (acc p) k)) (or_cases (meets S Q x n acc p) (descends Q p && acc p) e)

-- what meets is offered
pub offers-met : (S : Summary) (Q : Pattern) (x : ℕ) (n : Held) (acc : ℕ → Bool) (p : ℕ) → meets S Q x n acc p ≡ true → offers S Q x n acc p ≡ true
unfolding offers
offers-met S Q x n acc p e = or_left (descends Q p && acc p) e

-- what hangs by a descendant edge is offered further
pub offers-on : (S : Summary) (Q : Pattern) (x : ℕ) (n : Held) (acc : ℕ → Bool) (p : ℕ) → descends Q p ≡ true → acc p ≡ true → offers S Q x n acc p ≡ true
unfolding offers
offers-on S Q x n acc p d e = or_right (meets S Q x n acc p) (and_intro d e)

-- ---- more below gives more above

pub meets-more : (S : Summary) (Q : Pattern) (x : ℕ) (n n' : Held) (acc acc' : ℕ → Bool) → (n ≡ unheld) ⊎ (n ≡ n') → Within acc acc' → Within (meets S Q x n acc) (meets S Q x n' acc')
meets-more S Q x n n' acc acc' k w p e =
    let m = meets-says S Q x n acc p e in
    says_meets (record { label = m.label; holds = may_more Q n n' p k m.holds; children = λ c u. w c (m.children c u) })

pub offers-more : (S : Summary) (Q : Pattern) (x : ℕ) (n n' : Held) (acc acc' : ℕ → Bool) → (n ≡ unheld) ⊎ (n ≡ n') → Within acc acc' → Within (offers S Q x n acc) (offers S Q x n' acc')
offers-more S Q x n n' acc acc' k w p e =
    ⊎_elim (λ a. offers-met S Q x n' acc' p (meets-more S Q x n n' acc acc' k w p a)) (λ a. offers-on S Q x n' acc' p a.0 (w p a.1)) (offers-cases S Q x n acc p e)

pub union_more : (f g g' : ℕ → Bool) → Within g g' → Within (union f g) (union f g')
union_more f g g' w p e = ⊎_elim (λ a. or_left (g' p) a) (λ a. or_right (f p) (w p a)) (or_cases (f p) (g p) e)

-- what the node before a chain's rest holds
abbrev pub hold : Held → List ℕ → Held
hold n [] = n
hold n (x ∷ xs) = unheld

pub hang-nil : (S : Summary) (Q : Pattern) (n : Held) (g : ℕ → Bool) → hang S Q n g [] ≡ g
unfolding hang
hang-nil S Q n g = refl

pub hang-cons : (S : Summary) (Q : Pattern) (n : Held) (g : ℕ → Bool) (x : ℕ) (xs : List ℕ) → hang S Q n g (x ∷ xs) ≡ offers S Q x (hold n xs) (union (closed S Q x) (hang S Q n g xs))
unfolding hang
hang-cons S Q n g x [] = refl
hang-cons S Q n g x (y ∷ ys) = refl

pub hang-more : (S : Summary) (Q : Pattern) (n : Held) (g g' : ℕ → Bool) (xs : List ℕ) → Within g g' → Within (hang S Q n g xs) (hang S Q n g' xs)
unfolding hang
hang-more S Q n g g' [] w = w
hang-more S Q n g g' (x ∷ xs) w =
    rw (hang-cons S Q n g x xs, hang-cons S Q n g' x xs)
    (offers-more S Q x (hold n xs) (hold n xs) (union (closed S Q x) (hang S Q n g xs)) (union (closed S Q x) (hang S Q n g' xs)) (inr refl) (union_more (closed S Q x) (hang S Q n g xs) (hang S Q n g' xs) (hang-more S Q n g g' xs w)))

-- ---- what the filled-up children offer, without the bound

-- one level
closed_in-elim : (n : ℕ) (S : Summary) (Q : Pattern) (x p : ℕ) → closed_in (suc n) S Q x p ≡ true → (t : ℕ) × StrongEdge S x t × (offers S Q t unheld (closed_in n S Q t) p ≡ true)
unfolding closed_in
closed_in-elim n S Q x p e =
    let r = any-elim (λ t. offers S Q t unheld (closed_in n S Q t) p) (strong_children S x) e in
    (r.0, (strong-children-exact S x r.0).0 r.1, r.2)

closed_in-intro : (n : ℕ) (S : Summary) (Q : Pattern) (x t p : ℕ) → StrongEdge S x t → offers S Q t unheld (closed_in n S Q t) p ≡ true → closed_in (suc n) S Q x p ≡ true
unfolding closed_in
closed_in-intro n S Q x t p d e = any-intro (λ t. offers S Q t unheld (closed_in n S Q t) p) t (strong_children S x) ((strong-children-exact S x t).1 d) e

strong-below : {S : Summary} {s t : ℕ} → IsTree (as_document S) → StrongEdge S s t → (s < t) × (t < length S)
strong-below {S} {s} {t} T d = (child-lt T d.child, subst (λ (x : ℕ). t < x) (length-as_document S) d.child.inside)

-- a bound that reaches the last summary node is as good as any
closed-enough : (n m : ℕ) (S : Summary) (Q : Pattern) (x : ℕ) → IsTree (as_document S) → length S ≤ m + x → Within (closed_in n S Q x) (closed_in m S Q x)
unfolding closed_in
closed-enough zero m S Q x T h p e = absurd (false≢true e)
closed-enough (suc n) zero S Q x T h p e =
    let r = closed_in-elim n S Q x p e in
    let b : (x < r.0) × (r.0 < length S) = strong-below T r.1 in
    absurd (omega arith)
closed-enough (suc n) (suc m) S Q x T h p e =
    let r = closed_in-elim n S Q x p e in
    let t : ℕ = r.0 in
    let b : (x < t) × (t < length S) = strong-below T r.1 in
    closed_in-intro m S Q x t p r.1 (offers-more S Q t unheld unheld (closed_in n S Q t) (closed_in m S Q t) (inl refl) (closed-enough n m S Q t T (omega arith)) p r.2)

-- what the filled-up children offer: what one of them offers
pub closed-elim : (S : Summary) (Q : Pattern) (x p : ℕ) → IsTree (as_document S) → closed S Q x p ≡ true → (t : ℕ) × StrongEdge S x t × (offers S Q t unheld (closed S Q t) p ≡ true)
unfolding closed
closed-elim S Q x p T e = closed_in-elim (length S) S Q x p (closed-enough (length S) (suc (length S)) S Q x T (omega arith) p e)

pub closed-intro : (S : Summary) (Q : Pattern) (x t p : ℕ) → IsTree (as_document S) → StrongEdge S x t → offers S Q t unheld (closed S Q t) p ≡ true → closed S Q x p ≡ true
unfolding closed
closed-intro S Q x t p T d e = closed-enough (suc (length S)) (length S) S Q x T (omega arith) p (closed_in-intro (length S) S Q x t p d e)

-- so `closed` keeps its own equation
pub closed-equation : (S : Summary) (Q : Pattern) (x p : ℕ) → IsTree (as_document S) → closed S Q x p ≡ any_of (λ t. offers S Q t unheld (closed S Q t) p) (strong_children S x)
closed-equation S Q x p T =
    bool-ext (closed S Q x p) (any_of (λ t. offers S Q t unheld (closed S Q t) p) (strong_children S x))
    (λ e. let r = closed-elim S Q x p T e in any-intro (λ t. offers S Q t unheld (closed S Q t) p) r.0 (strong_children S x) ((strong-children-exact S x r.0).1 r.1) r.2)
    (λ e. let r = any-elim (λ t. offers S Q t unheld (closed S Q t) p) (strong_children S x) e in closed-intro S Q x r.0 p T ((strong-children-exact S x r.0).0 r.1) r.2)

-- ---- what the chains that hang from a pattern node offer, without the bound

module _ (S : Summary) (P Q : Pattern) (es : List ℕ) where
  -- the chain of c, hung from j's own node, with g offered to its last
  abbrev chain_of : (ℕ → ℕ → Bool) → ℕ → ℕ → ℕ → Bool
  chain_of g j c = hang S Q (held_by P c) (g c) (chain S (image_in es j) (image_in es c))

  given_in-elim : (n j p : ℕ) → given_in (suc n) S P Q es j p ≡ true → (c : ℕ) × UnderOf P j c × (chain_of (given_in n S P Q es) j c p ≡ true)
  unfolding given_in
  given_in-elim n j p e =
      let r = any_below (λ c. hangs_from P j c && chain_of (given_in n S P Q es) j c p) (length P) e in
      let c : ℕ = r.0 in
      (c, hangs-under P j c r.1 (and_left (hangs_from P j c) (chain_of (given_in n S P Q es) j c p) r.2), and_right (hangs_from P j c) (chain_of (given_in n S P Q es) j c p) r.2)

  given_in-intro : (n j c p : ℕ) → UnderOf P j c → chain_of (given_in n S P Q es) j c p ≡ true → given_in (suc n) S P Q es j p ≡ true
  unfolding given_in
  given_in-intro n j c p u e = below-any (λ c. hangs_from P j c && chain_of (given_in n S P Q es) j c p) (length P) c u.inside (and_intro (under-hangs u) e)

  -- a bound that reaches the last pattern node is as good as any
  given-enough : (n m j : ℕ) → IsPatternTree P → length P ≤ m + j → Within (given_in n S P Q es j) (given_in m S P Q es j)
  unfolding given_in
  given-enough zero m j T h p e = absurd (false≢true e)
  given-enough (suc n) zero j T h p e =
      let r = given_in-elim n j p e in
      let b : j < r.0 = under-lt T r.1 in
      let i : r.0 < length P = r.1.inside in
      absurd (omega arith)
  given-enough (suc n) (suc m) j T h p e =
      let r = given_in-elim n j p e in
      let c : ℕ = r.0 in
      let b : j < c = under-lt T r.1 in
      given_in-intro m j c p r.1
      (hang-more S Q (held_by P c) (given_in n S P Q es c) (given_in m S P Q es c) (chain S (image_in es j) (image_in es c)) (given-enough n m c T (omega arith)) p r.2)

  -- what is given at j: what the chain of one of j's children offers
  pub given-elim : (j p : ℕ) → IsPatternTree P → given S P Q es j p ≡ true
      → (c : ℕ) × UnderOf P j c × (hang S Q (held_by P c) (given S P Q es c) (chain S (image_in es j) (image_in es c)) p ≡ true)
  unfolding given
  given-elim j p T e = given_in-elim (length P) j p (given-enough (length P) (suc (length P)) j T (omega arith) p e)

  pub given-intro : (j c p : ℕ) → IsPatternTree P → UnderOf P j c → hang S Q (held_by P c) (given S P Q es c) (chain S (image_in es j) (image_in es c)) p ≡ true
      → given S P Q es j p ≡ true
  unfolding given
  given-intro j c p T u e = given-enough (suc (length P)) (length P) j T (omega arith) p (given_in-intro (length P) j c p u e)

  -- so `given` keeps its own equation
  pub given-equation : (j p : ℕ) → IsPatternTree P
      → given S P Q es j p ≡ any_of (λ c. hangs_from P j c && hang S Q (held_by P c) (given S P Q es c) (chain S (image_in es j) (image_in es c)) p) (up_from 0 (length P))
  given-equation j p T = bool-ext (given S P Q es j p) (any_of test (up_from 0 (length P))) there back
    where
      test : ℕ → Bool
      test c = hangs_from P j c && chain_of (given S P Q es) j c p

      there : given S P Q es j p ≡ true → any_of test (up_from 0 (length P)) ≡ true
      there e = let r = given-elim j p T e in below-any test (length P) r.0 r.1.inside (and_intro (under-hangs r.1) r.2)

      back : any_of test (up_from 0 (length P)) ≡ true → given S P Q es j p ≡ true
      back e =
          let r = any_below test (length P) e in
          let c : ℕ = r.0 in
          given-intro j c p T (hangs-under P j c r.1 (and_left (hangs_from P j c) (chain_of (given S P Q es) j c p) r.2)) (and_right (hangs_from P j c) (chain_of (given S P Q es) j c p) r.2)

  -- where every part lies before q, all that hangs from a node is settled
  pub settled-given : (last : ℕ → ℕ) (q j p : ℕ) → IsPatternTree P → ((c : ℕ) → c < length P → last c < q) → settled S P Q last es q j p ≡ given S P Q es j p
  unfolding settled
  settled-given last q j p T h =
      any-agree (λ c. hangs_from P j c && (ltb (last c) q && chain_of (given S P Q es) j c p)) (λ c. hangs_from P j c && chain_of (given S P Q es) j c p) (up_from 0 (length P))
      (λ c m. (let k = (up_from-mem 0 (length P) c m).1 in ap (λ (b : Bool). hangs_from P j c && (b && chain_of (given S P Q es) j c p)) (lt-ltb (last c) q (h c (omega arith)))))
      ∙ sym (given-equation j p T)

  -- and the quick test asks of it at the root
  pub settled-quick : (last : ℕ → ℕ) → IsPatternTree P → ((c : ℕ) → c < length P → last c < length P)
      → quick S P Q es ≡ meets S Q 0 (held_by P 0) (union (base S Q) (settled S P Q last es (length P) 0)) 0
  unfolding quick
  settled-quick last T h = ap (λ (g : ℕ → Bool). meets S Q 0 (held_by P 0) (union (base S Q) g) 0) (λ i p. sym (settled-given last (length P) 0 p T h) i)
