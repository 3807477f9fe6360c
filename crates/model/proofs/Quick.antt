-- The quick test equals "the trial passes". Each node of the laid-out table meets and offers what the quick test computes for
-- its summary node and its chain's rest: what its children offer is what their summary nodes and chains offer. So the
-- member's part from p down embeds at a node exactly when p meets there. Assumes nothing.
use Prim.Native.Nat.{ℕ, zero, suc, ◌+◌, ◌-◌, ◌≤◌, ◌<◌}
use mathlib.Core.Path.{◌≡◌, refl, sym, ap, ◌∙◌, subst}
use mathlib.Core.Bool.{Bool, true, false, false≢true}
use mathlib.Core.Logic.{◌⊎◌, inl, inr, ◌↔◌, ⊎_elim}
use mathlib.Core.List.{List, [], ◌∷◌, map, nil≢cons}
use native.Mathlib.Omega.{arith}
use native.Mathlib.Nat.{eq-zero-or-pos}
use lib.ListN.{length, get_or, length-map}
use Rattle.model.specs.Tree.{Document, IsTree, figure_of, Child, Below, once, down, Edge}
use Rattle.model.specs.Summary.{Summary, as_document}
use Rattle.model.specs.Pattern.{Pattern, pattern_parent, pattern_label, descends, position, pattern_figure, label_fits, figure_fits, arity, node_at, return_nodes, Result}
use Rattle.model.specs.Embeddings.{image_in, is_result}
use Rattle.model.specs.Canonical.{Spot, spot_parent, spot_at, chain, canonical_spots, spot_records, canonical, own_nodes, own_figure, own_result, passes}
use Rattle.model.specs.Facts.{SummaryFacts, PatternFacts}
use Rattle.model.specs.Quick.{Held, held_by, unheld, may_hold, meets, offers, closed, union, hang, given, quick}
use Rattle.model.proofs.ListLaws.{or_cases, or_left, or_right, bool-ext, true-or-false}
use Rattle.model.proofs.TreeLaws.{below-trans}
use Rattle.model.proofs.Laid.{Laid, SpotChild, ChainChild, InChain, TopOfChain, spot_owner, spot_filled}
use Rattle.model.proofs.Chains.{chain-self}
use Rattle.model.proofs.SpotLaws.{in_table, in-document, spot-label, spot-figure, spot-child, child-spot}
use Rattle.model.proofs.Figures.{own-figure-cases, own-figure}
use Rattle.model.proofs.NodeByNode.{UnderOf, under-lt, Can, can, Pinned, PinnedIn, result-can}
use Rattle.model.proofs.ReturnNodes.{length-return_nodes, return-at, returns-at}
use Rattle.model.proofs.QuickLaws.{Within, may-says, Meets, meets-says, says_meets, offers-cases, offers-met, offers-on, offers-more, hold, hang-nil, hang-cons, closed-elim, closed-intro, given-elim, given-intro}

-- ---- edges

-- a child will do for any edge
edge-child : (b : Bool) {W : Document} {v w : ℕ} → Child W v w → Edge b W v w
edge-child true c = once c
edge-child false c = c

-- a descendant edge may start one step higher
edge-higher : (b : Bool) {W : Document} {v w : ℕ} (y : ℕ) → b ≡ true → Child W v w → Edge b W w y → Edge b W v y
edge-higher true y d c m = below-trans (once c) m
edge-higher false y d c m = absurd (false≢true d)

-- ---- what each node of the table holds, is offered, meets and offers

module _ (S : Summary) (P Q : Pattern) (es : List ℕ) (spots : List Spot) (own : List ℕ) where
  -- the table as a document
  abbrev trial : Document
  trial = spot_records S (own_figure P own) spots

  -- the summary nodes that are still to come in the chain of the node's owner
  abbrev rest : ℕ → List ℕ
  rest v = chain S (spot_at spots v) (image_in es (spot_owner spots v))

  -- what the node holds
  held : ℕ → Held
  held v = elim (spot_filled spots v) [ true ↦ unheld | false ↦ hold (held_by P (spot_owner spots v)) (rest v) ]

  -- what the chains below it offer
  chained : ℕ → ℕ → Bool
  chained v = elim (spot_filled spots v) [ true ↦ λ _. false | false ↦ hang S Q (held_by P (spot_owner spots v)) (given S P Q es (spot_owner spots v)) (rest v) ]

  abbrev acc_at : ℕ → ℕ → Bool
  acc_at v = union (closed S Q (spot_at spots v)) (chained v)

  abbrev meets_at : ℕ → ℕ → Bool
  meets_at v = meets S Q (spot_at spots v) (held v) (acc_at v)

  abbrev offers_at : ℕ → ℕ → Bool
  offers_at v = offers S Q (spot_at spots v) (held v) (acc_at v)

  -- a child of v offers p
  abbrev Offered : ℕ → ℕ → Type 0
  Offered v p = (w : ℕ) × SpotChild spots v w × (offers_at w p ≡ true)

  -- p meets at a node below v that p's edge allows
  abbrev MetBelow : ℕ → ℕ → Type 0
  MetBelow v p = (w : ℕ) × Edge (descends Q p) trial v w × (w < length spots) × (meets_at w p ≡ true)

  held-filled : (v : ℕ) → spot_filled spots v ≡ true → held v ≡ unheld
  unfolding held
  held-filled v e = rw (e, held) refl

  held-unfilled : (v : ℕ) → spot_filled spots v ≡ false → held v ≡ hold (held_by P (spot_owner spots v)) (rest v)
  unfolding held
  held-unfilled v e = rw (e, held) refl

  chained-filled : (v p : ℕ) → spot_filled spots v ≡ true → chained v p ≡ true → ⊥
  unfolding chained
  chained-filled v p e h = false≢true (rw (e, chained) at h)

  chained-unfilled : (v : ℕ) → spot_filled spots v ≡ false → chained v ≡ hang S Q (held_by P (spot_owner spots v)) (given S P Q es (spot_owner spots v)) (rest v)
  unfolding chained
  chained-unfilled v e = rw (e, chained) refl

  -- a node of a chain offers what the chain from it on offers
  offers-chain : (v : ℕ) → spot_filled spots v ≡ false → offers_at v ≡ hang S Q (held_by P (spot_owner spots v)) (given S P Q es (spot_owner spots v)) (spot_at spots v ∷ rest v)
  offers-chain v e =
      rw (held-unfilled v e, chained-unfilled v e) (sym (hang-cons S Q (held_by P (spot_owner spots v)) (given S P Q es (spot_owner spots v)) (spot_at spots v) (rest v)))

  module _ (L : Laid S P es spots own) (T : IsTree (as_document S)) (F : PatternFacts P) (G : PatternFacts Q) (same : arity P ≡ arity Q) where
    -- the own nodes at the first pattern's positions
    abbrev returned : List ℕ
    returned = map (image_in own) (return_nodes P)

    -- the own node of pattern node j has no rest, holds j's position and is offered what j's children give
    own-rest : (j : ℕ) → j < length P → rest (image_in own j) ≡ []
    own-rest j h = rw (L.own_at j h, L.own_owner j h) (chain-self S (image_in es j))

    own_held : (j : ℕ) → j < length P → held (image_in own j) ≡ held_by P j
    own_held j h = held-unfilled (image_in own j) (L.own_unfilled j h) ∙ rw (own-rest j h, L.own_owner j h) refl

    own-chained : (j : ℕ) → j < length P → chained (image_in own j) ≡ given S P Q es j
    own-chained j h =
        chained-unfilled (image_in own j) (L.own_unfilled j h) ∙ rw (own-rest j h, L.own_owner j h) (hang-nil S Q (held_by P j) (given S P Q es j))

    -- a node of a chain without rest is its owner's own node
    rest-own : (v : ℕ) → v < length spots → spot_filled spots v ≡ false → rest v ≡ [] → v ≡ image_in own (spot_owner spots v)
    rest-own v h u e = L.own_only v h u (L.chain_end v h u e)

    -- ---- what a child offers is offered to its parent

    -- a filled-up child hangs by a strong edge
    filled-up : (w p : ℕ) → 0 < w → w < length spots → spot_filled spots w ≡ true → offers_at w p ≡ true → acc_at (spot_parent spots w) p ≡ true
    filled-up w p z h f e =
        or_left (chained (spot_parent spots w) p)
        (closed-intro S Q (spot_at spots (spot_parent spots w)) (spot_at spots w) p T (L.filled_up w z h f)
        (offers-more S Q (spot_at spots w) (held w) unheld (acc_at w) (closed S Q (spot_at spots w)) (inl (held-filled w f)) only p e))
      where
        only : Within (acc_at w) (closed S Q (spot_at spots w))
        only q a = ⊎_elim (λ k. k) (λ k. absurd (chained-filled w q f k)) (or_cases (closed S Q (spot_at spots w) q) (chained w q) a)

    -- a chain's rest offers what its next node offers
    chain-up : (w : ℕ) → spot_filled spots w ≡ false → InChain S es spots w → chained (spot_parent spots w) ≡ offers_at w
    chain-up w f c = chained-unfilled (spot_parent spots w) c.unfilled ∙ rw (c.owner, c.chained) (sym (offers-chain w f))

    -- the chain of a pattern node's child offers what its first node offers
    top-offers : (w j : ℕ) → spot_filled spots w ≡ false → pattern_parent P (spot_owner spots w) ≡ j → TopOfChain S P es own spots w
        → hang S Q (held_by P (spot_owner spots w)) (given S P Q es (spot_owner spots w)) (chain S (image_in es j) (image_in es (spot_owner spots w))) ≡ offers_at w
    top-offers w j f k c = rw (sym k, c.chained) (sym (offers-chain w f))

    top_up : (w p : ℕ) → w < length spots → spot_filled spots w ≡ false → TopOfChain S P es own spots w → offers_at w p ≡ true → chained (spot_parent spots w) p ≡ true
    top_up w p h f c e =
        let q : ℕ = spot_owner spots w in
        let j : ℕ = pattern_parent P q in
        let i : q < length P = L.owners w h in
        let l : j < q = F.tree.earlier q c.owner i in
        let g : given S P Q es j p ≡ true = given-intro S P Q es j q p F.tree (record { not_root = c.owner; inside = i; is_parent = refl }) (ap (λ (o : ℕ → Bool). o p) (top-offers w j f refl c) ∙ e) in
        ap (λ (v : ℕ). chained v p) c.hangs ∙ ap (λ (o : ℕ → Bool). o p) (own-chained j (omega arith)) ∙ g

    step-up : (v w p : ℕ) → SpotChild spots v w → offers_at w p ≡ true → acc_at v p ≡ true
    step-up v w p c e = subst (λ (x : ℕ). acc_at x p ≡ true) c.is_parent (go (true-or-false (spot_filled spots w)))
      where
        unfilled : spot_filled spots w ≡ false → InChain S es spots w ⊎ TopOfChain S P es own spots w → chained (spot_parent spots w) p ≡ true
        unfilled f (inl k) = ap (λ (o : ℕ → Bool). o p) (chain-up w f k) ∙ e
        unfilled f (inr k) = top_up w p c.inside f k e

        go : (spot_filled spots w ≡ true) ⊎ (spot_filled spots w ≡ false) → acc_at (spot_parent spots w) p ≡ true
        go (inl f) = filled-up w p c.not_root c.inside f e
        go (inr f) = or_right (closed S Q (spot_at spots (spot_parent spots w)) p) (unfilled f (L.chain_up w c.not_root c.inside f))

    -- ---- what is offered to a node is offered by one of its children

    -- a strong edge's child, whatever its tag, offers what a filled-up one does
    closed-down : (v p : ℕ) → v < length spots → closed S Q (spot_at spots v) p ≡ true → Offered v p
    closed-down v p h e =
        let r = closed-elim S Q (spot_at spots v) p T e in
        let k = L.complete v r.0 h r.1 in
        let w : ℕ = k.0 in
        let o : offers S Q (spot_at spots w) unheld (closed S Q (spot_at spots w)) p ≡ true = subst (λ (x : ℕ). offers S Q x unheld (closed S Q x) p ≡ true) (sym k.2) r.2 in
        (w, k.1, offers-more S Q (spot_at spots w) unheld (held w) (closed S Q (spot_at spots w)) (acc_at w) (inl refl) (λ q a. or_left (chained w q) a) p o)

    -- the parent of a chain's first node has a lesser owner
    top-owner : (w : ℕ) → w < length spots → TopOfChain S P es own spots w → spot_owner spots (spot_parent spots w) < spot_owner spots w
    top-owner w h c =
        let q : ℕ = spot_owner spots w in
        let i : q < length P = L.owners w h in
        let l : pattern_parent P q < q = F.tree.earlier q c.owner i in
        let o : spot_owner spots (spot_parent spots w) ≡ pattern_parent P q = ap (spot_owner spots) c.hangs ∙ L.own_owner (pattern_parent P q) (omega arith) in
        subst (λ (x : ℕ). x < q) (sym o) l

    -- the next node of a chain
    next_down : (v x p : ℕ) (xs : List ℕ) → v < length spots → spot_filled spots v ≡ false → rest v ≡ x ∷ xs → chained v p ≡ true → Offered v p
    next_down v x p xs h f e a = (w, c.child, go (L.chain_up w c.child.not_root c.child.inside c.unfilled))
      where
        c : ChainChild spots v (spot_owner spots v) x
        c = L.chain_next v h f x xs e

        w : ℕ
        w = c.node

        kept : spot_owner spots (spot_parent spots w) ≡ spot_owner spots w
        kept = ap (spot_owner spots) c.child.is_parent ∙ sym c.owner

        go : InChain S es spots w ⊎ TopOfChain S P es own spots w → offers_at w p ≡ true
        go (inl k) = ap (λ (o : ℕ → Bool). o p) (sym (chain-up w c.unfilled k)) ∙ ap (λ (y : ℕ). chained y p) c.child.is_parent ∙ a
        go (inr k) = absurd (omega (arith, kept, top-owner w c.child.inside k))

    -- the first node of a chain that hangs from an own node
    first-down : (j p : ℕ) → j < length P → given S P Q es j p ≡ true → Offered (image_in own j) p
    first-down j p h e = (w, at, go (L.chain_up w at.not_root at.inside k.unfilled))
      where
        g : (c : ℕ) × UnderOf P j c × (hang S Q (held_by P c) (given S P Q es c) (chain S (image_in es j) (image_in es c)) p ≡ true)
        g = given-elim S P Q es j p F.tree e

        c : ℕ
        c = g.0

        u : UnderOf P j c
        u = g.1

        m : (x : ℕ) × (xs : List ℕ) × (chain S (image_in es (pattern_parent P c)) (image_in es c) ≡ x ∷ xs)
        m = L.chain_nonempty c u.not_root u.inside

        k : ChainChild spots (image_in own (pattern_parent P c)) c m.0
        k = L.chain_first c u.not_root u.inside m.0 m.1 m.2

        w : ℕ
        w = k.node

        at : SpotChild spots (image_in own j) w
        at = subst (λ (y : ℕ). SpotChild spots (image_in own y) w) u.is_parent k.child

        above : spot_owner spots (spot_parent spots w) ≡ j
        above = ap (spot_owner spots) at.is_parent ∙ L.own_owner j h

        go : InChain S es spots w ⊎ TopOfChain S P es own spots w → offers_at w p ≡ true
        go (inl t) = absurd (omega (arith, above, t.owner, k.owner, under-lt F.tree u))
        go (inr t) =
            ap (λ (o : ℕ → Bool). o p) (sym (top-offers w j k.unfilled (ap (pattern_parent P) k.owner ∙ u.is_parent) t))
            ∙ ap (λ (y : ℕ). hang S Q (held_by P y) (given S P Q es y) (chain S (image_in es j) (image_in es y)) p) k.owner ∙ g.2

    chained-down : (v p : ℕ) → v < length spots → spot_filled spots v ≡ false → chained v p ≡ true → Offered v p
    chained-down v p h f a = go (rest v) refl
      where
        last : rest v ≡ [] → Offered v p
        last e =
            let j : ℕ = spot_owner spots v in
            let o : v ≡ image_in own j = rest-own v h f e in
            let i : j < length P = L.owners v h in
            let g : given S P Q es j p ≡ true = ap (λ (s : ℕ → Bool). s p) (sym (own-chained j i)) ∙ ap (λ (y : ℕ). chained y p) (sym o) ∙ a in
            subst (λ (y : ℕ). Offered y p) (sym o) (first-down j p i g)

        go : (xs : List ℕ) → rest v ≡ xs → Offered v p
        go [] e = last e
        go (x ∷ xs) e = next_down v x p xs h f e a

    step_down : (v p : ℕ) → v < length spots → acc_at v p ≡ true → Offered v p
    step_down v p h a = go (or_cases (closed S Q (spot_at spots v) p) (chained v p) a)
      where
        by-tag : chained v p ≡ true → (spot_filled spots v ≡ true) ⊎ (spot_filled spots v ≡ false) → Offered v p
        by-tag e (inl f) = absurd (chained-filled v p f e)
        by-tag e (inr f) = chained-down v p h f e

        go : (closed S Q (spot_at spots v) p ≡ true) ⊎ (chained v p ≡ true) → Offered v p
        go (inl e) = closed-down v p h e
        go (inr e) = by-tag e (true-or-false (spot_filled spots v))

    -- ---- positions

    -- where v is the first pattern's own node at the position of p, v holds that position
    pin-held : (p v : ℕ) → p < length Q → Pinned Q returned p v → (position Q p ≡ 0) ⊎ (position Q p ≡ (held v).position)
    pin-held p v h (inl k) = inl k
    pin-held p v h (inr k) = go (eq-zero-or-pos (position Q p))
      where
        go : (position Q p ≡ 0) ⊎ (0 < position Q p) → (position Q p ≡ 0) ⊎ (position Q p ≡ (held v).position)
        go (inl z) = inl z
        go (inr z) =
            let b : position Q p ≤ arity Q = G.range p h in
            let l : position Q p ≤ arity P = omega arith in
            let j : ℕ = node_at P (position Q p) in
            let o : v ≡ image_in own j = k ∙ return-at P (image_in own) (position Q p) z l in
            inr (sym (ap (λ (h : Held). h.position) (ap held o ∙ own_held j (F.holds (position Q p) z l)) ∙ F.held (position Q p) z l))

    -- a node that holds a position is the own node at that position
    held-own : (v : ℕ) → v < length spots → 0 < (held v).position → v ≡ get_or returned ((held v).position - 1) 0
    held-own v h z = go (true-or-false (spot_filled spots v))
      where
        ends : spot_filled spots v ≡ false → (xs : List ℕ) → rest v ≡ xs → (held v).position ≡ (hold (held_by P (spot_owner spots v)) xs).position → v ≡ get_or returned ((held v).position - 1) 0
        ends f [] e k =
            let y : 0 < position P (spot_owner spots v) = omega arith in
            rest-own v h f e
            ∙ sym (ap (λ (x : ℕ). get_or returned (x - 1) 0) k ∙ returns-at (image_in own) (spot_owner spots v) F (L.owners v h) y)
        ends f (x ∷ xs) e k = absurd (omega arith)

        go : (spot_filled spots v ≡ true) ⊎ (spot_filled spots v ≡ false) → v ≡ get_or returned ((held v).position - 1) 0
        go (inl f) = absurd (omega (arith, ap (λ (h : Held). h.position) (held-filled v f)))
        go (inr f) = ends f (rest v) refl (ap (λ (h : Held). h.position) (held-unfilled v f))

    held-pin : (p v : ℕ) → v < length spots → (position Q p ≡ 0) ⊎ (position Q p ≡ (held v).position) → Pinned Q returned p v
    held-pin p v h (inl k) = inl k
    held-pin p v h (inr k) = go (position Q p) refl
      where
        go : (n : ℕ) → position Q p ≡ n → Pinned Q returned p v
        go zero e = inl e
        go (suc i) e = inr (held-own v h (omega arith) ∙ ap (λ (x : ℕ). get_or returned (x - 1) 0) (sym k))

    -- ---- figures

    -- a node's figure is the one that it holds
    held-figure : (v : ℕ) → v < length spots → figure_of trial v ≡ (held v).figure
    held-figure v h = spot-figure S (own_figure P own) spots v h ∙ go (true-or-false (spot_filled spots v))
      where
        -- a node that is nobody's own has figure 0
        none : ((q : ℕ) → q < length P → image_in own q ≡ v → ⊥) → own_figure P own v ≡ 0
        none f = ⊎_elim (λ r. absurd (f r.0 r.1 r.2)) (λ z. z) (own-figure-cases P own v)

        ends : spot_filled spots v ≡ false → (xs : List ℕ) → rest v ≡ xs → own_figure P own v ≡ (hold (held_by P (spot_owner spots v)) xs).figure
        ends f [] e = ap (own_figure P own) (rest-own v h f e) ∙ own-figure L (spot_owner spots v) (L.owners v h)
        ends f (x ∷ xs) e = none (λ q l k. nil≢cons (sym (own-rest q l) ∙ ap rest k ∙ e))

        go : (spot_filled spots v ≡ true) ⊎ (spot_filled spots v ≡ false) → own_figure P own v ≡ (held v).figure
        go (inl f) = none (λ q l k. false≢true (sym (L.own_unfilled q l) ∙ ap (spot_filled spots) k ∙ f)) ∙ sym (ap (λ (x : Held). x.figure) (held-filled v f))
        go (inr f) = ends f (rest v) refl ∙ sym (ap (λ (x : Held). x.figure) (held-unfilled v f))

    -- a pin that holds is what may stand there
    pin-may : (p v : ℕ) → p < length Q → v < length spots → PinnedIn Q trial returned p v → may_hold Q (held v) p ≡ true
    pin-may p v h i k =
        (may-says Q (held v) p).1 (pin-held p v h k.0, subst (λ (x : ℕ). figure_fits (pattern_figure Q p) x ≡ true) (held-figure v i) k.1)

    may-pin : (p v : ℕ) → v < length spots → may_hold Q (held v) p ≡ true → PinnedIn Q trial returned p v
    may-pin p v i e =
        let r = (may-says Q (held v) p).0 e in
        (held-pin p v i r.0, subst (λ (x : ℕ). figure_fits (pattern_figure Q p) x ≡ true) (sym (held-figure v i)) r.1)

    -- ---- the member's parts

    -- what hangs by a descendant edge is offered all the way up
    climb : (v w c : ℕ) → descends Q c ≡ true → Below trial v w → offers_at w c ≡ true → acc_at v c ≡ true
    climb v w c d (once k) e = step-up v w c (child-spot S (own_figure P own) spots v w k) e
    climb v w c d (down {b = b} m k) e = climb v b c d m (offers-on S Q (spot_at spots b) (held b) (acc_at b) c d (step-up b w c (child-spot S (own_figure P own) spots b w k) e))

    edge-up : (b : Bool) (v w c : ℕ) → descends Q c ≡ b → Edge b trial v w → offers_at w c ≡ true → acc_at v c ≡ true
    edge-up true v w c d m e = climb v w c d m e
    edge-up false v w c d k e = step-up v w c (child-spot S (own_figure P own) spots v w k) e

    -- where the part from p down embeds, p meets
    can-meets : (p v : ℕ) → p < length Q → Can Q trial (PinnedIn Q trial returned) p v → meets_at v p ≡ true
    can-meets p v h (can i l k f ds cs) =
        says_meets
        (record {
          label = subst (λ (x : ℕ). label_fits (pattern_label Q p) x ≡ true) (spot-label S (own_figure P own) spots v (in_table S (own_figure P own) spots v i)) l;
          holds = pin-may p v h (in_table S (own_figure P own) spots v i) k;
          children = λ c u.
              edge-up (descends Q c) v (f c u) c refl (ds c u)
              (offers-met S Q (spot_at spots (f c u)) (held (f c u)) (acc_at (f c u)) c (can-meets c (f c u) u.inside (cs c u)));
        })

    -- what is offered to v meets below v
    descend : (n v p : ℕ) → length spots ≤ n + v → v < length spots → acc_at v p ≡ true → MetBelow v p
    descend zero v p b h a = absurd (omega arith)
    descend (suc n) v p b h a =
        let r = step_down v p h a in
        let w : ℕ = r.0 in
        let l : spot_parent spots w < w = L.earlier w r.1.not_root r.1.inside in
        let e : spot_parent spots w ≡ v = r.1.is_parent in
        go w r.1 (λ k. descend n w p (omega arith) r.1.inside k) (offers-cases S Q (spot_at spots w) (held w) (acc_at w) p r.2)
      where
        go : (w : ℕ) → SpotChild spots v w → (acc_at w p ≡ true → MetBelow w p) → (meets_at w p ≡ true) ⊎ ((descends Q p ≡ true) × (acc_at w p ≡ true)) → MetBelow v p
        go w c on (inl m) = (w, edge-child (descends Q p) (spot-child S (own_figure P own) spots v w c), c.inside, m)
        go w c on (inr k) =
            let r = on k.1 in
            (r.0, edge-higher (descends Q p) r.0 k.0 (spot-child S (own_figure P own) spots v w c) r.1, r.2, r.3)

    -- where p meets, the part from p down embeds
    meets-can : (n p v : ℕ) → length Q ≤ n + p → p < length Q → v < length spots → meets_at v p ≡ true
        → Can Q trial (PinnedIn Q trial returned) p v
    meets-can zero p v b h i e = absurd (omega arith)
    meets-can (suc n) p v b h i e =
        can (in-document S (own_figure P own) spots v i) (subst (λ (x : ℕ). label_fits (pattern_label Q p) x ≡ true) (sym (spot-label S (own_figure P own) spots v i)) m.label) (may-pin p v i m.holds)
        (λ c u. (found c u).0) (λ c u. (found c u).1)
        (λ c u. let l : p < c = under-lt G.tree u in meets-can n c (found c u).0 (omega arith) u.inside (found c u).2 (found c u).3)
      where
        m : Meets S Q (spot_at spots v) (held v) (acc_at v) p
        m = meets-says S Q (spot_at spots v) (held v) (acc_at v) p e

        found : (c : ℕ) → UnderOf Q p c → MetBelow v c
        found c u = descend (length spots) v c (omega arith) i (m.children c u)

    -- the quick test asks whether the member's root meets at the root
    quick-root : quick S P Q es ≡ meets_at 0 0
    unfolding quick
    quick-root =
        let h : held 0 ≡ held_by P 0 = ap held (sym L.own_root) ∙ own_held 0 F.tree.inhabited in
        let c : chained 0 ≡ given S P Q es 0 = ap chained (sym L.own_root) ∙ own-chained 0 F.tree.inhabited in
        rw (h, c, L.root_at) refl

-- the quick test says whether the own nodes form a result of the member in the laid-out table
pub quick-laid : {S : Summary} {P Q : Pattern} {es own : List ℕ} {spots : List Spot} → Laid S P es spots own → SummaryFacts S → PatternFacts P → PatternFacts Q → arity P ≡ arity Q
    → (quick S P Q es ≡ true) ↔ Result Q (spot_records S (own_figure P own) spots) (map (image_in own) (return_nodes P))
quick-laid {S} {P} {Q} {es} {own} {spots} L F₀ F G same = (there, back)
  where
    r : List ℕ
    r = map (image_in own) (return_nodes P)

    size : length r ≡ arity Q
    size = length-map (return_nodes P) (image_in own) ∙ length-return_nodes P ∙ same

    root : quick S P Q es ≡ meets_at S P Q es spots own 0 0
    root = quick-root S P Q es spots own L F₀.tree F G same

    there : quick S P Q es ≡ true → Result Q (spot_records S (own_figure P own) spots) r
    there e =
        (result-can G size).1
        (meets-can S P Q es spots own L F₀.tree F G same (length Q) 0 0 (omega arith) G.tree.inhabited L.some (sym root ∙ e))

    back : Result Q (spot_records S (own_figure P own) spots) r → quick S P Q es ≡ true
    back m = root ∙ can-meets S P Q es spots own L F₀.tree F G same 0 0 G.tree.inhabited ((result-can G size).0 m)

-- the quick test of a placement equals "the trial passes"
pub quick-passes : {S : Summary} {P Q : Pattern} {es : List ℕ} → Laid S P es (canonical_spots S P es) (own_nodes S P es) → SummaryFacts S → PatternFacts P → PatternFacts Q → arity P ≡ arity Q
    → (is_result Q (canonical S P es) (own_result S P es) ≡ true) ↔ Result Q (canonical S P es) (own_result S P es) → quick S P Q es ≡ passes S P Q es
unfolding passes canonical own_result
quick-passes {S} {P} {Q} {es} L F₀ F G same test =
    let q = quick-laid L F₀ F G same in
    bool-ext (quick S P Q es) (passes S P Q es) (λ e. test.1 (q.0 e)) (λ e. q.1 (test.0 e))
