-- What is offered in a whole embedding, and how sets that are inside it grow along the way up: from what hangs from a node to what it
-- offers, from the chain below a summary node to the chain below its parent, from a child to its parent, and at the root to a pass.
-- Assumes nothing.
use Prim.Native.Nat.{ℕ, ◌<◌}
use mathlib.Core.Path.{◌≡◌, refl, sym, ap, ap₂, ◌∙◌, subst}
use mathlib.Core.Bool.{Bool, true, false}
use mathlib.Core.Logic.{inl, inr}
use mathlib.Core.List.{List, [], ◌∷◌}
use native.Mathlib.Omega.{arith}
use lib.ListN.{length, get_or}
use Rattle.model.specs.Lists.{mask_below, has}
use Rattle.model.specs.Tree.{Child, Below, AtOrBelow}
use Rattle.model.specs.Summary.{Summary, as_document}
use Rattle.model.specs.Pattern.{Pattern, pattern_parent, descends, Embeds}
use Rattle.model.specs.Embeddings.{image_in, child_test, below_test, edge_test}
use Rattle.model.specs.Canonical.{chain}
use Rattle.model.specs.Quick.{Held, held_by, unheld, offers, closed, union, hang, given, settled}
use Rattle.model.proofs.ListLaws.{any_below, below-any}
use Rattle.model.proofs.Masks.{mask_below_lem}
use Rattle.model.proofs.TreeLaws.{test-edge, edge-below, test-child, child-test, test_below, below-test, below-inside, length-as_document}
use Rattle.model.proofs.Chains.{first_step, child-below, chain-step, chain-self}
use Rattle.model.proofs.QuickLaws.{hold, hang-nil, hang-cons, given-intro}
use Rattle.cover.specs.Cover.{Inside}
use Rattle.judging.specs.declared.member.Member.{Member}
use Rattle.judging.specs.declared.masks.Masks.{Masks}
use Rattle.judging.specs.Blocks.{no_member, child_in, below_in, last_in, sets_in, candidates_in}
use Rattle.judging.specs.Judging.{nobody, Sets, node_by, hang_by, pass_by, given_by, root_by, judge_by}
use Rattle.judging.specs.Prepared.{Made}
use Rattle.judging.specs.Skipping.{PlacedBy}
use Rattle.judging.specs.Stepping.{Candidates, reach_by}
use Rattle.judging.proofs.ChainLaws.{hang-mask}
use Rattle.judging.proofs.Judging.{given-mask, settled-mask, settled-less}
use Rattle.judging.proofs.Deciding.{reach-mask}
use Rattle.judging.proofs.OfferLaws.{Subset, in-mask, mask-of-more, node-sub, hang-sub, root-sub}
use Rattle.alternatives.specs.Members.{judged_by_some, RowsSettled}
use Rattle.alternatives.specs.Alternatives.{given_of, offered_of, met_by_some, Toward}
use Rattle.alternatives.proofs.Skipping.{placed-embeds}

-- what a descendant edge reaches
pub reach_far : (M : Candidates) (a : ℕ) {far : Bool} → far ≡ true → M.descendants a ≡ reach_by M a far
unfolding reach_by
reach_far M a e = sym (ap (λ (b : Bool). elim b as (λ _. ℕ) [ true ↦ M.descendants a | false ↦ M.children a ]) e)

module _ {ts : List Member} {m : Masks} {P : Pattern} (R : Made ts m P) where
  abbrev S : Summary
  S = R.summary

  abbrev M : Candidates
  M = candidates_in m

  abbrev Q : ℕ → Pattern
  Q i = get_or R.members i []

  abbrev T : ℕ → Sets
  T i = sets_in (get_or ts i no_member)

  -- ---- which child of x leads to y

  child-of : (x y : ℕ) → x < length S → Child (as_document S) x y → has (child_in m x) y ≡ true
  child-of x y h k =
      let l : y < length S = subst (λ (n : ℕ). y < n) (length-as_document S) k.inside in
      ap (λ (b : ℕ). has b y) (R.steps.child x h) ∙ mask_below_lem (child_test (as_document S) x) (length S) y l ∙ child-test k

  below_of : (y v : ℕ) → y < length S → Below (as_document S) y v → has (below_in m y) v ≡ true
  below_of y v h k =
      let l : v < length S = subst (λ (n : ℕ). v < n) (length-as_document S) (below-inside k) in
      ap (λ (b : ℕ). has b v) (R.steps.below y h) ∙ mask_below_lem (below_test (as_document S) y) (length S) v l ∙ below-test R.facts.tree k

  by-child : (x y : ℕ) → x < length S → has (child_in m x) y ≡ true → Child (as_document S) x y
  by-child x y l e = test-child (as_document S) x y (in-mask (child_test (as_document S) x) (length S) y (ap (λ (u : ℕ). has u y) (sym (R.steps.child x l)) ∙ e)).1

  pub child-inside : (x y : ℕ) → x < length S → has (child_in m x) y ≡ true → y < length S
  child-inside x y l e = subst (λ (n : ℕ). y < n) (length-as_document S) (by-child x y l e).inside

  toward-far : (c x v : ℕ) → x < length S → descends P c ≡ true → Below (as_document S) x v → (y : ℕ) × (has (child_in m x) y ≡ true) × Toward m P c y v
  toward-far c x v h e d = go (first_step d)
    where
      go : (y : ℕ) × Child (as_document S) x y × AtOrBelow (as_document S) y v → (y : ℕ) × (has (child_in m x) y ≡ true) × Toward m P c y v
      go (y, k, inl p) = (y, child-of x y h k, inl (sym p))
      go (y, k, inr b) = (y, child-of x y h k, inr (e, below_of y v (subst (λ (n : ℕ). y < n) (length-as_document S) k.inside) b))

  -- whatever the edge reaches from x lies toward one of its children
  pub toward : (c x v : ℕ) → x < length S → has (reach_by M x (descends P c)) v ≡ true → (y : ℕ) × (has (child_in m x) y ≡ true) × Toward m P c y v
  toward c x v h e = go (descends P c) refl
    where
      edge : edge_test (descends P c) (as_document S) x v ≡ true
      edge = (in-mask (edge_test (descends P c) (as_document S) x) (length S) v (ap (λ (b : ℕ). has b v) (sym (reach-mask S P M R.steps x (descends P c) h)) ∙ e)).1

      go : (far : Bool) → descends P c ≡ far → (y : ℕ) × (has (child_in m x) y ≡ true) × Toward m P c y v
      go true f = toward-far c x v h f (edge-below (descends P c) (as_document S) x v (test-edge (descends P c) (as_document S) x v R.facts.tree edge))
      go false f = (v, child-of x v h (test-edge false (as_document S) x v R.facts.tree (ap (λ (b : Bool). edge_test b (as_document S) x v) (sym f) ∙ edge)), inl refl)

  -- ---- a whole embedding

  module _ (es : List ℕ) (G : PlacedBy P M (length P) es) where
    embeds : Embeds P (as_document S) (image_in es)
    embeds = placed-embeds S P M R.steps R.facts R.tree R.narrow es G

    given_is : (i j : ℕ) → i < length ts → j < length P → get_or (given_by (T i) P es) j 0 ≡ mask_below (given S P (Q i) es j) (length (Q i))
    given_is i j h k = given-mask S P (Q i) (T i) (R.chains i h) R.facts.tree R.tree R.small es embeds j k

    -- what node c offers on x
    abbrev chained : ℕ → ℕ → ℕ → ℕ → Bool
    chained i c x = hang S (Q i) (held_by P c) (given S P (Q i) es c) (chain S x (image_in es c))

    offered-is : (i c x : ℕ) → i < length ts → c < length P → Below (as_document S) x (image_in es c)
        → hang_by (T i) x (image_in es c) c (get_or (given_by (T i) P es) c 0) ≡ mask_below (chained i c x) (length (Q i))
    offered-is i c x h k d =
        ap (hang_by (T i) x (image_in es c) c) (given_is i c h k)
        ∙ hang-mask S (Q i) (T i) (R.chains i h) R.facts.tree x (image_in es c) c (held_by P c) (given S P (Q i) es c) d ((R.chains i h).node.may c k)

    -- a set inside what is given, or offered, as numbers
    given-sub : (a : List ℕ) (j : ℕ) → j < length P → Inside (length ts) a (given_of ts P es j) → (i : ℕ) → i < length ts → Subset (get_or a i 0) (mask_below (given S P (Q i) es j) (length (Q i)))
    unfolding given_of
    given-sub a j k I i h p e = ap (λ (b : ℕ). has b p) (sym (given_is i j h k)) ∙ I.each i p h e

    offered-sub : (a : List ℕ) (c x : ℕ) → c < length P → Below (as_document S) x (image_in es c) → Inside (length ts) a (offered_of ts P es c x) → (i : ℕ) → i < length ts → Subset (get_or a i 0) (mask_below (chained i c x) (length (Q i)))
    unfolding offered_of
    offered-sub a c x k d I i h p e = ap (λ (b : ℕ). has b p) (sym (offered-is i c x h k d)) ∙ I.each i p h e

    sub-given : (a : List ℕ) (j : ℕ) → j < length P → ((i : ℕ) → i < length ts → Subset (get_or a i 0) (mask_below (given S P (Q i) es j) (length (Q i)))) → Inside (length ts) a (given_of ts P es j)
    unfolding given_of
    sub-given a j k s = record { each = λ i p h e. ap (λ (b : ℕ). has b p) (given_is i j h k) ∙ s i h p e }

    sub-offered : (a : List ℕ) (c x : ℕ) → c < length P → Below (as_document S) x (image_in es c) → ((i : ℕ) → i < length ts → Subset (get_or a i 0) (mask_below (chained i c x) (length (Q i)))) → Inside (length ts) a (offered_of ts P es c x)
    unfolding offered_of
    sub-offered a c x k d s = record { each = λ i p h e. ap (λ (b : ℕ). has b p) (offered-is i c x h k d) ∙ s i h p e }

    -- ---- the way up

    abbrev up : ℕ → ℕ
    up = pattern_parent P

    above : (c : ℕ) → 0 < c → c < length P → Below (as_document S) (image_in es (up c)) (image_in es c)
    above c z h = edge-below (descends P c) (as_document S) (image_in es (up c)) (image_in es c) (embeds.edges c z h)

    -- what c offers to its parent's node hangs from its parent
    pub offered-given : (c : ℕ) → 0 < c → c < length P → (a : List ℕ) → Inside (length ts) a (offered_of ts P es c (get_or es (pattern_parent P c) 0)) → Inside (length ts) a (given_of ts P es (pattern_parent P c))
    offered-given c z h a I =
        let l : up c < c = R.tree.earlier c z h in
        sub-given a (up c) (omega arith)
        (λ i k p e. mask-of-more (chained i c (image_in es (up c))) (given S P (Q i) es (up c)) (length (Q i))
        (λ r f. given-intro S P (Q i) es (up c) c r R.tree (record { not_root = z; inside = h; is_parent = refl }) f) p (offered-sub a c (image_in es (up c)) h (above c z h) I i k p e))

    -- node c stands on y, a child of x, and a hangs from it
    pub own-offered : (c x y : ℕ) → 0 < c → c < length P → x < length S → has (child_in m x) y ≡ true → image_in es c ≡ y → (a b : List ℕ) → Inside (length ts) a (given_of ts P es c)
        → ((i : ℕ) → i < length ts → get_or b i 0 ≡ node_by (T i) y c (get_or a i 0)) → Inside (length ts) b (offered_of ts P es c x)
    own-offered c x y z h l e q a b I made =
        sub-offered b c x h (subst (λ (v : ℕ). Below (as_document S) x v) (sym q) (child-below k (inl refl)))
        (λ i w p f. subst (λ (u : ℕ). has u p ≡ true) (ap (λ (g : ℕ → Bool). mask_below g (length (Q i))) (sym (chains i)))
        (node-sub S (Q i) (T i) (R.chains i w) y c (held_by P c) (get_or a i 0) (given S P (Q i) es c) inside ((R.chains i w).node.may c h) (given-sub a c h I i w) p (ap (λ (u : ℕ). has u p) (sym (made i w)) ∙ f)))
      where
        k : Child (as_document S) x y
        k = by-child x y l e

        inside : y < length S
        inside = child-inside x y l e

        chains : (i : ℕ) → chained i c x ≡ offers S (Q i) y (held_by P c) (union (closed S (Q i) y) (given S P (Q i) es c))
        chains i =
            let g = given S P (Q i) es c in
            ap (hang S (Q i) (held_by P c) g) (ap (chain S x) q ∙ chain-step S x y y R.facts.tree k (inl refl) ∙ ap (λ (zs : List ℕ). y ∷ zs) (chain-self S y))
            ∙ hang-cons S (Q i) (held_by P c) g y [] ∙ ap (λ (f : ℕ → Bool). offers S (Q i) y (held_by P c) (union (closed S (Q i) y) f)) (hang-nil S (Q i) (held_by P c) g)

    -- node c stands below y, a child of x, and a is offered on y
    pub below-offered : (c x y : ℕ) → 0 < c → c < length P → x < length S → has (child_in m x) y ≡ true → has (below_in m y) (image_in es c) ≡ true → (a b : List ℕ) → Inside (length ts) a (offered_of ts P es c y)
        → ((i : ℕ) → i < length ts → get_or b i 0 ≡ node_by (T i) y nobody (get_or a i 0)) → Inside (length ts) b (offered_of ts P es c x)
    below-offered c x y z h l e q a b I made =
        sub-offered b c x h (child-below k (inr d))
        (λ i w p f. subst (λ (u : ℕ). has u p ≡ true) (ap (λ (g : ℕ → Bool). mask_below g (length (Q i))) (sym (chains i)))
        (node-sub S (Q i) (T i) (R.chains i w) y nobody unheld (get_or a i 0) (chained i c y) inside (R.chains i w).node.free (offered-sub a c y h d I i w) p (ap (λ (u : ℕ). has u p) (sym (made i w)) ∙ f)))
      where
        k : Child (as_document S) x y
        k = by-child x y l e

        inside : y < length S
        inside = child-inside x y l e

        d : Below (as_document S) y (image_in es c)
        d = let r = in-mask (below_test (as_document S) y) (length S) (image_in es c) (ap (λ (u : ℕ). has u (image_in es c)) (sym (R.steps.below y inside)) ∙ q) in test_below (as_document S) y (image_in es c) R.facts.tree r.1

        none : (w : Held) → hold w (chain S y (image_in es c)) ≡ unheld
        none w = let r = first_step d in ap (hold w) (chain-step S y r.0 (image_in es c) R.facts.tree r.1 r.2)

        chains : (i : ℕ) → chained i c x ≡ offers S (Q i) y unheld (union (closed S (Q i) y) (chained i c y))
        chains i =
            let g = given S P (Q i) es c in
            ap (hang S (Q i) (held_by P c) g) (chain-step S x y (image_in es c) R.facts.tree k (inr d))
            ∙ hang-cons S (Q i) (held_by P c) g y (chain S y (image_in es c)) ∙ ap (λ (w : Held). offers S (Q i) y w (union (closed S (Q i) y) (chained i c y))) (none (held_by P c))

    -- a hangs from node c, which is placed as in fs, and so is its parent
    pub passed-given : (fs : List ℕ) (c : ℕ) → 0 < c → c < length P → get_or es c 0 ≡ get_or fs c 0 → get_or es (pattern_parent P c) 0 ≡ get_or fs (pattern_parent P c) 0 → (a b : List ℕ) → Inside (length ts) a (given_of ts P es c)
        → ((i : ℕ) → i < length ts → get_or b i 0 ≡ pass_by (T i) P fs c (get_or a i 0)) → Inside (length ts) b (given_of ts P es (pattern_parent P c))
    unfolding pass_by
    passed-given fs c z h q r a b I made =
        offered-given c z h b
        (sub-offered b c (image_in es (up c)) h (above c z h)
        (λ i k p f. hang-sub S (Q i) (T i) (R.chains i k) R.facts.tree (image_in es (up c)) (image_in es c) c (held_by P c) (get_or a i 0) (given S P (Q i) es c) (above c z h) ((R.chains i k).node.may c h) (given-sub a c h I i k) p
        (ap (λ (u : ℕ). has u p) (ap₂ (λ (x y : ℕ). hang_by (T i) x y c (get_or a i 0)) r q ∙ sym (made i k)) ∙ f)))

    -- a hangs from the root, and the root of some member meets by it
    pub met-passes : (a : List ℕ) → Inside (length ts) a (given_of ts P es 0) → met_by_some ts a ≡ true → judged_by_some ts P es ≡ true
    unfolding met_by_some judged_by_some judge_by
    met-passes a I e =
        let r = any_below (λ i. root_by (T i) (get_or a i 0)) (length ts) e in
        let i : ℕ = r.0 in
        let h : i < length ts = r.1 in
        below-any (λ i. root_by (T i) (get_or (given_by (T i) P es) 0 0)) (length ts) i h
        (ap (root_by (T i)) (given_is i 0 h R.tree.inhabited)
        ∙ root-sub S (Q i) (T i) (R.chains i h) R.facts.tree R.tree R.small (R.some i h) (get_or a i 0) (given S P (Q i) es 0) (given-sub a 0 R.tree.inhabited I i h) r.2)

    -- what is settled before node q hangs there
    pub settled-inside : (q j : ℕ) (rows : List (List ℕ)) (a : List ℕ) → j < length P → RowsSettled ts m P q es rows → ((i : ℕ) → i < length ts → get_or a i 0 ≡ get_or (get_or rows i []) j 0)
        → Inside (length ts) a (given_of ts P es j)
    settled-inside q j rows a h s same =
        sub-given a j h
        (λ i k p e.
        let L = (s.each i k).lasts in
        mask-of-more (settled S P (Q i) (last_in m) es q j) (given S P (Q i) es j) (length (Q i)) (settled-less S P (Q i) (T i) (R.chains i k) R.facts.tree R.tree R.small es embeds (last_in m) q L j) p
        (ap (λ (u : ℕ). has u p) (sym (settled-mask S P (Q i) (T i) (R.chains i k) R.facts.tree R.tree R.small es embeds (last_in m) q L j h) ∙ ap (λ (l : List ℕ). get_or l j 0) (sym (s.each i k).same) ∙ sym (same i k)) ∙ e))
