-- The test by masks is the model's quick test: by the tables each chain offers what the model says, what hangs from the first
-- pattern's nodes is gathered from the last to the first, and the member's root is bit 0. Assumes nothing.
use Prim.Native.Nat.{ℕ, ◌-◌, ◌≤◌, ◌<◌}
use mathlib.Core.Path.{◌≡◌, refl, sym, ap, ◌∙◌, subst}
use mathlib.Core.Bool.{Bool, true, false, ◌&&◌}
use mathlib.Core.List.{List}
use native.Mathlib.Omega.{arith}
use lib.Bits.{bit_or}
use lib.Dec.{eqb, ltb}
use lib.ListN.{length, get_or, replicate, length-replicate, get_or-replicate}
use borrow.Author.Tests.{eqb-true, ltb-true, lt-ltb}
use Rattle.model.specs.Lists.{up_from, any_of, mask_below, has}
use Rattle.model.specs.Tree.{IsTree, Below}
use Rattle.model.specs.Summary.{Summary, as_document}
use Rattle.model.specs.Pattern.{Pattern, IsPatternTree, pattern_parent, descends, Embeds}
use Rattle.model.specs.Embeddings.{image_in}
use Rattle.model.specs.Canonical.{chain}
use Rattle.model.specs.Quick.{held_by, hangs_from, meets, closed, union, hang, given, settled, quick}
use Rattle.model.proofs.ListLaws.{and_left, and_right, any-agree, any_below, up_from-mem}
use Rattle.model.proofs.Masks.{mask_below_lem, mask-none}
use Rattle.model.proofs.TreeLaws.{edge-below, length-as_document}
use Rattle.model.proofs.QuickLaws.{hangs-under, given-equation, given-intro}
use Rattle.bits.proofs.MaskLaws.{mask-or, mask-agree}
use Rattle.judging.specs.Judging.{gather, meets_by, Sets, pass_by, given_by, root_by, judge_by}
use Rattle.judging.specs.Prepared.{ChainSets}
use Rattle.judging.specs.Settling.{Lasts, settled_by, settled_row}
use Rattle.judging.proofs.SetLaws.{meets-mask}
use Rattle.judging.proofs.ChainLaws.{hang-mask}
use Rattle.judging.proofs.GatherLaws.{gather-entries}

module _ (S : Summary) (P Q : Pattern) (T : Sets) (C : ChainSets S P Q T) (t : IsTree (as_document S)) (p : IsPatternTree P) (small : length P ≤ 16) where
  -- what c passes on to its parent, where g hangs from it
  pub pass-mask : (es : List ℕ) (c : ℕ) (g : ℕ → Bool) → c < length P → Below (as_document S) (image_in es (pattern_parent P c)) (image_in es c)
      → pass_by T P es c (mask_below g (length Q)) ≡ mask_below (hang S Q (held_by P c) g (chain S (image_in es (pattern_parent P c)) (image_in es c))) (length Q)
  unfolding pass_by
  pass-mask es c g h d = hang-mask S Q T C t (image_in es (pattern_parent P c)) (image_in es c) c (held_by P c) g d (C.node.may c h)

  -- what hangs from j hangs from c's parent, where c is a child of j
  pub at-parent : (f : ℕ → Bool) (j c : ℕ) → c < length P → (hangs_from P j c && f j) ≡ (ltb 0 c && eqb (pattern_parent P c) j && f (pattern_parent P c))
  unfolding hangs_from
  at-parent f j c h = go (eqb (pattern_parent P c) j) refl
    where
      shut : (a b b' : Bool) → (a && false && b) ≡ (a && false && b')
      shut true b b' = refl
      shut false b b' = refl

      go : (b : Bool) → eqb (pattern_parent P c) j ≡ b → (ltb 0 c && b && f j) ≡ (ltb 0 c && b && f (pattern_parent P c))
      go true e = ap (λ (u : ℕ). ltb 0 c && true && f u) (sym (eqb-true (pattern_parent P c) j e))
      go false e = shut (ltb 0 c) (f j) (f (pattern_parent P c))

  root : 0 < length S
  root = subst (λ (n : ℕ). 0 < n) (length-as_document S) t.inhabited

  -- the member's root meets at the root, where g hangs from it
  pub root-mask : (g : ℕ → Bool) → 0 < length Q → root_by T (mask_below g (length Q)) ≡ meets S Q 0 (held_by P 0) (union (closed S Q 0) g) 0
  unfolding root_by
  root-mask g q =
      ap at (ap (λ (k : ℕ). bit_or k (mask_below g (length Q))) (C.closes 0 root) ∙ mask-or (closed S Q 0) g (length Q))
      ∙ ap (λ (m : ℕ). has m 0) (meets-mask S Q T C.node 0 0 (held_by P 0) (union (closed S Q 0) g) root (C.node.may 0 p.inhabited))
      ∙ mask_below_lem (meets S Q 0 (held_by P 0) (union (closed S Q 0) g)) (length Q) 0 q
    where
      at : ℕ → Bool
      at m = has (meets_by T 0 0 m) 0

  -- what is gathered at each node, where F passes G on and E hangs from each
  pub gathered-mask : (F : ℕ → ℕ → ℕ) (E G : ℕ → ℕ → Bool) → ((c : ℕ) → 0 < c → c < length P → F c (mask_below (E c) (length Q)) ≡ mask_below (G c) (length Q))
      → ((j r : ℕ) → j < length P → E j r ≡ any_of (λ c. ltb 0 c && eqb (pattern_parent P c) j && G c r) (up_from 0 (length P)))
      → (j : ℕ) → j < length P → get_or (gather (pattern_parent P) F (length P - 1) (replicate 16 0)) j 0 ≡ mask_below (E j) (length Q)
  gathered-mask F E G passes sum j h =
      gather-entries (length P) (length Q) (pattern_parent P) F E G p.earlier passes (λ j r h k. sum j r h)
      (replicate 16 0) j (subst (λ (l : ℕ). length P ≤ l) (sym (length-replicate {A = ℕ} 16 0)) small) (λ y h. get_or-replicate {A = ℕ} 16 y 0 0 (omega arith)) h

  -- ---- an embedding

  module _ (es : List ℕ) (e : Embeds P (as_document S) (image_in es)) where
    -- what c passes on to its parent
    abbrev pub handed : ℕ → ℕ → Bool
    handed c = hang S Q (held_by P c) (given S P Q es c) (chain S (image_in es (pattern_parent P c)) (image_in es c))

    pub pass-under : (c : ℕ) → 0 < c → c < length P → Below (as_document S) (image_in es (pattern_parent P c)) (image_in es c)
    pass-under c z h = edge-below (descends P c) (as_document S) (image_in es (pattern_parent P c)) (image_in es c) (e.edges c z h)

    passes-given : (c : ℕ) → 0 < c → c < length P → pass_by T P es c (mask_below (given S P Q es c) (length Q)) ≡ mask_below (handed c) (length Q)
    passes-given c z h = pass-mask es c (given S P Q es c) h (pass-under c z h)

    sum-given : (j r : ℕ) → j < length P → given S P Q es j r ≡ any_of (λ c. ltb 0 c && eqb (pattern_parent P c) j && handed c r) (up_from 0 (length P))
    sum-given j r h =
        given-equation S P Q es j r p
        ∙ any-agree (λ c. hangs_from P j c && hang S Q (held_by P c) (given S P Q es c) (chain S (image_in es j) (image_in es c)) r) (λ c. ltb 0 c && eqb (pattern_parent P c) j && handed c r) (up_from 0 (length P))
        (λ c m. (let k = up_from-mem 0 (length P) c m in
        at-parent (λ i. hang S Q (held_by P c) (given S P Q es c) (chain S (image_in es i) (image_in es c)) r) j c (omega arith)))

    -- what hangs from each node
    pub given-mask : (j : ℕ) → j < length P → get_or (given_by T P es) j 0 ≡ mask_below (given S P Q es j) (length Q)
    unfolding given_by
    given-mask j h = gathered-mask (pass_by T P es) (given S P Q es) handed passes-given sum-given j h

    -- of the parts before node q alone; `last c` is not before that of a node below c
    module _ (last : ℕ → ℕ) (q : ℕ) (L : Lasts (length P) (pattern_parent P) last) where
      abbrev parted : ℕ → ℕ → Bool
      parted c r = ltb (last c) q && handed c r

      -- where a part lies before q, so do those in it
      complete : (j r : ℕ) → j < length P → last j < q → settled S P Q last es q j r ≡ given S P Q es j r
      unfolding settled
      complete j r h l =
          any-agree (λ c. hangs_from P j c && (ltb (last c) q && hang S Q (held_by P c) (given S P Q es c) (chain S (image_in es j) (image_in es c)) r))
          (λ c. hangs_from P j c && hang S Q (held_by P c) (given S P Q es c) (chain S (image_in es j) (image_in es c)) r) (up_from 0 (length P))
          (λ c m. go c (let k = up_from-mem 0 (length P) c m in omega arith) (hangs_from P j c) refl)
          ∙ sym (given-equation S P Q es j r p)
        where
          go : (c : ℕ) → c < length P → (b : Bool) → hangs_from P j c ≡ b
              → (b && (ltb (last c) q && hang S Q (held_by P c) (given S P Q es c) (chain S (image_in es j) (image_in es c)) r)) ≡ (b && hang S Q (held_by P c) (given S P Q es c) (chain S (image_in es j) (image_in es c)) r)
          go c k true i =
              let u = hangs-under P j c k i in
              let a : last c ≤ last (pattern_parent P c) = L.up c u.not_root k in
              let b : last (pattern_parent P c) ≡ last j = ap last u.is_parent in
              ap (λ (x : Bool). x && hang S Q (held_by P c) (given S P Q es c) (chain S (image_in es j) (image_in es c)) r) (lt-ltb (last c) q (omega arith))
          go c k false i = refl

      pub settled-mask : (j : ℕ) → j < length P → get_or (settled_row T P last q es) j 0 ≡ mask_below (settled S P Q last es q j) (length Q)
      unfolding settled_row settled_by settled
      settled-mask j h = gathered-mask (settled_by T P last q es) (settled S P Q last es q) parted passes sum j h
        where
          passes : (c : ℕ) → 0 < c → c < length P → settled_by T P last q es c (mask_below (settled S P Q last es q c) (length Q)) ≡ mask_below (parted c) (length Q)
          passes c z k = go (ltb (last c) q) refl
            where
              go : (b : Bool) → ltb (last c) q ≡ b → (elim b as (λ _. ℕ) [ true ↦ pass_by T P es c (mask_below (settled S P Q last es q c) (length Q)) | false ↦ 0 ]) ≡ mask_below (λ r. b && handed c r) (length Q)
              go true i =
                  ap (pass_by T P es c) (mask-agree (settled S P Q last es q c) (given S P Q es c) (length Q) (λ r l. complete c r k (ltb-true (last c) q i)))
                  ∙ passes-given c z k
              go false i = sym (mask-none (λ _. false) (length Q) (λ r l. refl))

          sum : (j r : ℕ) → j < length P → settled S P Q last es q j r ≡ any_of (λ c. ltb 0 c && eqb (pattern_parent P c) j && parted c r) (up_from 0 (length P))
          sum j r k =
              any-agree (λ c. hangs_from P j c && (ltb (last c) q && hang S Q (held_by P c) (given S P Q es c) (chain S (image_in es j) (image_in es c)) r)) (λ c. ltb 0 c && eqb (pattern_parent P c) j && parted c r) (up_from 0 (length P))
              (λ c m. (let l = up_from-mem 0 (length P) c m in
              at-parent (λ i. ltb (last c) q && hang S Q (held_by P c) (given S P Q es c) (chain S (image_in es i) (image_in es c)) r) j c (omega arith)))

      -- what is settled hangs there
      pub settled-less : (j r : ℕ) → settled S P Q last es q j r ≡ true → given S P Q es j r ≡ true
      unfolding settled
      settled-less j r f =
          let a = any_below (λ c. hangs_from P j c && (ltb (last c) q && hang S Q (held_by P c) (given S P Q es c) (chain S (image_in es j) (image_in es c)) r)) (length P) f in
          let c : ℕ = a.0 in
          given-intro S P Q es j c r p (hangs-under P j c a.1 (and_left (hangs_from P j c) (ltb (last c) q && hang S Q (held_by P c) (given S P Q es c) (chain S (image_in es j) (image_in es c)) r) a.2))
          (and_right (ltb (last c) q) (hang S Q (held_by P c) (given S P Q es c) (chain S (image_in es j) (image_in es c)) r)
          (and_right (hangs_from P j c) (ltb (last c) q && hang S Q (held_by P c) (given S P Q es c) (chain S (image_in es j) (image_in es c)) r) a.2))

-- the test by masks is the quick test
pub judge-quick : (S : Summary) (P Q : Pattern) (T : Sets) (es : List ℕ) → ChainSets S P Q T → IsTree (as_document S) → IsPatternTree P → length P ≤ 16
    → Embeds P (as_document S) (image_in es) → 0 < length Q → judge_by T P es ≡ quick S P Q es
unfolding judge_by quick
judge-quick S P Q T es C t p small e q =
    ap (root_by T) (given-mask S P Q T C t p small es e 0 p.inhabited) ∙ root-mask S P Q T C t p small (given S P Q es 0) q
