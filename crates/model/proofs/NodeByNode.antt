-- Node by node: a pattern embeds with its nodes pinned exactly when, from the root down, each node's label fits, its pin holds
-- and each of its children has an image further down by its edge. Images are chosen per child, then collected from the root
-- down, since a parent stands before its children. Assumes nothing.
use Prim.Native.Nat.{ℕ, zero, suc, ◌+◌, ◌-◌, ◌≤◌, ◌<◌}
use mathlib.Core.Path.{◌≡◌, refl, sym, ap, ◌∙◌, subst}
use mathlib.Core.Bool.{true}
use mathlib.Core.Logic.{◌⊎◌, inl, inr, ◌↔◌}
use mathlib.Core.List.{List, map}
use native.Mathlib.Omega.{arith}
use lib.ListN.{length, get_or, length-map}
use lib.Seq.{ext_get_or}
use Rattle.model.specs.Tree.{Document, label_of, figure_of, Edge}
use Rattle.model.specs.Pattern.{Pattern, IsPatternTree, pattern_label, pattern_parent, descends, position, pattern_figure, label_fits, figure_fits, arity, node_at, return_nodes, Embeds, Result}
use Rattle.model.specs.Facts.{PatternFacts}
use Rattle.model.proofs.TreeLaws.{rooted-lt}
use Rattle.model.proofs.ReturnNodes.{length-return_nodes, returns-at}
use Rattle.model.proofs.TreeChoice.{Chosen, choose}

-- c is a child of p in the pattern
pub record UnderOf (Q : Pattern) (p c : ℕ) : Type 0 where
  pub not_root : 0 < c
  pub inside : c < length Q
  pub is_parent : pattern_parent Q c ≡ p

pub under-lt : {Q : Pattern} {p c : ℕ} → IsPatternTree Q → UnderOf Q p c → p < c
under-lt t u = rooted-lt t u.not_root u.inside u.is_parent

-- the part of the pattern from p down embeds at v, with a side condition on each node and its image
pub data Can (Q : Pattern) (W : Document) (pin : ℕ → ℕ → Type 0) : ℕ → ℕ → Type 0 where
  can : {p v : ℕ} → v < length W → label_fits (pattern_label Q p) (label_of W v) ≡ true → pin p v → (f : (c : ℕ) → UnderOf Q p c → ℕ)
      → ((c : ℕ) (u : UnderOf Q p c) → Edge (descends Q c) W v (f c u)) → ((c : ℕ) (u : UnderOf Q p c) → Can Q W pin c (f c u)) → Can Q W pin p v

module _ {Q : Pattern} {W : Document} {pin : ℕ → ℕ → Type 0} where
  pub can-inside : {p v : ℕ} → Can Q W pin p v → v < length W
  can-inside (can i l h f es cs) = i

  pub can-label : {p v : ℕ} → Can Q W pin p v → label_fits (pattern_label Q p) (label_of W v) ≡ true
  can-label (can i l h f es cs) = l

  pub can-pin : {p v : ℕ} → Can Q W pin p v → pin p v
  can-pin (can i l h f es cs) = h

  -- an image of a child, with what holds of it
  pub can-child : {p v c : ℕ} → Can Q W pin p v → UnderOf Q p c → (w : ℕ) × Edge (descends Q c) W v w × Can Q W pin c w
  can-child {c = c} (can i l h f es cs) u = (f c u, es c u, cs c u)

-- ---- an embedding embeds every part

embeds-from : {Q : Pattern} {W : Document} {e : ℕ → ℕ} (pin : ℕ → ℕ → Type 0) → IsPatternTree Q → Embeds Q W e → ((q : ℕ) → q < length Q → pin q (e q))
    → (n p : ℕ) → length Q ≤ n + p → p < length Q → Can Q W pin p (e p)
embeds-from pin t m pins zero p b h = absurd (omega arith)
embeds-from {Q} {W} {e} pin t m pins (suc n) p b h =
    can (m.inside p h) (m.labels p h) (pins p h) (λ c u. e c)
    (λ c u. subst (λ (x : ℕ). Edge (descends Q c) W (e x) (e c)) u.is_parent (m.edges c u.not_root u.inside))
    (λ c u. let l : p < c = under-lt t u in embeds-from pin t m pins n c (omega arith) u.inside)

-- in an embedding whose pins hold, the part from each node down embeds at the node's image
pub embeds-can : {Q : Pattern} {W : Document} {e : ℕ → ℕ} (pin : ℕ → ℕ → Type 0) → IsPatternTree Q → Embeds Q W e → ((q : ℕ) → q < length Q → pin q (e q))
    → (p : ℕ) → p < length Q → Can Q W pin p (e p)
embeds-can {Q} pin t m pins p h = embeds-from pin t m pins (length Q) p (omega arith) h

-- ---- the parts' embeddings make one

-- where the part from the root down embeds at the root, there is an embedding whose pins hold
pub can-embeds : {Q : Pattern} {W : Document} {pin : ℕ → ℕ → Type 0} → IsPatternTree Q → Can Q W pin 0 0
    → (e : ℕ → ℕ) × Embeds Q W e × ((q : ℕ) → q < length Q → pin q (e q))
can-embeds {Q} {W} {pin} t k = (
  all.image,
  record {
    inside = λ q l. can-inside (all.good q l);
    root = all.root;
    labels = λ q l. can-label (all.good q l);
    edges = all.link;
  },
  λ q l. can-pin (all.good q l),
)
  where
    -- a node's image comes from its parent's part
    next : (q u : ℕ) → 0 < q → q < length Q → Can Q W pin (pattern_parent Q q) u → (v : ℕ) × Can Q W pin q v × Edge (descends Q q) W u v
    next q u p h c = let r = can-child c (record { not_root = p; inside = h; is_parent = refl }) in (r.0, r.2, r.1)

    all : Chosen (pattern_parent Q) (Can Q W pin) (λ q. Edge (descends Q q) W) (length Q)
    all = choose (length Q) t k next

-- ---- results

-- a return node goes to its own number in the list
abbrev pub Pinned : Pattern → List ℕ → ℕ → ℕ → Type 0
Pinned Q r q v = (position Q q ≡ 0) ⊎ (v ≡ get_or r (position Q q - 1) 0)

-- and every node to one whose figure fits
abbrev pub PinnedIn : Pattern → Document → List ℕ → ℕ → ℕ → Type 0
PinnedIn Q W r q v = Pinned Q r q v × (figure_fits (pattern_figure Q q) (figure_of W v) ≡ true)

-- a list is a result exactly when the whole pattern embeds at the root with its return nodes pinned to the list, and figures fit
pub result-can : {Q : Pattern} {W : Document} {r : List ℕ} → PatternFacts Q → length r ≡ arity Q → Result Q W r ↔ Can Q W (PinnedIn Q W r) 0 0
result-can {Q} {W} {r} F n = (there, back)
  where
    pin : (m : Result Q W r) (q : ℕ) → q < length Q → (k : ℕ) → position Q q ≡ k → Pinned Q r q (m.image q)
    pin m q h zero p = inl p
    pin m q h (suc k) p =
        inr (sym (ap (λ (l : List ℕ). get_or l (position Q q - 1) 0) m.returns ∙ returns-at m.image q F h (omega arith)))

    there : Result Q W r → Can Q W (PinnedIn Q W r) 0 0
    there m =
        subst (λ (x : ℕ). Can Q W (PinnedIn Q W r) 0 x) m.embeds.root
        (embeds-can (PinnedIn Q W r) F.tree m.embeds (λ q h. (pin m q h (position Q q) refl, m.figures q h)) 0 F.tree.inhabited)

    -- where the pins hold, the list holds the return nodes' images
    entry : (e : ℕ → ℕ) → ((q : ℕ) → q < length Q → Pinned Q r q (e q)) → (i : ℕ) → i < arity Q → get_or r i 0 ≡ get_or (map e (return_nodes Q)) i 0
    entry e pins i h = go (pins q inside)
      where
        q : ℕ
        q = node_at Q (suc i)

        inside : q < length Q
        inside = F.holds (suc i) (omega arith) (omega arith)

        at : position Q q ≡ suc i
        at = F.held (suc i) (omega arith) (omega arith)

        go : Pinned Q r q (e q) → get_or r i 0 ≡ get_or (map e (return_nodes Q)) i 0
        go (inl p) = absurd (omega (arith, at))
        go (inr p) =
            let s : position Q q - 1 ≡ i = omega (arith, at) in
            subst (λ (x : ℕ). get_or r x 0 ≡ get_or (map e (return_nodes Q)) x 0) s (sym p ∙ sym (returns-at e q F inside (omega (arith, at))))

    back : Can Q W (PinnedIn Q W r) 0 0 → Result Q W r
    back k =
        let m = can-embeds F.tree k in
        let s : length r ≡ length (map m.0 (return_nodes Q)) = n ∙ sym (length-map (return_nodes Q) m.0 ∙ length-return_nodes Q) in
        record {
          image = m.0;
          embeds = m.1;
          figures = λ q h. (m.2 q h).1;
          returns = ext_get_or 0 r (map m.0 (return_nodes Q)) s (λ i h. let a : i < arity Q = subst (λ (x : ℕ). i < x) n h in entry m.0 (λ q k. (m.2 q k).0) i a);
        }
