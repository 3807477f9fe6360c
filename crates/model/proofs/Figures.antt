-- Figures of a canonical document: an own node has its pattern node's least figure, every other node 0. So the least figures of the pattern
-- fit at its own nodes, and along a map that takes own nodes to images whose figures fit, figures do not fall. Assumes nothing.
use Prim.Native.Nat.{ℕ, ◌≤◌, ◌<◌}
use mathlib.Core.Path.{◌≡◌, refl, sym, ap, ◌∙◌}
use mathlib.Core.Bool.{Bool, true, false}
use mathlib.Core.Logic.{◌⊎◌, inl, inr}
use mathlib.Core.List.{List}
use native.Mathlib.Omega.{arith}
use lib.Dec.{eqb, ltb}
use lib.ListN.{length, get_or-eq_default}
use borrow.Author.Tests.{eqb-true, eq-eqb, leb-true, le-leb, ltb-true, ltb-false}
use Rattle.model.specs.Lists.{up_from, first_of}
use Rattle.model.specs.Tree.{Document, figure_of, Rises}
use Rattle.model.specs.Summary.{Summary}
use Rattle.model.specs.Pattern.{PatternRecord, no_pattern_record, Pattern, pattern_figure, figure_fits, FiguresFit}
use Rattle.model.specs.Embeddings.{image_in}
use Rattle.model.specs.Canonical.{Spot, own_figure, spot_records}
use Rattle.model.proofs.ListLaws.{up_from-mem, mem-up_from, first-hit, first-or}
use Rattle.model.proofs.Laid.{Laid, spot_owner}
use Rattle.model.proofs.SpotLaws.{in_table, spot-figure}

-- the pattern node whose own node is v, or the pattern's count
abbrev pub owner_of : Pattern → List ℕ → ℕ → ℕ
owner_of P own v = first_of (λ q. eqb (image_in own q) v) (length P) (up_from 0 (length P))

-- past the last pattern node the least figure reads as 0
no-figure : (P : Pattern) (q : ℕ) → length P ≤ q → pattern_figure P q ≡ 0
no-figure P q h = ap (λ (r : PatternRecord). r.figure) (get_or-eq_default P no_pattern_record h)

-- a node is some pattern node's own node, with its least figure, or has figure 0
pub own-figure-cases : (P : Pattern) (own : List ℕ) (v : ℕ) → ((q : ℕ) × (q < length P) × (image_in own q ≡ v) × (own_figure P own v ≡ pattern_figure P q)) ⊎ (own_figure P own v ≡ 0)
unfolding own_figure
own-figure-cases P own v = go (ltb o (length P)) refl
  where
    o : ℕ
    o = owner_of P own v

    found : o < length P → (eqb (image_in own o) v ≡ true) ⊎ (o ≡ length P) → image_in own o ≡ v
    found h (inl e) = eqb-true (image_in own o) v e
    found h (inr e) = absurd (omega arith)

    go : (b : Bool) → ltb o (length P) ≡ b → ((q : ℕ) × (q < length P) × (image_in own q ≡ v) × (pattern_figure P o ≡ pattern_figure P q)) ⊎ (pattern_figure P o ≡ 0)
    go true e =
        let h : o < length P = ltb-true o (length P) e in
        inl (o, h, found h (first-or (λ q. eqb (image_in own q) v) (length P) (up_from 0 (length P))), refl)
    go false e = inr (no-figure P o (ltb-false o (length P) e))

module _ {S : Summary} {P : Pattern} {es own : List ℕ} {spots : List Spot} (d : Laid S P es spots own) where
  -- no two pattern nodes have one own node
  pub own-apart : (p q : ℕ) → p < length P → q < length P → image_in own p ≡ image_in own q → p ≡ q
  own-apart p q h k e = sym (d.own_owner p h) ∙ ap (spot_owner spots) e ∙ d.own_owner q k

  -- the own node of pattern node q is q's alone
  pub own-owner : (q : ℕ) → q < length P → owner_of P own (image_in own q) ≡ q
  own-owner q h =
      let r = first-hit (λ p. eqb (image_in own p) (image_in own q)) (length P) (up_from 0 (length P)) q (mem-up_from 0 (length P) q (omega arith) (omega arith)) (eq-eqb (image_in own q) (image_in own q) refl) in
      let l = up_from-mem 0 (length P) (owner_of P own (image_in own q)) r.0 in
      own-apart (owner_of P own (image_in own q)) q (omega arith) h (eqb-true (image_in own (owner_of P own (image_in own q))) (image_in own q) r.1)

  -- so it has q's least figure
  pub own-figure : (q : ℕ) → q < length P → own_figure P own (image_in own q) ≡ pattern_figure P q
  unfolding own_figure
  own-figure q h = ap (pattern_figure P) (own-owner q h)

  pub own-figures-fit : FiguresFit P (spot_records S (own_figure P own) spots) (image_in own)
  unfolding figure_fits
  own-figures-fit q h =
      let e : figure_of (spot_records S (own_figure P own) spots) (image_in own q) ≡ pattern_figure P q = spot-figure S (own_figure P own) spots (image_in own q) (d.own_inside q h) ∙ own-figure q h in
      le-leb (pattern_figure P q) (figure_of (spot_records S (own_figure P own) spots) (image_in own q)) (omega arith)

-- along a map of own nodes to images whose figures fit, figures do not fall
pub figures-rise : (S : Summary) (P : Pattern) (own : List ℕ) (spots : List Spot) (W : Document) (e h : ℕ → ℕ) → ((q : ℕ) → q < length P → h (image_in own q) ≡ e q) → FiguresFit P W e
    → Rises (spot_records S (own_figure P own) spots) W h
unfolding figure_fits
figures-rise S P own spots W e h a fit i l = go (own-figure-cases P own i)
  where
    same : figure_of (spot_records S (own_figure P own) spots) i ≡ own_figure P own i
    same = spot-figure S (own_figure P own) spots i (in_table S (own_figure P own) spots i l)

    go : ((q : ℕ) × (q < length P) × (image_in own q ≡ i) × (own_figure P own i ≡ pattern_figure P q)) ⊎ (own_figure P own i ≡ 0) → figure_of (spot_records S (own_figure P own) spots) i ≤ figure_of W (h i)
    go (inl (q, k, at, f)) =
        let r : pattern_figure P q ≤ figure_of W (e q) = leb-true (pattern_figure P q) (figure_of W (e q)) (fit q k) in
        let o : figure_of W (h i) ≡ figure_of W (e q) = ap (figure_of W) (ap h (sym at) ∙ a q k) in
        omega (arith, same)
    go (inr z) = omega (arith, same)
