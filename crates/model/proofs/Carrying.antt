-- A pattern carried into another by a map of its nodes: each node goes to one like it, parents to parents, and no position is lost. What the
-- larger has as a result the smaller has too, and the smaller keeps the rules of a pattern. Assumes nothing.
use Prim.Native.Nat.{ℕ, ◌≤◌, ◌<◌}
use mathlib.Core.Path.{◌≡◌, refl, sym, ap, ◌∙◌, subst, subst₂}
use mathlib.Core.Bool.{Bool, true}
use mathlib.Core.List.{List, map, map-map}
use native.Mathlib.Omega.{arith}
use lib.Dec.{eqb}
use lib.ListN.{length}
use borrow.Author.Tests.{eqb-true, eq-eqb}
use Rattle.model.specs.Lists.{up_from}
use Rattle.model.specs.Tree.{Document, label_of, figure_of, Edge}
use Rattle.model.specs.Pattern.{Pattern, position, arity, node_at, IsPatternTree, label_fits, figure_fits, Embeds, Result, Carries}
use Rattle.model.specs.Facts.{PatternFacts}
use Rattle.model.proofs.ListLaws.{up_from-mem, mem-up_from, first-hit, map-agree}

-- a pattern into itself, and one map after another
pub carries-self : (P : Pattern) → Carries P P (λ i. i)
carries-self P =
    record {
      inside = λ i h. h;
      root = refl;
      not_root = λ i z h. z;
      parents = λ i z h. refl;
      labels = λ i h. refl;
      edges = λ i h. refl;
      positions = λ i h. refl;
      figures = λ i h. refl;
      apart = λ i j h k e. e;
      positioned = λ j h z. (j, h, refl);
      arities = refl;
    }

pub carries-after : {R Q P : Pattern} {f g : ℕ → ℕ} → Carries R Q f → Carries Q P g → Carries R P (λ i. g (f i))
carries-after {R} {Q} {P} {f} {g} a b =
    record {
      inside = λ i h. b.inside (f i) (a.inside i h);
      root = ap g a.root ∙ b.root;
      not_root = λ i z h. b.not_root (f i) (a.not_root i z h) (a.inside i h);
      parents = λ i z h. b.parents (f i) (a.not_root i z h) (a.inside i h) ∙ ap g (a.parents i z h);
      labels = λ i h. b.labels (f i) (a.inside i h) ∙ a.labels i h;
      edges = λ i h. b.edges (f i) (a.inside i h) ∙ a.edges i h;
      positions = λ i h. b.positions (f i) (a.inside i h) ∙ a.positions i h;
      figures = λ i h. b.figures (f i) (a.inside i h) ∙ a.figures i h;
      apart = λ i j h k e. a.apart i j h k (b.apart (f i) (f j) (a.inside i h) (a.inside j k) e);
      positioned = λ j h z. (
          let m = b.positioned j h z in
          let n = a.positioned m.0 m.1 (let e : position P (g m.0) ≡ position Q m.0 = b.positions m.0 m.1 in let k : position P (g m.0) ≡ position P j = ap (position P) m.2 in omega arith) in
          (n.0, n.1, ap g n.2 ∙ m.2)
          );
      arities = a.arities ∙ b.arities;
    }

module _ {Q P : Pattern} {f : ℕ → ℕ} (c : Carries Q P f) where
  -- an embedding of the larger, after the map, is one of the smaller
  pub carried-embeds : {W : Document} {e : ℕ → ℕ} → Embeds P W e → Embeds Q W (λ i. e (f i))
  carried-embeds {W} {e} k =
      record {
        inside = λ i h. k.inside (f i) (c.inside i h);
        root = ap e c.root ∙ k.root;
        labels = λ i h. subst (λ (l : ℕ). label_fits l (label_of W (e (f i))) ≡ true) (c.labels i h) (k.labels (f i) (c.inside i h));
        edges = λ i z h. subst₂ (λ (d : Bool) (a : ℕ). Edge d W (e a) (e (f i))) (c.edges i h) (c.parents i z h) (k.edges (f i) (c.not_root i z h) (c.inside i h));
      }

  module _ (p : PatternFacts P) where
    -- a position is held by some node of the smaller, and that goes to the node which holds it in the larger
    at_position : (n : ℕ) → 1 ≤ n → n ≤ arity P → (node_at Q n < length Q) × (position Q (node_at Q n) ≡ n) × (f (node_at Q n) ≡ node_at P n)
    at_position n low high =
        let holder = c.positioned (node_at P n) (p.holds n low high) (let e = p.held n low high in omega arith) in
        let i : ℕ = holder.0 in
        let inside : i < length Q = holder.1 in
        let own : position Q i ≡ n = sym (c.positions i inside) ∙ ap (position P) holder.2 ∙ p.held n low high in
        let hit = first-hit (λ q. eqb (position Q q) n) (length Q) (up_from 0 (length Q)) i (mem-up_from 0 (length Q) i (omega arith) (omega arith)) (eq-eqb (position Q i) n own) in
        let at : node_at Q n < length Q = (let l = up_from-mem 0 (length Q) (node_at Q n) hit.0 in omega arith) in
        let held : position Q (node_at Q n) ≡ n = eqb-true (position Q (node_at Q n)) n hit.1 in
        let same : position P (f (node_at Q n)) ≡ n = c.positions (node_at Q n) at ∙ held in
        (at, held, sym (p.once (f (node_at Q n)) (c.inside (node_at Q n) at) (omega arith)) ∙ ap (node_at P) same)

    -- a result of the larger is one of the smaller
    pub carried-result : {W : Document} {r : List ℕ} → Result P W r → Result Q W r
    carried-result {W} {r} k =
        record {
          image = λ i. k.image (f i);
          embeds = carried-embeds k.embeds;
          figures = λ i h. subst (λ (l : ℕ). figure_fits l (figure_of W (k.image (f i))) ≡ true) (c.figures i h) (k.figures (f i) (c.inside i h));
          returns =
              k.returns ∙ map-map k.image (node_at P) (up_from 1 (arity P))
              ∙ map-agree (λ n. k.image (node_at P n)) (λ n. k.image (f (node_at Q n))) (up_from 1 (arity P))
              (λ n m. (let l = up_from-mem 1 (arity P) n m in ap k.image (sym (at_position n l.0 (omega arith)).2)))
              ∙ sym (map-map (λ i. k.image (f i)) (node_at Q) (up_from 1 (arity P)))
              ∙ ap (λ (n : ℕ). map (λ i. k.image (f i)) (map (node_at Q) (up_from 1 n))) (sym c.arities);
        }

    -- the smaller keeps the rules, being a tree
    pub carried-facts : IsPatternTree Q → PatternFacts Q
    carried-facts tree =
        record {
          tree = tree;
          holds = λ n low high. (at_position n low (omega (arith, c.arities))).0;
          held = λ n low high. (at_position n low (omega (arith, c.arities))).1;
          once = λ i h z. (
              let e : position P (f i) ≡ position Q i = c.positions i h in
              let at = at_position (position Q i) (omega arith) (let l : position P (f i) ≤ arity P = p.range (f i) (c.inside i h) in omega arith) in
              c.apart (node_at Q (position Q i)) i at.0 h (at.2 ∙ ap (node_at P) (sym e) ∙ p.once (f i) (c.inside i h) (omega arith))
              );
          range = λ i h. (
              let e : position P (f i) ≡ position Q i = c.positions i h in
              let l : position P (f i) ≤ arity P = p.range (f i) (c.inside i h) in
              let a = c.arities in
              omega arith
              );
        }
