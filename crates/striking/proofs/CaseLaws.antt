-- The case of an inner verdict: the pattern without a leaf, and the set of one that the present pattern is. Assumes nothing.
use Prim.Native.Nat.{ℕ, zero, suc, ◌≤◌, ◌<◌}
use mathlib.Core.Path.{◌≡◌, sym, subst}
use mathlib.Core.Bool.{true}
use mathlib.Core.Logic.{◌⊎◌, inl, inr}
use mathlib.Core.List.Memᴰ
use mathlib.Core.List.{[], ◌∷◌, Memᴰ}
use native.Mathlib.Omega.{arith}
use lib.ListN.{length, get_or}
use Rattle.model.specs.Limits.{max_pattern, max_position}
use Rattle.model.specs.Summary.{Summary}
use Rattle.model.specs.Pattern.{Pattern, arity}
use Rattle.model.specs.Facts.{FewFigures}
use Rattle.model.specs.Striking.{may_go, without}
use Rattle.model.proofs.Removing.{length_without, without-carries, without-tree}
use Rattle.model.proofs.Striking.{facts-without, member}
use Rattle.format.specs.Given.{PatternKept}
use Rattle.containment.specs.Answer.{CaseKept}
use Rattle.striking.specs.Present.{Strikable}
use Rattle.striking.proofs.SectionBytes.{low-without}

-- its only member
only_one : {R P : Pattern} → Memᴰ R (P ∷ []) → R ≡ P
only_one {R} {P} m = go (Memᴰ.cases_cons m)
  where
    go : (R ≡ P) ⊎ Memᴰ R [] → R ≡ P
    go (inl e) = e
    go (inr n) = absurd (Memᴰ.not-nil n)

module _ {S : Summary} {P : Pattern} {limit : ℕ} (G : Strikable S P limit) (q : ℕ) (inside : q < length P) (may : may_go P q ≡ true) where
  pub few-without : length (without P q) ≤ max_pattern
  few-without = let k = length_without P q inside in let f = G.pattern.few in omega arith

  arities : arity (without P q) ≡ arity P
  arities = (without-carries P q inside may).arities

  one-kept : (i : ℕ) → i < 1 → PatternKept (get_or (P ∷ []) i [])
  one-kept zero h = G.pattern
  one-kept (suc i) h = absurd (omega arith)

  pub kept-without : CaseKept S (without P q) (P ∷ [])
  kept-without =
      record {
        summary = G.summary;
        first = record { tree = without-tree P q inside may G.facts.tree; few = few-without };
        members = record { few = omega arith; members = one-kept };
        facts =
            record {
              summary = G.outline;
              first = facts-without G.outline limit G.facts G.pattern.few inside may;
              members = member G.outline limit G.facts G.pattern.few inside may;
              some_members = omega arith;
              few_members = omega arith;
              some_arity = subst (λ (n : ℕ). 1 ≤ n) (sym arities) G.some_arity;
              arity_bound = subst (λ (n : ℕ). n ≤ max_position) (sym arities) G.arity_bound;
              summary_size = G.summary.few;
              first_size = few-without;
              first_figures = low-without P q inside G.figures;
              member_figures = λ R m. subst FewFigures (sym (only_one m)) G.figures;
            };
      }
