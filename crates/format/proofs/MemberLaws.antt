-- A walk over a set's members: what is left of the list, and where the next one stands. Assumes nothing.
use Prim.Native.Nat.{ℕ, suc, ◌+◌, ◌<◌}
use mathlib.Core.Path.{◌≡◌, sym, ap, ◌∙◌}
use mathlib.Core.List.{List, [], ◌∷◌}
use native.Mathlib.Omega.{arith}
use native.Mathlib.Numerals.{add-one}
use lib.ListN.{length, drop, drop_of_length-le}
use lib.Seq.{drop-cons}
use Rattle.model.specs.Limits.{pattern_width}
use Rattle.model.specs.Pattern.{Pattern}
use Rattle.model.specs.Bytes.{field, section_end, set_of}
use Rattle.format.specs.Given.{pattern_at}
use Rattle.format.specs.Members.{Passed}
use Rattle.format.proofs.SectionLaws.{set-count, set-member, member-step}

module _ (b : List ℕ) (on at i : ℕ) (p : Passed b on at i) where
  pub none_left : i ≡ field b on → drop i (set_of b on) ≡ []
  none_left e = let n = set-count b on in drop_of_length-le (set_of b on) (omega arith)

  module _ (f : i ≡ field b on → ⊥) where
    inside : i < length (set_of b on)
    inside = let n = set-count b on in let k = p.inside in omega arith

    pub next_left : (P : Pattern) → P ≡ pattern_at b at → drop i (set_of b on) ≡ P ∷ drop (i + 1) (set_of b on)
    next_left P e =
        drop-cons (set_of b on) i [] inside ∙ ap (λ (Q : Pattern). Q ∷ drop (suc i) (set_of b on)) (set-member b on i inside ∙ ap (pattern_at b) (sym p.here) ∙ sym e)
        ∙ ap (λ (j : ℕ). P ∷ drop j (set_of b on)) (sym (add-one i))

    pub passed_more : (end : ℕ) → end ≡ section_end pattern_width b at → Passed b on end (i + 1)
    passed_more end e = record { whole = p.whole; inside = (let k = p.inside in omega arith); here = member-step b on i p.here e }
