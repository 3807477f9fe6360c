-- The numbers of nodes with a node and without it, and whether a node may go, by the tests that the code makes. Assumes nothing.
use Prim.Native.Nat.{ℕ, suc, ◌+◌, ◌-◌, ◌≤◌, ◌<◌}
use mathlib.Core.Path.{◌≡◌, sym, ap, ◌∙◌}
use mathlib.Core.Bool.{Bool, true, false, ◌&&◌, and-false}
use native.Mathlib.Omega.{arith}
use lib.Dec.{eqb, ltb}
use native.Mathlib.Numerals.{add-one}
use borrow.Author.Tests.{lt-ltb, le-ltb, eq-eqb, ne_eqb}
use Rattle.model.specs.Pattern.{Pattern, position}
use Rattle.model.specs.Striking.{lowered, raised, childless, may_go}
use Rattle.model.proofs.ListLaws.{and_intro}

module _ (q i : ℕ) where
  pub lowered-above : q < i → i - 1 ≡ lowered q i
  lowered-above h = sym (ap (λ (t : Bool). elim t as (λ _. ℕ) [ true ↦ i - 1 | false ↦ i ]) (lt-ltb q i h))

  pub lowered-below : i ≤ q → i ≡ lowered q i
  lowered-below h = sym (ap (λ (t : Bool). elim t as (λ _. ℕ) [ true ↦ i - 1 | false ↦ i ]) (le-ltb q i h))

  pub raised_below : i < q → i ≡ raised q i
  raised_below h = sym (ap (λ (t : Bool). elim t as (λ _. ℕ) [ true ↦ i | false ↦ suc i ]) (lt-ltb i q h))

  pub raised-above : q ≤ i → i + 1 ≡ raised q i
  raised-above h = add-one i ∙ sym (ap (λ (t : Bool). elim t as (λ _. ℕ) [ true ↦ i | false ↦ suc i ]) (le-ltb i q h))

-- ---- whether a node may go

module _ (P : Pattern) (q : ℕ) where
  pub may-root : q ≡ 0 → false ≡ may_go P q
  unfolding may_go
  may-root e = sym (ap (λ (t : Bool). t && eqb (position P q) 0 && childless P q) (le-ltb 0 q (omega arith)))

  pub may-positioned : {p : ℕ} → p ≡ position P q → (p ≡ 0 → ⊥) → false ≡ may_go P q
  unfolding may_go
  may-positioned e f = sym (ap (λ (t : Bool). ltb 0 q && t && childless P q) (ne_eqb (position P q) 0 (λ z. f (e ∙ z))) ∙ ap (λ (t : Bool). t && childless P q) (and-false (ltb 0 q)))

  pub may-rest : {p : ℕ} {t : Bool} → (q ≡ 0 → ⊥) → p ≡ position P q → p ≡ 0 → t ≡ childless P q → t ≡ may_go P q
  unfolding may_go
  may-rest n e z r = r ∙ sym (ap (λ (t : Bool). t && childless P q) (and_intro (lt-ltb 0 q (omega arith)) (eq-eqb (position P q) 0 (sym e ∙ z))))
