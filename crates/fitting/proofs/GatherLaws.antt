-- Laws of paths gathered at the parents' rows: cleared rows hold what the root gives, nothing; a turn puts one node's path into its
-- parent's row and leaves the others; so a bit says that some child is on that path. Assumes nothing.
use Prim.Native.Nat.{ℕ, zero, suc, ◌+◌, ◌^◌, ◌≤◌, ◌<◌}
use mathlib.Core.Path.{◌≡◌, refl, sym, ap, ap₂, ◌∙◌, subst}
use mathlib.Core.Bool.{Bool, true, false, ◌&&◌, ◌||◌, or-false}
use mathlib.Core.Logic.{◌↔◌}
use mathlib.Core.List.{List}
use native.Mathlib.Omega.{arith}
use native.Mathlib.Nat.{zero-add}
use lib.Bits.{bit_or}
use lib.Dec.{eqb}
use lib.ListN.{length, get_or, set, replicate, length-replicate, length-set}
use lib.Seq.{get_or-set_same, get_or-set_other}
use borrow.Author.Tests.{eqb-true, eqb-false, lt-ltb}
use Rattle.model.specs.Lists.{up_from, any_of, has}
use Rattle.model.specs.Tree.{Document, IsTree, parent_of, Child}
use Rattle.model.specs.Embeddings.{child_test}
use Rattle.model.proofs.ListLaws.{any_below, below-any}
use Rattle.model.proofs.TreeLaws.{test-child-and, child-and-test}
use Rattle.bits.proofs.MaskLaws.{has-none, has-insert, any_snoc}
use Rattle.format.proofs.RangeLaws.{up_from-last}
use Rattle.fitting.specs.Steps.{Gathered}

-- a table as it is made
zeros : (n k : ℕ) → get_or {A = ℕ} (replicate n 0) k 0 ≡ 0
zeros zero k = refl
zeros (suc n) zero = refl
zeros (suc n) (suc k) = zeros n k

-- one number more
any_last : (test : ℕ → Bool) (i : ℕ) → any_of test (up_from 0 (i + 1)) ≡ (any_of test (up_from 0 i) || test i)
any_last test i = ap (any_of test) (up_from-last 0 i) ∙ any_snoc test (up_from 0 i) (0 + i) ∙ ap (λ (k : ℕ). any_of test (up_from 0 i) || test k) (zero-add i)

-- a row after x went into row p
has-put : (masks : List ℕ) (p x k t : ℕ) → p < length masks
    → has (get_or (set masks p (bit_or (get_or masks p 0) (2 ^ x))) k 0) t ≡ (has (get_or masks k 0) t || (eqb p k && eqb t x))
has-put masks p x k t h = go (eqb p k) refl
  where
    new : ℕ
    new = bit_or (get_or masks p 0) (2 ^ x)

    go : (s : Bool) → eqb p k ≡ s → has (get_or (set masks p new) k 0) t ≡ (has (get_or masks k 0) t || (s && eqb t x))
    go true q =
        subst (λ (y : ℕ). has (get_or (set masks p new) y 0) t ≡ (has (get_or masks y 0) t || eqb t x)) (eqb-true p k q)
        (ap (λ (m : ℕ). has m t) (get_or-set_same masks p new 0 h) ∙ has-insert (get_or masks p 0) x t)
    go false q =
        ap (λ (m : ℕ). has m t) (get_or-set_other masks p k new 0 (λ e. eqb-false p k q (sym e))) ∙ sym (or-false (has (get_or masks k 0) t))

-- the loop: node i is next
pub record Gathering (W : Document) (path masks : List ℕ) (i : ℕ) : Type 0 where
  pub started : 0 < i
  pub turns : i ≤ length W
  pub room : length W ≤ length masks
  pub row : (k t : ℕ) → has (get_or masks k 0) t ≡ any_of (λ j. child_test W k j && eqb t (get_or path j 0)) (up_from 0 i)

pub gathering-start : {W : Document} {path : List ℕ} (n : ℕ) → IsTree W → length W ≤ n → Gathering W path (replicate n 0) 1
unfolding any_of up_from child_test
gathering-start n tree h =
    record {
      started = omega arith;
      turns = omega (arith, tree.inhabited);
      room = omega (arith, length-replicate {A = ℕ} n 0);
      row = λ k t. ap (λ (m : ℕ). has m t) (zeros n k) ∙ has-none t;
    }

module _ {W : Document} {path masks : List ℕ} where
  -- the parent's row is in the table
  pub gathering-up : {i p : ℕ} → Gathering W path masks i → IsTree W → i < length W → p ≡ parent_of W i → p < length W
  gathering-up {i} {p} g tree h e =
      let up : parent_of W i < i = tree.earlier i g.started h in
      omega arith

  -- node i, with parent p, is on x
  pub gathering-step : {i p x y : ℕ} → Gathering W path masks i → IsTree W → i < length W → p ≡ parent_of W i → x ≡ get_or path i 0
      → y ≡ bit_or (get_or masks p 0) (2 ^ x) → Gathering W path (set masks p y) (i + 1)
  unfolding child_test
  gathering-step {i} {p} {x} {y} g tree h e on f =
      record { started = omega arith; turns = omega arith; room = omega (arith, length-set masks p y); row = row }
    where
      test : ℕ → ℕ → ℕ → Bool
      test k t j = child_test W k j && eqb t (get_or path j 0)

      here : (k t : ℕ) → test k t i ≡ (eqb p k && eqb t x)
      here k t =
          ap₂ (λ (r s : Bool). r && s && eqb (parent_of W i) k && eqb t (get_or path i 0)) (lt-ltb 0 i g.started) (lt-ltb i (length W) h)
          ∙ ap₂ (λ (q s : ℕ). eqb q k && eqb t s) (sym e) (sym on)

      row : (k t : ℕ) → has (get_or (set masks p y) k 0) t ≡ any_of (test k t) (up_from 0 (i + 1))
      row k t =
          ap (λ (z : ℕ). has (get_or (set masks p z) k 0) t) f ∙ has-put masks p x k t (omega (arith, gathering-up g tree h e))
          ∙ ap₂ (λ (r s : Bool). r || s) (g.row k t) (sym (here k t)) ∙ sym (any_last (test k t) i)

  pub gathering-end : {i : ℕ} → Gathering W path masks i → length W ≤ i → Gathered W path masks
  gathering-end {i} g h =
      let done : i ≡ length W = omega arith in
      record { row = λ k t. g.row k t ∙ ap (λ (m : ℕ). any_of (λ j. child_test W k j && eqb t (get_or path j 0)) (up_from 0 m)) done }

-- a bit says that some child is on it
pub gathered-exact : {W : Document} {path masks : List ℕ} → Gathered W path masks
    → (k t : ℕ) → (has (get_or masks k 0) t ≡ true) ↔ ((j : ℕ) × Child W k j × (t ≡ get_or path j 0))
gathered-exact {W} {path} {masks} g k t = (forth, back)
  where
    test : ℕ → Bool
    test j = child_test W k j && eqb t (get_or path j 0)

    forth : has (get_or masks k 0) t ≡ true → (j : ℕ) × Child W k j × (t ≡ get_or path j 0)
    forth e =
        let r = any_below test (length W) (sym (g.row k t) ∙ e) in
        let c = test-child-and W k r.0 t (get_or path r.0 0) r.2 in
        (r.0, c.0, c.1)

    back : (j : ℕ) × Child W k j × (t ≡ get_or path j 0) → has (get_or masks k 0) t ≡ true
    back r = g.row k t ∙ below-any test (length W) r.0 r.1.inside (child-and-test t (get_or path r.0 0) r.1 r.2)
