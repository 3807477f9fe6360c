-- Loops over sets, member by member, and over lists of sets: after each turn the list covers what it did and what the sets that had their
-- turn ask. Assumes nothing.
use Prim.Native.Nat.{ℕ, suc, ◌+◌, ◌≤◌, ◌<◌}
use mathlib.Core.Path.{◌≡◌, refl, sym, ap, ◌∙◌}
use mathlib.Core.Bool.{Bool, true, false, ◌||◌}
use mathlib.Core.Logic.{◌⊎◌, inl, inr, ⊎_elim}
use mathlib.Core.List.{List, [], ◌∷◌}
use native.Mathlib.Omega.{arith}
use native.Mathlib.Nat.{zero-add, add-zero}
use lib.Dec.{ltb}
use lib.ListN.{length, get_or, set, replicate, length-set, length-replicate, get_or-replicate, get_or-eq_default}
use lib.Seq.{get_or-set_same, get_or-set_other}
use borrow.Author.Count.{below_more}
use borrow.Author.Tests.{ltb-true, ltb-false}
use Rattle.std.specs.List.{list_any, zip}
use Rattle.model.specs.Lists.{has, any_of, up_from}
use Rattle.model.proofs.ListLaws.{not-both}
use Rattle.bits.proofs.MaskLaws.{has-none}
use Rattle.cover.specs.Cover.{Inside, Covers}
use Rattle.judging.specs.declared.member.Member.{Member}
use Rattle.judging.specs.Blocks.{no_member, sets_in}
use Rattle.judging.specs.Judging.{root_by}
use Rattle.alternatives.specs.Alternatives.{met_by_some, RowBy, Raises, Grown}

-- ---- member by member

-- the sets before i are made
pub record RowTo (n : ℕ) (F : ℕ → ℕ → ℕ) (a r : List ℕ) (i : ℕ) : Type 0 where
  pub top : i ≤ n
  pub few : n ≤ 8
  pub long : length r ≡ 8
  pub each : (j : ℕ) → j < i → get_or r j 0 ≡ F j (get_or a j 0)

module _ {n : ℕ} {F : ℕ → ℕ → ℕ} {a r : List ℕ} where
  pub row-to-start : n ≤ 8 → length r ≡ 8 → RowTo n F a r 0
  row-to-start h l = record { top = omega arith; few = h; long = l; each = λ j k. absurd (omega arith) }

  module _ {i : ℕ} (v : RowTo n F a r i) where
    pub row-to-step : {x : ℕ} → i < n → x ≡ F i (get_or a i 0) → RowTo n F a (set r i x) (i + 1)
    row-to-step {x} h e =
        let t = v.few in
        let l = v.long in
        record {
          top = omega arith;
          few = v.few;
          long = length-set r i x ∙ v.long;
          each =
              below_more (λ (j : ℕ). get_or (set r i x) j 0 ≡ F j (get_or a j 0)) i (λ j k. get_or-set_other r i j x 0 (λ q. omega arith) ∙ v.each j k)
              (get_or-set_same r i x 0 (omega arith) ∙ e);
        }

    pub row-to-end : n ≤ i → RowBy n F a r
    row-to-end h = record { each = λ j k. v.each j (omega arith) }

-- ---- set by set

-- a list that covers what it did, and whatever one of the first i sets asks of it
pub record Growing (n : ℕ) (Asks : List ℕ → (ℕ → ℕ → Bool) → Type 0) (Else : (ℕ → ℕ → Bool) → Type 0) (sets before now : List (List ℕ)) (i : ℕ) : Type 0 where
  pub grown : Grown n before now
  pub each : (k : ℕ) → k < i → (f : ℕ → ℕ → Bool) → Asks (get_or sets k []) f → Covers n now f ⊎ Else f

module _ {n : ℕ} {Asks : List ℕ → (ℕ → ℕ → Bool) → Type 0} {Else : (ℕ → ℕ → Bool) → Type 0} {sets before : List (List ℕ)} where
  pub growing-start : Growing n Asks Else sets before before 0
  growing-start = record { grown = record { more = λ f s. s }; each = λ k l. absurd (omega arith) }

  module _ {now : List (List ℕ)} {i : ℕ} (v : Growing n Asks Else sets before now i) where
    pub growing-step : {after : List (List ℕ)} → Grown n now after → ((f : ℕ → ℕ → Bool) → Asks (get_or sets i []) f → Covers n after f ⊎ Else f) → Growing n Asks Else sets before after (i + 1)
    growing-step {after} g w =
        record {
          grown = record { more = λ f s. g.more f (v.grown.more f s) };
          each =
              below_more (λ (k : ℕ). (f : ℕ → ℕ → Bool) → Asks (get_or sets k []) f → Covers n after f ⊎ Else f) i
              (λ k l f s. ⊎_elim (λ u. inl (g.more f u)) inr (v.each k l f s)) w;
        }

    -- all had their turn
    pub growing-end : length sets ≤ i → (k : ℕ) → k < length sets → (f : ℕ → ℕ → Bool) → Asks (get_or sets k []) f → Covers n now f ⊎ Else f
    growing-end h k l = v.each k (omega arith)

-- a set was added
pub added-grown : {n : ℕ} {before after : List (List ℕ)} {a : List ℕ} → ((n : ℕ) (f : ℕ → ℕ → Bool) → Covers n before f ⊎ Inside n a f → Covers n after f) → Grown n before after
added-grown {n} w = record { more = λ f s. w n f (inl s) }

-- ---- what a loop asks of a set

-- something is inside g, and F raises it to f
abbrev pub Raised : ℕ → (ℕ → ℕ → ℕ) → List ℕ → (ℕ → ℕ → Bool) → Type 0
Raised n F a f = (g : ℕ → ℕ → Bool) × (Raises n F g f × Inside n a g)

abbrev pub Nothing : (ℕ → ℕ → Bool) → Type 0
Nothing f = ⊥

pub only : {A : Type 0} → A ⊎ ⊥ → A
only (inl a) = a
only (inr e) = absurd e

pub raised-end : {n : ℕ} {F : ℕ → ℕ → ℕ} {sets before now : List (List ℕ)} {i : ℕ} → Growing n (Raised n F) Nothing sets before now i → length sets ≤ i
    → (g f : ℕ → ℕ → Bool) → Raises n F g f → Covers n sets g → Covers n now f
raised-end v h g f R s = only (growing-end v h s.row s.few f (g, (R, s.inside)))

-- the set a, and those of which one is joined with it
abbrev pub With : ℕ → List ℕ → List ℕ → (ℕ → ℕ → Bool) → Type 0
With n a b f = Inside n a f × Inside n b f

-- the list, and the set that is joined with each of its sets
abbrev pub WithList : ℕ → List (List ℕ) → List ℕ → (ℕ → ℕ → Bool) → Type 0
WithList n old b f = Covers n old f × Inside n b f

-- nothing is always offered
pub none_inside : {n : ℕ} {f : ℕ → ℕ → Bool} → Inside n (replicate 8 0) f
none_inside {n} {f} =
    record { each = λ i p h e. absurd (not-both (has (get_or {A = ℕ} (replicate 8 0) i 0) p) e (ap (λ (x : ℕ). has x p) (zeros i (ltb i 8) refl) ∙ has-none p)) }
  where
    zeros : (i : ℕ) → (b : Bool) → ltb i 8 ≡ b → get_or {A = ℕ} (replicate 8 0) i 0 ≡ 0
    zeros i true l = get_or-replicate {A = ℕ} 8 i 0 0 (ltb-true i 8 l)
    zeros i false l =
        let e : length {A = ℕ} (replicate 8 0) ≡ 8 = length-replicate {A = ℕ} 8 0 in
        let h : 8 ≤ i = ltb-false i 8 l in
        let k : length {A = ℕ} (replicate 8 0) ≤ i = omega arith in
        get_or-eq_default (replicate 8 0) 0 k

-- ---- the members together

-- a member's root meets by the set that stands at its place
abbrev pub pair_met : Member × ℕ → Bool
pair_met p = root_by (sets_in p.0) p.1

or-elim : (a b : Bool) → (a || b) ≡ elim a [ true ↦ true | false ↦ b ]
or-elim true b = refl
or-elim false b = refl

pairs-from : (t : ℕ → Bool) (k : ℕ) (ts : List Member) (a : List ℕ) → length ts ≤ length a → ((i : ℕ) → i < length ts → t (k + i) ≡ pair_met (get_or ts i no_member, get_or a i 0))
    → list_any pair_met (zip ts a) ≡ any_of t (up_from k (length ts))
unfolding any_of up_from
pairs-from t k [] a l e = refl
pairs-from t k (x ∷ ts) [] l e = absurd (omega arith)
pairs-from t k (x ∷ ts) (y ∷ a) l e =
    let h : t k ≡ pair_met (x, y) = ap t (sym (add-zero k)) ∙ e 0 (omega arith) in
    let r : list_any pair_met (zip ts a) ≡ any_of t (up_from (suc k) (length ts)) = pairs-from t (suc k) ts a (omega arith) (λ i j. ap t (omega arith) ∙ e (suc i) (omega arith)) in
    rw (h, r) (or-elim (pair_met (x, y)) (any_of t (up_from (suc k) (length ts))))

pub pairs-met : (ts : List Member) (a : List ℕ) → length ts ≤ length a → list_any pair_met (zip ts a) ≡ met_by_some ts a
unfolding met_by_some
pairs-met ts a l = pairs-from (λ i. root_by (sets_in (get_or ts i no_member)) (get_or a i 0)) 0 ts a l (λ i h. ap (λ (j : ℕ). root_by (sets_in (get_or ts j no_member)) (get_or a j 0)) (zero-add i))
