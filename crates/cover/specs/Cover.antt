-- What a list of sets says of what is offered. A set is a table by member, of masks of its nodes; f says which nodes of which member are
-- offered.
use Rattle.std.specs.Prelude.{ℕ, zero, suc, ◌+◌, ◌-◌, ◌<◌, ◌≡◌, Bool, true, List, [], map, eqb, length, get_or, take, set}
use Rattle.std.specs.Int.Bits.{bit_and}
use Rattle.std.specs.Int.Count.{ones}
use Rattle.model.specs.Lists.{has, up_from, all_of}

-- of the first n members, all nodes in the set are offered
pub record Inside (n : ℕ) (a : List ℕ) (f : ℕ → ℕ → Bool) : Type 0 where
  pub each : (i p : ℕ) → i < n → has (get_or a i 0) p ≡ true → f i p ≡ true

-- wherever b is offered, a is
abbrev pub Within : List ℕ → List ℕ → Type 0
Within a b = (n : ℕ) (f : ℕ → ℕ → Bool) → Inside n b f → Inside n a f

-- one of the first `count` sets is offered
pub record Among (n : ℕ) (sets : List (List ℕ)) (count : ℕ) (f : ℕ → ℕ → Bool) : Type 0 where
  pub row : ℕ
  pub few : row < count
  pub inside : Inside n (get_or sets row []) f

-- one of the list's sets is offered
abbrev pub Covers : ℕ → List (List ℕ) → (ℕ → ℕ → Bool) → Type 0
Covers n sets f = Among n sets (length sets) f

-- the list without set k, in whose place the last set stands
abbrev pub without_set : List (List ℕ) → ℕ → List (List ℕ)
without_set sets k = take (length sets - 1) (set sets k (get_or sets (length sets - 1) []))

-- of member i, all nodes in a are in b
abbrev pub inside_at : List ℕ → List ℕ → ℕ → Bool
inside_at a b i = eqb (bit_and (get_or a i 0) (get_or b i 0)) (get_or a i 0)

-- of every member, all nodes in a are in b
unfoldable pub inside_by : List ℕ → List ℕ → Bool
inside_by a b = all_of (inside_at a b) (up_from 0 (length a))

-- what an operation on masks makes of two sets, member by member
unfoldable pub each_by : (ℕ → ℕ → ℕ) → List ℕ → List ℕ → List ℕ
each_by op a b = map (λ i. op (get_or a i 0) (get_or b i 0)) (up_from 0 8)

-- how many nodes of the first n members two sets share
unfoldable pub shared_below : List ℕ → List ℕ → ℕ → ℕ
shared_below a b zero = 0
shared_below a b (suc n) = shared_below a b n + ones (bit_and (get_or a n 0) (get_or b n 0))
