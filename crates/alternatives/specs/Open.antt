-- Asking what is left open of a partial embedding: what each part of a turn makes of the lists. `ts` is what is known of the members, `es`
-- are the images of the first pattern's nodes.
use Rattle.std.specs.Prelude.{ℕ, ◌<◌, ◌≡◌, Bool, ◌⊎◌, List, [], eqb, length, get_or}
use Rattle.cover.specs.Cover.{Inside, Covers}
use Rattle.judging.specs.declared.member.Member.{Member}
use Rattle.alternatives.specs.Alternatives.{RowBy, Raises, Met}

-- f has what is settled at node j, by the rows of n members
pub record Settles (n : ℕ) (rows : List (List ℕ)) (j : ℕ) (f : ℕ → ℕ → Bool) : Type 0 where
  pub inside : (a : List ℕ) → ((i : ℕ) → i < n → get_or a i 0 ≡ get_or (get_or rows i []) j 0) → Inside n a f

-- each of the first `count` nodes' lists has one set, the node's column of the rows of n members
pub record Begun (n count : ℕ) (rows : List (List ℕ)) (lists : List (List (List ℕ))) : Type 0 where
  pub alone : (j : ℕ) → j < count → length (get_or lists j []) ≡ 1
  pub first : (j i : ℕ) → j < count → i < n → get_or (get_or (get_or lists j []) 0 []) i 0 ≡ get_or (get_or rows i []) j 0

-- of each of the sets, what F makes of it
pub record ListBy (n : ℕ) (F : ℕ → ℕ → ℕ) (sets made : List (List ℕ)) : Type 0 where
  pub each : (k : ℕ) → k < length sets → RowBy n F (get_or sets k []) (get_or made k [])

-- F raises to f what the list covers
pub record RaisedOf (n : ℕ) (F : ℕ → ℕ → ℕ) (sets : List (List ℕ)) (f : ℕ → ℕ → Bool) : Type 0 where
  pub base : ℕ → ℕ → Bool
  pub raises : Raises n F base f
  pub covers : Covers n sets base

-- what is joined into node j's list covers what `Known` says so of; all other lists are as they were
pub record Turned (ts : List Member) (j : ℕ) (Known : (ℕ → ℕ → Bool) → Type 0) (lists lists' : List (List (List ℕ))) : Type 0 where
  pub joined : (f : ℕ → ℕ → Bool) → Covers (length ts) (get_or lists j []) f → Known f → Covers (length ts) (get_or lists' j []) f ⊎ Met ts (eqb j 0) f
  pub others : (i : ℕ) → (i ≡ j → ⊥) → get_or lists' i [] ≡ get_or lists i []
