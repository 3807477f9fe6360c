-- Runs: calls that name their caller, one after another on the eight tallies; what a caller receives over a run, and what was tried.
use Rattle.std.specs.Prelude.{ℕ, ◌+◌, ◌≤◌, ◌≡◌, ◌⊎◌, List, [], ◌∷◌, map, eqb, set}
use Rattle.std.proofs.Common.{inl, inr, ⊎_elim}
use Rattle.model.specs.Lists.{keep, total}
use Rattle.model.specs.Limits.{callers}
use Rattle.model.specs.Calls.{tally_of}

-- A call, as a run has it. R is all that its caller receives, answer, buffer and tally; `tally` and `tried` are those of an R. It is
-- decided by the caller's tally before, which is raised by tried; for one who is not 0 to 7 nothing is tried.
pub record Call (R : Type 0) (tally tried : R → ℕ) : Type 0 where
  pub caller : ℕ
  pub receives : ℕ → R
  pub raises : (t : ℕ) → tally (receives t) ≡ t + tried (receives t)
  pub nobody : callers ≤ caller → (t : ℕ) → tried (receives t) ≡ 0

-- Calls of two kinds in one run: what is received there is of the one kind or of the other, with its own tally and tried
module _ {R S : Type 0} {tally tried : R → ℕ} {tally' tried' : S → ℕ} where
  abbrev pub of_one : Call R tally tried → Call (R ⊎ S) (⊎_elim tally tally') (⊎_elim tried tried')
  of_one c = record { caller = c.caller; receives = λ t. inl (c.receives t); raises = c.raises; nobody = c.nobody }

  abbrev pub of_other : Call S tally' tried' → Call (R ⊎ S) (⊎_elim tally tally') (⊎_elim tried tried')
  of_other c = record { caller = c.caller; receives = λ t. inr (c.receives t); raises = c.raises; nobody = c.nobody }

-- who received, and what
pub record Receipt (R : Type 0) : Type 0 where
  pub caller : ℕ
  pub received : R

module _ {R : Type 0} {tally tried : R → ℕ} where
  -- what the call gives its caller, from these tallies; and the tallies after it, of which the caller's own alone may differ
  abbrev pub given : List ℕ → Call R tally tried → R
  given tallies c = c.receives (tally_of tallies c.caller)

  abbrev pub after : List ℕ → Call R tally tried → List ℕ
  after tallies c = set tallies c.caller (tally (given tallies c))

  -- what the calls of a run give, in order
  unfoldable pub receipts : List ℕ → List (Call R tally tried) → List (Receipt R)
  receipts tallies [] = []
  receipts tallies (c ∷ cs) = record { caller = c.caller; received = given tallies c } ∷ receipts (after tallies c) cs

  -- the tallies after a run
  unfoldable pub tallies_after : List ℕ → List (Call R tally tried) → List ℕ
  tallies_after tallies [] = tallies
  tallies_after tallies (c ∷ cs) = tallies_after (after tallies c) cs

  -- one caller's own calls of a run
  abbrev pub calls_of : ℕ → List (Call R tally tried) → List (Call R tally tried)
  calls_of i cs = keep (λ (c : Call R tally tried). eqb c.caller i) cs

module _ {R : Type 0} where
  -- what one caller received over a run
  abbrev pub received_by : ℕ → List (Receipt R) → List (Receipt R)
  received_by i rs = keep (λ (r : Receipt R). eqb r.caller i) rs

  -- the sum of tried over what was received
  abbrev pub tried_over : (R → ℕ) → List (Receipt R) → ℕ
  tried_over tried rs = total (map (λ (r : Receipt R). tried r.received) rs)
