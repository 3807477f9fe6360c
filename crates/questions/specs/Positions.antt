-- How a pattern's nodes hold a position.
use Rattle.std.specs.Prelude.{ℕ, Bool, eqb}
use Rattle.model.specs.Lists.{count_of}
use Rattle.model.specs.Pattern.{PatternRecord, Pattern}

-- how many nodes hold position p
abbrev pub holders_of : Pattern → ℕ → ℕ
holders_of P p = count_of (λ (r : PatternRecord). eqb r.position p) P

-- one does
abbrev pub held_once : Pattern → ℕ → Bool
held_once P p = eqb (holders_of P p) 1
