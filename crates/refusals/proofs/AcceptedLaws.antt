-- An accepted case, for readers of its bytes: it is whole, and the pattern that a number gives is small, whichever it is. Assumes nothing.
use Prim.Native.Nat.{ℕ, ◌≤◌}
use mathlib.Core.Path.{◌≡◌}
use mathlib.Core.Bool.{true}
use mathlib.Core.List.{List}
use lib.ListN.{length}
use Rattle.model.specs.Limits.{max_pattern}
use Rattle.model.specs.Facts.{AcceptedCase}
use Rattle.model.specs.Bytes.{case_of, is_whole_case}
use Rattle.model.specs.Questions.{pattern_given, selected}
use Rattle.model.proofs.Bytes.{whole-case}
use Rattle.model.proofs.CaseFacts.{selected-facts}

module _ {b : List ℕ} (A : AcceptedCase b) where
  pub accepted-whole : is_whole_case b ≡ true
  accepted-whole = (whole-case b).1 A.whole

  pub selected-size : (s : ℕ) → pattern_given (case_of b) s ≡ true → length (selected (case_of b) s) ≤ max_pattern
  selected-size s g = (selected-facts (case_of b) s A.facts g).size
