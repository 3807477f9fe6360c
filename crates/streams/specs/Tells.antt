-- What each call of a text function gives, by its `post`, at an array whose bytes are `items`.
use Rattle.std.specs.Prelude.{ℕ, ◌≤◌, List, length, Result}
use Rattle.std.specs.Borrow.{Bor, MutBor}
use Rattle.model.specs.Text.{Told}
use Rattle.text.specs.Put.{Printed}
use Rattle.text.specs.Told.{Filed, count_of}

-- no more bytes are told than the array has
abbrev pub StaysInside : {T : Type 0} → (Bor (List ℕ) → MutBor T → Result ℕ ℕ → MutBor T → Type 0) → (T → List ℕ) → Type 0
StaysInside {T} post items = (case : Bor (List ℕ)) (out out' : MutBor T) (r : Result ℕ ℕ) → post case out r out' → count_of r ≤ length (items out'.now)

-- what is told is `told` of the case
abbrev pub Tells : {T : Type 0} → (Bor (List ℕ) → MutBor T → Result ℕ ℕ → MutBor T → Type 0) → (T → List ℕ) → (List ℕ → Told) → Type 0
Tells {T} post items told = (case : Bor (List ℕ)) (out out' : MutBor T) (r : Result ℕ ℕ) → post case out r out' → Filed (told case.now) (items out.now) (items out'.now) r

-- the same of a function whose text goes to standard output
abbrev pub PrintsInside : {T : Type 0} → (Bor (List ℕ) → MutBor T → ℕ → MutBor T → Type 0) → (T → List ℕ) → Type 0
PrintsInside {T} post items = (case : Bor (List ℕ)) (out out' : MutBor T) (n : ℕ) → post case out n out' → n ≤ length (items out'.now)

abbrev pub Prints : {T : Type 0} → (Bor (List ℕ) → MutBor T → ℕ → MutBor T → Type 0) → (T → List ℕ) → (List ℕ → List ℕ) → Type 0
Prints {T} post items printed = (case : Bor (List ℕ)) (out out' : MutBor T) (n : ℕ) → post case out n out' → Printed (printed case.now) (items out.now) (items out'.now) n
