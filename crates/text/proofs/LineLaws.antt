-- A number is a space and its digits, a line its words, its numbers and a newline. Assumes nothing.
use Prim.Native.Nat.{ℕ}
use mathlib.Core.Path.{◌≡◌, ap}
use mathlib.Core.List.{List, [], ◌∷◌, ◌++◌, flat_map, append_assoc}
use Rattle.model.specs.Text.{ascii, decimal, number, numbers, line}
use Rattle.text.proofs.PutLaws.{Parts, both}

pub number-parts : (n : ℕ) → Parts (number n) (ascii " ") (decimal n)
unfolding number
number-parts n = both (ascii " ") (decimal n)

-- numbers, one after another
pub more : (n : ℕ) (ns t : List ℕ) → numbers (n ∷ ns) ++ t ≡ number n ++ (numbers ns ++ t)
unfolding numbers flat_map
more n ns t = append_assoc (number n) (numbers ns) t

pub words-parts : (w : List ℕ) → Parts (line w []) w (ascii "\n")
unfolding line numbers flat_map
words-parts w = both w (ascii "\n")

pub line-parts : (w : List ℕ) (n : ℕ) → Parts (line w (n ∷ [])) w (number n ++ ascii "\n")
unfolding line numbers flat_map
line-parts w n = record { parts = ap (λ (x : List ℕ). w ++ x) (more n [] (ascii "\n")) }

pub list-parts : (w ns : List ℕ) → Parts (line w ns) w (numbers ns ++ ascii "\n")
unfolding line
list-parts w ns = both w (numbers ns ++ ascii "\n")
