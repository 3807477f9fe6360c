-- What the verdict program prints, document 01's lines, in ASCII, each ended by a newline; what the program that strikes prints; and what
-- the programs that move a case write.
use Rattle.std.specs.Prelude.{ℕ, zero, suc, ◌+◌, ◌-◌, ◌*◌, ◌/◌, ◌%◌, true, false, eqb, ltb, length, get_or, replicate}
use Prim.Native.Char.{code}
use Prim.Native.String.{String, [] as end, ◌∷◌ as char}
use mathlib.Core.List.{List, [], ◌∷◌, ◌++◌, flat_map}
use Rattle.model.specs.Lists.{up_from, total}
use Rattle.model.specs.Limits.{max_limit, callers, min_buffer}
use Rattle.model.specs.Tree.{Document, parent_of, label_of, figure_of}
use Rattle.model.specs.Summary.{Summary}
use Rattle.model.specs.Pattern.{PatternRecord, Pattern, no_pattern_record}
use Rattle.model.specs.Canonical.{canonical, own_result}
use Rattle.model.specs.Verdict.{Verdict, included, not_included, stopped, verdict}
use Rattle.model.specs.Bytes.{Case, case_of}
use Rattle.model.specs.Questions.{verdict_refusal, minimise_refusal}
use Rattle.model.specs.Calls.{tally_of}
use Rattle.model.specs.Striking.{Struck, strike_all}
use Rattle.model.specs.Moving.{upgrade_refusal, downgrade_refusal, upgraded, downgraded}
use Rattle.model.specs.Normal.{normalise_refusal, normalised}

-- the characters' codes
abbrev pub ascii : String → List ℕ
ascii end = []
ascii (char c s) = code c ∷ ascii s

-- a digit's code: "0" is 48
abbrev pub digit : ℕ → ℕ
digit d = 48 + d

-- a number in decimal, of at most k digits
unfoldable pub decimal_in : ℕ → ℕ → List ℕ
decimal_in zero n = []
decimal_in (suc k) n = elim (ltb n 10) [ true ↦ digit n ∷ [] | false ↦ decimal_in k (n / 10) ++ (digit (n % 10) ∷ []) ]

-- a number in decimal
unfoldable pub decimal : ℕ → List ℕ
decimal n = decimal_in (suc n) n

-- the number that decimal digits give, after those that gave a
unfoldable pub read_on : ℕ → List ℕ → ℕ
read_on a [] = a
read_on a (c ∷ cs) = read_on (10 * a + (c - 48)) cs

-- a number after a space
unfoldable pub number : ℕ → List ℕ
number n = ascii " " ++ decimal n

unfoldable pub numbers : List ℕ → List ℕ
numbers ns = flat_map number ns

-- a line: words, then numbers
unfoldable pub line : List ℕ → List ℕ → List ℕ
line words ns = words ++ (numbers ns ++ ascii "\n")

-- a node line has number, parent, label, figure
unfoldable pub node_line : Document → ℕ → List ℕ
node_line W i = line (ascii "node") (i ∷ parent_of W i ∷ label_of W i ∷ figure_of W i ∷ [])

-- the node lines of a volume
unfoldable pub node_lines : Document → List ℕ
node_lines W = flat_map (node_line W) (up_from 0 (length W))

-- the answer line lists the result by position
unfoldable pub answer_line : List ℕ → List ℕ
answer_line result = line (ascii "answer") result

-- the first two lines: the verdict and tried
unfoldable pub first_lines : List ℕ → ℕ → List ℕ
first_lines words tried = line words [] ++ line (ascii "tried") (tried ∷ [])

-- "not included" lists the volume and the result after them
unfoldable pub shown_text : ℕ → Document → List ℕ → List ℕ
shown_text tried W result = first_lines (ascii "not included") tried ++ (node_lines W ++ answer_line result)

-- included and stopped print the first two lines
unfoldable pub verdict_text : Summary → Pattern → Verdict → List ℕ
verdict_text S P (included n) = first_lines (ascii "included") n
verdict_text S P (not_included n es) = shown_text n (canonical S P es) (own_result S P es)
verdict_text S P (stopped n) = first_lines (ascii "stopped") n

-- a refusal prints one line
unfoldable pub refused_text : ℕ → List ℕ
refused_text n = line (ascii "refused") (n ∷ [])

abbrev pub case_text : Case → List ℕ
case_text c = verdict_text c.summary c.first (verdict c.summary c.first c.members max_limit)

-- the program's caller, and the eight tallies that it begins with
abbrev pub program_caller : ℕ
program_caller = 0

abbrev pub program_tallies : List ℕ
program_tallies = replicate callers 0

-- its refusal, with limit 1,000,000
abbrev pub program_refusal : List ℕ → ℕ
program_refusal b = verdict_refusal b max_limit program_caller (tally_of program_tallies program_caller) min_buffer

-- the text for a case from standard input
unfoldable pub printed : List ℕ → List ℕ
printed b = elim (eqb (program_refusal b) 0) [ true ↦ case_text (case_of b) | false ↦ refused_text (program_refusal b) ]

-- of the program that strikes: a node line has number, parent, label, edge, position, figure
unfoldable pub pattern_line : Pattern → ℕ → List ℕ
pattern_line P i =
    let r : PatternRecord = get_or P i no_pattern_record in
    line (ascii "node") (i ∷ r.parent ∷ r.label ∷ r.edge ∷ r.position ∷ r.figure ∷ [])

-- the node lines of a selection
unfoldable pub pattern_lines : Pattern → List ℕ
pattern_lines P = flat_map (pattern_line P) (up_from 0 (length P))

-- tried, the shortened selection, and the struck numbers in striking order
unfoldable pub order_text : ℕ → Pattern → List ℕ → List ℕ
order_text tried P struck = line (ascii "tried") (tried ∷ []) ++ (pattern_lines P ++ line (ascii "struck") struck)

abbrev pub struck_text : Struck → List ℕ
struck_text s = order_text (total s.tried) s.pattern s.struck

-- its refusal, with the verdict program's limit, caller and tallies, and the text for a case from standard input
abbrev pub order_refusal : List ℕ → ℕ
order_refusal b = minimise_refusal b max_limit program_caller (tally_of program_tallies program_caller) min_buffer

unfoldable pub order_printed : List ℕ → List ℕ
order_printed b =
    elim (eqb (order_refusal b) 0) [
      | true ↦ struck_text (strike_all (case_of b).summary max_limit (case_of b).first)
      | false ↦ refused_text (order_refusal b)
    ]

-- what a program that writes a case writes, and where: the written case's bytes to standard output, 1, and nothing else; or a refusal's line to
-- standard error, 2, and nothing else
pub record Told : Type 0 where
  pub stream : ℕ
  pub bytes : List ℕ

unfoldable pub told : ℕ → List ℕ → Told
told refused written = elim (eqb refused 0) [ true ↦ record { stream = 1; bytes = written } | false ↦ record { stream = 2; bytes = refused_text refused } ]

-- for a case from standard input: old to new, new to old, and in its one way of writing
unfoldable pub upgrade_told : List ℕ → Told
upgrade_told b = told (upgrade_refusal b min_buffer) (upgraded b)

unfoldable pub downgrade_told : List ℕ → Told
downgrade_told b = told (downgrade_refusal b min_buffer) (downgraded b)

unfoldable pub normalise_told : List ℕ → Told
normalise_told b = told (normalise_refusal b min_buffer) (normalised b)
