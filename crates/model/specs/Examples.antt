-- Document 01's examples E1 to E10 as one list of tests, each over the bytes of a case and the whole outcome of a call, or the text.
use Rattle.std.specs.Prelude.{ℕ, ◌+◌, Bool, ◌&&◌, List, [], ◌∷◌, ◌++◌, eqb, length, get_or, drop, replicate}
use Rattle.model.specs.Lists.{same_list}
use Rattle.model.specs.Limits.{min_buffer}
use Rattle.model.specs.Tree.{DocumentRecord}
use Rattle.model.specs.Summary.{SummaryRecord, Summary}
use Rattle.model.specs.Pattern.{PatternRecord, Pattern}
use Rattle.model.specs.Bytes.{Case, encode_case, encode_document, encode_counted}
use Rattle.model.specs.Calls.{TalliedOutcome, PathsAnswer, tallied_call, paths_call, kind_included, kind_not_included, kind_stopped}
use Rattle.model.specs.Text.{ascii, printed}

-- labels
abbrev pub lr : ℕ
lr = 1

abbrev pub la : ℕ
la = 2

abbrev pub lb : ℕ
lb = 3

abbrev lc : ℕ
lc = 4

-- an outline node by a plain edge and by a strong edge, a selection node by a child edge and by a descendant edge, a volume node
abbrev pub plain : ℕ → ℕ → SummaryRecord
plain p l = record { parent = p; label = l; strong = 0 }

abbrev pub strong : ℕ → ℕ → SummaryRecord
strong p l = record { parent = p; label = l; strong = 1 }

abbrev pub child : ℕ → ℕ → ℕ → PatternRecord
child p l n = record { parent = p; label = l; edge = 0; position = n; figure = 0 }

abbrev pub descendant : ℕ → ℕ → ℕ → PatternRecord
descendant p l n = record { parent = p; label = l; edge = 1; position = n; figure = 0 }

abbrev pub node : ℕ → ℕ → DocumentRecord
node p l = record { parent = p; label = l; figure = 0 }

-- a set of one
abbrev example_case : Summary → Pattern → Pattern → Case
example_case S P Q = record { summary = S; first = P; members = Q ∷ [] }

abbrev second : Case → Pattern
second c = get_or c.members 0 []

-- an answer buffer full of bytes 170; the caller; eight tallies, of which the caller's is this, and the others would be refused
abbrev before : List ℕ
before = replicate min_buffer 170

abbrev caller : ℕ
caller = 2

abbrev tallies_with : ℕ → List ℕ
tallies_with own = 18_446_744_073_709_551_615 ∷ 1_000_000_000_000 ∷ own ∷ replicate 5 1_000_000_000_001

abbrev start : ℕ
start = 7

-- the call is accepted with this kind and tried, the caller's tally has grown by tried, and the front of the buffer alone is written
unfoldable pub answers : TalliedOutcome → ℕ → ℕ → List ℕ → Bool
answers o kind tried written =
    eqb o.answer.refused 0 && eqb o.answer.kind kind && eqb o.answer.tried tried && same_list o.tallies (tallies_with (start + tried))
    && same_list o.buffer (written ++ drop (length written) before)

abbrev call : List ℕ → ℕ → TalliedOutcome
call b limit = tallied_call b limit caller (tallies_with start) before

unfoldable pub judged : Case → ℕ → ℕ → ℕ → List ℕ → Bool
judged c limit = answers (call (encode_case c) limit)

-- "not included" shows this volume and this result
unfoldable pub shows : List DocumentRecord → List ℕ → List ℕ
shows W result = encode_document W ++ encode_counted result

-- r(a(b,c)); r^(a(b),a(c)); r^(a(b,c))
abbrev e1 : Case
e1 =
    example_case (plain 0 lr ∷ plain 0 la ∷ plain 1 lb ∷ plain 1 lc ∷ [])
    (child 0 lr 1 ∷ child 0 la 0 ∷ child 1 lb 0 ∷ child 0 la 0 ∷ child 3 lc 0 ∷ []) (child 0 lr 1 ∷ child 0 la 0 ∷ child 1 lb 0 ∷ child 1 lc 0 ∷ [])

-- E1 with a to c strong
abbrev e2 : Case
e2 = example_case (plain 0 lr ∷ plain 0 la ∷ plain 1 lb ∷ strong 1 lc ∷ []) e1.first (second e1)

-- r(a,b); r(a^); r(a^,b)
abbrev e3 : Case
e3 = example_case (plain 0 lr ∷ plain 0 la ∷ plain 0 lb ∷ []) (child 0 lr 0 ∷ child 0 la 1 ∷ []) (child 0 lr 0 ∷ child 0 la 1 ∷ child 0 lb 0 ∷ [])

-- E3 with r to b strong
abbrev e4 : Case
e4 = example_case (plain 0 lr ∷ plain 0 la ∷ strong 0 lb ∷ []) e3.first (second e3)

-- r(a(b))
abbrev pub line : Summary
line = plain 0 lr ∷ plain 0 la ∷ plain 1 lb ∷ []

-- r//b^; r(a(b^))
abbrev e5 : Case
e5 = example_case line (child 0 lr 0 ∷ descendant 0 lb 1 ∷ []) (child 0 lr 0 ∷ child 0 la 0 ∷ child 1 lb 1 ∷ [])

-- r//0^; r(0^)
abbrev pub e6 : Case
e6 = example_case line (child 0 lr 0 ∷ descendant 0 0 1 ∷ []) (child 0 lr 0 ∷ child 0 0 1 ∷ [])

-- E6's 66 bytes
abbrev e6_bytes : List ℕ
e6_bytes =
    3 ∷ 0 ∷ 0 ∷ 0 ∷ 1 ∷ 0 ∷ 0 ∷ 0 ∷ 0 ∷ 0 ∷ 2 ∷ 0 ∷ 0 ∷ 0 ∷ 1 ∷ 0 ∷ 3 ∷ 0 ∷ 0 ∷ 0
    ∷ 2 ∷ 0 ∷ 0 ∷ 0 ∷ 1 ∷ 0 ∷ 0 ∷ 0 ∷ 0 ∷ 0 ∷ 0 ∷ 0 ∷ 0 ∷ 0 ∷ 0 ∷ 0 ∷ 1 ∷ 0 ∷ 1 ∷ 0 ∷ 0 ∷ 0
    ∷ 1 ∷ 0 ∷ 2 ∷ 0 ∷ 0 ∷ 0 ∷ 1 ∷ 0 ∷ 0 ∷ 0 ∷ 0 ∷ 0 ∷ 0 ∷ 0 ∷ 0 ∷ 0 ∷ 0 ∷ 0 ∷ 0 ∷ 0 ∷ 1 ∷ 0 ∷ 0 ∷ 0 ∷ []

-- E6 the other way round
abbrev e7 : Case
e7 = example_case line (second e6) e6.first

-- outline r
abbrev alone : Pattern → Pattern → Case
alone P Q = example_case (plain 0 lr ∷ []) P Q

-- paths of each node in E6's first selection
abbrev e10 : PathsAnswer
e10 = paths_call e6_bytes 1

unfoldable pub examples : List Bool
examples =
    -- E1: not included, tried 1, volume r(a(b),a(c)), result 0
    judged e1 1_000_000 kind_not_included 1 (shows (node 0 lr ∷ node 0 la ∷ node 1 lb ∷ node 0 la ∷ node 3 lc ∷ []) (0 ∷ []))
    -- E2: included, tried 1
    ∷ judged e2 1_000_000 kind_included 1 []
    -- E3: not included
    ∷ judged e3 1_000_000 kind_not_included 1 (shows (node 0 lr ∷ node 0 la ∷ []) (1 ∷ []))
    -- E4: included
    ∷ judged e4 1_000_000 kind_included 1 []
    -- E5: included
    ∷ judged e5 1_000_000 kind_included 1 []
    -- E6: limit 1: stopped, tried 1; limit 2: not included, tried 2; the bytes
    ∷ judged e6 1 kind_stopped 1 []
    ∷ judged e6 2 kind_not_included 2 (shows (node 0 lr ∷ node 0 la ∷ node 1 lb ∷ []) (2 ∷ []))
    ∷ (eqb (length e6_bytes) 66 && same_list (encode_case e6) e6_bytes)
    ∷ answers (call e6_bytes 2) kind_not_included 2 (shows (node 0 lr ∷ node 0 la ∷ node 1 lb ∷ []) (2 ∷ []))
    -- and what the program prints of it
    ∷ same_list (printed e6_bytes) (ascii "not included\ntried 2\nnode 0 0 1 0\nnode 1 0 2 0\nnode 2 1 3 0\nanswer 2\n")
    -- E7: limit 1: included, tried 1
    ∷ judged e7 1 kind_included 1 []
    -- E8: both r^: included; second a^: not included, result 0
    ∷ judged (alone (child 0 lr 1 ∷ []) (child 0 lr 1 ∷ [])) 1_000_000 kind_included 1 []
    ∷ judged (alone (child 0 lr 1 ∷ []) (child 0 la 1 ∷ [])) 1_000_000 kind_not_included 1 (shows (node 0 lr ∷ []) (0 ∷ []))
    -- E9: first a^, second r^: included, tried 0
    ∷ judged (alone (child 0 la 1 ∷ []) (child 0 lr 1 ∷ [])) 1_000_000 kind_included 0 []
    -- E10: paths of node 1: mask 6, two paths
    ∷ (eqb e10.refused 0 && same_list e10.masks (1 ∷ 6 ∷ replicate 14 0) && same_list e10.counts (1 ∷ 2 ∷ replicate 14 0)) ∷ []
