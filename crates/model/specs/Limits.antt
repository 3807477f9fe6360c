-- Limits and record widths, each named once.
use Rattle.std.specs.Prelude.{ℕ}

-- the largest limit of a verdict
abbrev pub max_limit : ℕ
max_limit = 1_000_000

-- the most a tally may come to
abbrev pub max_tally : ℕ
max_tally = 1_000_000_000_000

-- the most verdicts that one call which strikes makes: of 16 nodes the root stays, so 15 + 14 + .. + 1
abbrev pub max_verdicts : ℕ
max_verdicts = 120

-- the callers, 0 to 7, with a tally each
abbrev pub callers : ℕ
callers = 8

-- the bytes that an answer buffer has at least, and the records that a lent table has at least
abbrev pub min_buffer : ℕ
min_buffer = 8_192

abbrev pub min_table : ℕ
min_table = 1_024

-- the most bytes of a case
abbrev pub max_case_bytes : ℕ
max_case_bytes = 65_536

-- the most nodes of an outline, of a selection and of a volume that a call takes; the last position
abbrev pub max_summary : ℕ
max_summary = 64

abbrev pub max_pattern : ℕ
max_pattern = 16

abbrev pub max_document : ℕ
max_document = 1_024

abbrev pub max_position : ℕ
max_position = 8

-- the greatest figure: right characters out of so many
abbrev pub max_figure : ℕ
max_figure = 2_000

-- the most selections of a set
abbrev pub max_members : ℕ
max_members = 8

-- the most nodes of a trial volume
abbrev pub max_canonical : ℕ
max_canonical = 1_009

-- fields of an outline record, a selection record and a volume record
abbrev pub summary_width : ℕ
summary_width = 3

abbrev pub pattern_width : ℕ
pattern_width = 5

abbrev pub document_width : ℕ
document_width = 3

-- the most bytes of a printed text: 27 of the first lines, 26 of each of 1,009 node lines, 47 of the answer line
abbrev pub max_text : ℕ
max_text = 26_308

-- and of a printed order: 16 of tried, 26 of each of 16 node lines, 52 of the struck line
abbrev pub max_order_text : ℕ
max_order_text = 484
