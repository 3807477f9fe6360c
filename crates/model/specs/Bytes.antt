-- Bytes: 16-bit fields, sections, the case, documents and lists, read and written.
use Rattle.std.specs.Prelude.{ℕ, zero, suc, ◌+◌, ◌*◌, ◌/◌, ◌%◌, ◌≤◌, ◌<◌, Bool, true, false, ◌&&◌, eqb, leb, length, get_or, take, drop}
use mathlib.Core.List.{List, [], ◌∷◌, ◌++◌, map, flat_map}
use Rattle.model.specs.Lists.{up_from}
use Rattle.model.specs.Limits.{max_case_bytes, summary_width, pattern_width, document_width}
use Rattle.model.specs.Tree.{DocumentRecord, Document}
use Rattle.model.specs.Summary.{SummaryRecord, Summary}
use Rattle.model.specs.Pattern.{PatternRecord, Pattern}

-- every number of the list is a byte
abbrev pub AreBytes : List ℕ → Type 0
AreBytes b = (i : ℕ) → get_or b i 0 < 256

-- field i: 16 bits, low byte first; 0 past the end
unfoldable pub field : List ℕ → ℕ → ℕ
field b i = get_or b (2 * i) 0 + 256 * get_or b (2 * i + 1) 0

unfoldable pub field_bytes : ℕ → List ℕ
field_bytes n = n % 256 ∷ n / 256 % 256 ∷ []

-- fields as bytes
unfoldable pub bytes_of : List ℕ → List ℕ
bytes_of fs = flat_map field_bytes fs

-- n fields from field `at` on
abbrev pub fields_at : List ℕ → ℕ → ℕ → List ℕ
fields_at b at n = map (field b) (up_from at n)

-- a counted list: its count in field `at`, then as many numbers
abbrev pub counted_at : List ℕ → ℕ → List ℕ
counted_at b at = fields_at b (at + 1) (field b at)

-- n records of the given width from field `at` on
unfoldable pub records_at : {A : Type 0} → (ℕ → A) → ℕ → ℕ → ℕ → List A
records_at read width at n = map (λ i. read (at + width * i)) (up_from 0 n)

-- the record that begins at field `at`
abbrev pub summary_record_at : List ℕ → ℕ → SummaryRecord
summary_record_at b at = record { parent = field b at; label = field b (at + 1); strong = field b (at + 2) }

abbrev pub pattern_record_at : List ℕ → ℕ → PatternRecord
pattern_record_at b at = record { parent = field b at; label = field b (at + 1); edge = field b (at + 2); position = field b (at + 3); figure = field b (at + 4) }

abbrev pub document_record_at : List ℕ → ℕ → DocumentRecord
document_record_at b at = record { parent = field b at; label = field b (at + 1); figure = field b (at + 2) }

-- a section's records stand after its count
unfoldable pub section : {A : Type 0} → (List ℕ → ℕ → A) → ℕ → List ℕ → ℕ → List A
section read width b at = records_at (read b) width (at + 1) (field b at)

-- the field after a section whose count is field `at`
abbrev pub section_end : ℕ → List ℕ → ℕ → ℕ
section_end width b at = at + 1 + width * field b at

-- a set of selections: its count in field `on`, then as many sections; where the section of member i begins, from 0 on
unfoldable pub member_at : List ℕ → ℕ → ℕ → ℕ
member_at b on zero = on + 1
member_at b on (suc i) = section_end pattern_width b (member_at b on i)

-- the field after the set
abbrev pub set_end : List ℕ → ℕ → ℕ
set_end b on = member_at b on (field b on)

-- its selections
unfoldable pub set_of : List ℕ → ℕ → List Pattern
set_of b on = map (λ i. section pattern_record_at pattern_width b (member_at b on i)) (up_from 0 (field b on))

-- where the first selection's section begins, and the set, and where the case ends
abbrev pub first_at : List ℕ → ℕ
first_at b = section_end summary_width b 0

abbrev pub set_at : List ℕ → ℕ
set_at b = section_end pattern_width b (first_at b)

abbrev pub case_end : List ℕ → ℕ
case_end b = set_end b (set_at b)

-- the case: an outline, the first selection, and a set of selections, its members
pub record Case : Type 0 where
  pub summary : Summary
  pub first : Pattern
  pub members : List Pattern

-- the tables of a case; fields past the end read as 0
unfoldable pub case_of : List ℕ → Case
case_of b =
    record {
      summary = section summary_record_at summary_width b 0;
      first = section pattern_record_at pattern_width b (first_at b);
      members = set_of b (set_at b);
    }

-- a section that begins at field `at` is whole: its count, and every record that it announces
pub record WholeSection (width : ℕ) (b : List ℕ) (at : ℕ) : Type 0 where
  pub count : 2 * (at + 1) ≤ length b
  pub records : 2 * section_end width b at ≤ length b

-- a set is whole: its count, and every section that it announces
pub record WholeSet (b : List ℕ) (on : ℕ) : Type 0 where
  pub count : 2 * (on + 1) ≤ length b
  pub sections : (i : ℕ) → i < field b on → WholeSection pattern_width b (member_at b on i)

-- the case has at most 65,536 bytes, every count and announced record whole, and nothing after
pub record WholeCase (b : List ℕ) : Type 0 where
  pub size : length b ≤ max_case_bytes
  pub summary : WholeSection summary_width b 0
  pub first : WholeSection pattern_width b (first_at b)
  pub members : WholeSet b (set_at b)
  pub nothing_after : length b ≤ 2 * case_end b

-- at most 65,536 bytes, and the field `end` is the first after them
abbrev pub ends_at : List ℕ → ℕ → Bool
ends_at b end = leb (length b) max_case_bytes && eqb (length b) (2 * end)

-- the same as a test: the end lies after every count, and a count past the end reads as 0, so one equation says it all
unfoldable pub is_whole_case : List ℕ → Bool
is_whole_case b = ends_at b (case_end b)

-- what decoding gives: the tables, or that a count or record is not whole or something stands after
pub data Decoded (A : Type 0) : Type 0 where
  tables : A → Decoded A
  not_whole : Decoded A

unfoldable pub decode_case : List ℕ → Decoded Case
decode_case b = elim (is_whole_case b) [ true ↦ tables (case_of b) | false ↦ not_whole ]

-- a volume is one section
unfoldable pub document_of : List ℕ → Document
document_of b = section document_record_at document_width b 0

-- the volume is whole, nothing after
unfoldable pub is_whole_document : List ℕ → Bool
is_whole_document b = eqb (length b) (2 * section_end document_width b 0)

unfoldable pub decode_document : List ℕ → Decoded Document
decode_document b = elim (is_whole_document b) [ true ↦ tables (document_of b) | false ↦ not_whole ]

-- a list is bare fields with no count
unfoldable pub list_of : List ℕ → List ℕ
list_of b = map (field b) (up_from 0 (length b / 2))

-- every field of a list is whole
unfoldable pub is_whole_list : List ℕ → Bool
is_whole_list b = eqb (length b % 2) 0

-- a record's fields
abbrev pub summary_fields : SummaryRecord → List ℕ
summary_fields r = r.parent ∷ r.label ∷ r.strong ∷ []

abbrev pub pattern_fields : PatternRecord → List ℕ
pattern_fields r = r.parent ∷ r.label ∷ r.edge ∷ r.position ∷ r.figure ∷ []

abbrev pub document_fields : DocumentRecord → List ℕ
document_fields r = r.parent ∷ r.label ∷ r.figure ∷ []

-- a section's fields: its count, then its records
unfoldable pub section_fields : {A : Type 0} → (A → List ℕ) → List A → List ℕ
section_fields fields rs = length rs ∷ flat_map fields rs

-- a set's fields: its count, then its members' sections
abbrev pub set_fields : List Pattern → List ℕ
set_fields Qs = section_fields (section_fields pattern_fields) Qs

unfoldable pub case_fields : Case → List ℕ
case_fields c = section_fields summary_fields c.summary ++ (section_fields pattern_fields c.first ++ set_fields c.members)

-- the bytes of a case, of a selection's section, of a volume's, of a list, and of a count with its numbers
unfoldable pub encode_case : Case → List ℕ
encode_case c = bytes_of (case_fields c)

unfoldable pub encode_pattern : Pattern → List ℕ
encode_pattern P = bytes_of (section_fields pattern_fields P)

unfoldable pub encode_document : Document → List ℕ
encode_document W = bytes_of (section_fields document_fields W)

unfoldable pub encode_list : List ℕ → List ℕ
encode_list ns = bytes_of ns

unfoldable pub encode_counted : List ℕ → List ℕ
encode_counted ns = bytes_of (length ns ∷ ns)

-- a buffer or table written at its front: what stands after what is written keeps its contents
unfoldable pub written_at_front : {A : Type 0} → List A → List A → List A
written_at_front written buffer = written ++ drop (length written) buffer

-- what a reader takes off a buffer that "not included" wrote: the volume's section, which is a count and as many records as it says
abbrev pub shown_section : List ℕ → List ℕ
shown_section b = take (2 * section_end document_width b 0) b

-- and the result's list: after the count k that follows the section, k node numbers
abbrev pub shown_list : List ℕ → List ℕ
shown_list b = take (2 * field b (section_end document_width b 0)) (drop (2 * (section_end document_width b 0 + 1)) b)
