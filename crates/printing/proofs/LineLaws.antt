-- Document 01's lines as texts put one after another; a document's node lines are those of its section's records. Assumes nothing.
use Prim.Native.Nat.{ℕ, suc, ◌+◌}
use mathlib.Core.Path.{◌≡◌, ap, ap₂}
use mathlib.Core.List.{List, [], ◌∷◌, ◌++◌}
use native.Mathlib.Omega.{arith}
use native.Mathlib.Numerals.{add-one}
use Rattle.model.specs.Lists.{up_from}
use Rattle.model.specs.Limits.{document_width}
use Rattle.model.specs.Tree.{no_document_record}
use Rattle.model.specs.Bytes.{field, fields_at, document_record_at, document_fields, document_of}
use Rattle.model.specs.Text.{ascii, line, node_line, node_lines, answer_line, first_lines, shown_text}
use Rattle.text.specs.Records.{record_lines}
use Rattle.text.proofs.PutLaws.{Parts, both}
use Rattle.text.proofs.ListedLaws.{table-lines}

pub first-parts : (w : List ℕ) (n : ℕ) → Parts (first_lines w n) (line w []) (line (ascii "tried") (n ∷ []))
unfolding first_lines
first-parts w n = both (line w []) (line (ascii "tried") (n ∷ []))

-- a record's fields are those that it is read from
document-fields : (b : List ℕ) (at : ℕ) → document_fields (document_record_at b at) ≡ fields_at b at document_width
unfolding up_from
document-fields b at = ap₂ (λ (k l : ℕ). field b at ∷ field b k ∷ field b l ∷ []) (add-one at) (let e : at + 2 ≡ suc (suc at) = omega arith in e)

pub document-lines : (w : List ℕ) → node_lines (document_of w) ≡ record_lines document_width w
unfolding node_lines node_line document_of
document-lines w = table-lines document_record_at document_fields document_width no_document_record document-fields w

pub shown-parts : (n : ℕ) (w r : List ℕ) → Parts (shown_text n (document_of w) r) (first_lines (ascii "not included") n) (record_lines document_width w ++ line (ascii "answer") r)
unfolding shown_text answer_line
shown-parts n w r = record { parts = ap (λ (x : List ℕ). first_lines (ascii "not included") n ++ (x ++ answer_line r)) (document-lines w) }
