-- A document's section that stands at the front of a buffer is read back as the document: every field that is read stands inside what
-- was written. Assumes nothing.
use Prim.Native.Nat.{ℕ, ◌+◌, ◌*◌, ◌≤◌, ◌<◌}
use mathlib.Core.Path.{◌≡◌, sym, ap, ap₂, ◌∙◌, subst}
use mathlib.Core.List.{List, map}
use native.Mathlib.Omega.{arith}
use lib.ListN.{length}
use Rattle.model.specs.Lists.{up_from}
use Rattle.model.specs.Limits.{document_width}
use Rattle.model.specs.Tree.{Document}
use Rattle.model.specs.Bytes.{field, section, records_at, document_record_at, document_fields, section_fields, document_of, encode_document, WholeSection, written_at_front}
use Rattle.model.proofs.Bytes.{FitFields, document-back, document-whole, front_length}
use Rattle.format.proofs.FrontLaws.{front-get_or}
use Rattle.format.proofs.RangeLaws.{map-below-ext}
use Rattle.format.proofs.SectionLaws.{record-ends}
use Rattle.format.proofs.GivenLaws.{whole-document}

front-field : (w b : List ℕ) (i : ℕ) → 2 * i + 1 < length w → field (written_at_front w b) i ≡ field w i
unfolding field
front-field w b i h = ap₂ (λ (x y : ℕ). x + 256 * y) (front-get_or w b (2 * i) 0 (omega arith)) (front-get_or w b (2 * i + 1) 0 h)

module _ (w b : List ℕ) (whole : WholeSection document_width w 0) where
  front-count : field (written_at_front w b) 0 ≡ field w 0
  front-count = front-field w b 0 (let c = whole.count in omega arith)

  front-record : (i : ℕ) → i < field w 0 → document_record_at (written_at_front w b) (0 + 1 + document_width * i) ≡ document_record_at w (0 + 1 + document_width * i)
  front-record i h =
      let k = (record-ends w 0 document_width i 2 whole h (omega arith)).1 in
      let p = front-field w b (0 + 1 + document_width * i) (omega arith) in
      let l = front-field w b (0 + 1 + document_width * i + 1) (omega arith) in
      let f = front-field w b (0 + 1 + document_width * i + 2) k in
      λ j. record { parent = p j; label = l j; figure = f j }

  front-document : document_of (written_at_front w b) ≡ document_of w
  unfolding document_of section records_at
  front-document =
      ap (λ (n : ℕ). map (λ i. document_record_at (written_at_front w b) (0 + 1 + document_width * i)) (up_from 0 n)) front-count
      ∙ map-below-ext (λ i. document_record_at (written_at_front w b) (0 + 1 + document_width * i)) (λ i. document_record_at w (0 + 1 + document_width * i)) (field w 0) front-record

  front-whole : length w ≤ length b → WholeSection document_width (written_at_front w b) 0
  front-whole h =
      let n = front_length w b h in
      let c = whole.count in
      let r = whole.records in
      record { count = omega arith; records = subst (λ (k : ℕ). 2 * (0 + 1 + document_width * k) ≤ length (written_at_front w b)) (sym front-count) (omega arith) }

module _ (W : Document) (fit : FitFields (section_fields document_fields W)) (b : List ℕ) where
  pub written-document : document_of (written_at_front (encode_document W) b) ≡ W
  written-document = front-document (encode_document W) b (whole-document (encode_document W) (document-whole W fit)) ∙ document-back W fit

  pub written-whole : length (encode_document W) ≤ length b → WholeSection document_width (written_at_front (encode_document W) b) 0
  written-whole = front-whole (encode_document W) b (whole-document (encode_document W) (document-whole W fit))
