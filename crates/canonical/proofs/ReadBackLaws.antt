-- What a caller has of a layout: its section is a document that the readers of documents read, since its numbers and its figures are
-- small and its labels are 16-bit fields of the case. Assumes nothing.
use Prim.Native.Nat.{ℕ, ◌≤◌, ◌<◌}
use mathlib.Core.Path.{◌≡◌, sym, ap, ◌∙◌, subst}
use mathlib.Core.List.{List}
use native.Mathlib.Omega.{arith}
use lib.ListN.{length}
use Rattle.model.specs.Limits.{min_buffer, document_width}
use Rattle.model.specs.Summary.{Summary, summary_label}
use Rattle.model.specs.Pattern.{Pattern}
use Rattle.model.specs.Facts.{FewFigures}
use Rattle.model.specs.Bytes.{document_fields, section_fields, document_of, WholeSection}
use Rattle.model.specs.Canonical.{canonical_spots, canonical}
use Rattle.model.proofs.Bytes.{FitFields}
use Rattle.model.proofs.Canonical.{length-canonical}
use Rattle.model.proofs.ReadBack.{canonical-fields}
use Rattle.format.proofs.WriteLaws.{document-size}
use Rattle.format.proofs.WrittenLaws.{written-document, written-whole}
use Rattle.canonical.specs.Given.{embedding_in, Embedded, WrittenOut}
use Rattle.canonical.specs.declared.LaidOut.{LaidOut}
use Rattle.canonical.proofs.LayoutLaws.{spots-few}

module _ {S : Summary} {P : Pattern} {images : List ℕ} (h : Embedded S P images) (small : (s : ℕ) → s < length S → summary_label S s < 65536) (low : FewFigures P) where
  abbrev es : List ℕ
  es = embedding_in P images

  size : length (canonical S P es) ≡ length (canonical_spots S P es)
  size = length-canonical S P es

  fits : FitFields (section_fields document_fields (canonical S P es))
  fits =
      let n = size in
      let f = spots-few h in
      canonical-fields S P es h.summary.tree h.pattern.tree h.embedding small low (omega arith)

  module _ {bytes₀ bytes on₀ on : List ℕ} {r : LaidOut} (w : WrittenOut S P es bytes₀ bytes on₀ on r) where
    pub back-document : document_of bytes ≡ canonical S P es
    back-document = ap document_of w.section ∙ written-document (canonical S P es) fits bytes₀

    pub back_whole : min_buffer ≤ length bytes₀ → WholeSection document_width bytes 0
    back_whole room =
        subst (λ (b : List ℕ). WholeSection document_width b 0) (sym w.section)
        (written-whole (canonical S P es) fits bytes₀ (let d = document-size (canonical S P es) in let n = size in let f = spots-few h in omega arith))

    pub back_count : r.count ≡ length (document_of bytes)
    back_count = w.counted ∙ sym (ap (λ W. length W) back-document ∙ size)
