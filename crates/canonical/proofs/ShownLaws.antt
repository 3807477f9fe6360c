-- Of the own nodes that are laid out those at the positions are the result, and the section ends at the byte that its count says. By
-- the laws of the layout, and of the node that holds a position. Assumes nothing.
use Prim.Native.Nat.{ℕ, ◌+◌, ◌*◌, ◌≤◌, ◌<◌}
use mathlib.Core.Path.{◌≡◌, sym, ap, ap₂, ◌∙◌, subst}
use mathlib.Core.List.{List, map}
use native.Mathlib.Omega.{arith}
use lib.ListN.{length, get_or, take, replicate, length-map}
use lib.Seq.{ext_get_or}
use Rattle.model.specs.Limits.{max_canonical}
use Rattle.model.specs.Summary.{Summary}
use Rattle.model.specs.Pattern.{Pattern, node_at, return_nodes}
use Rattle.model.specs.Embeddings.{image_in}
use Rattle.model.specs.Canonical.{canonical, own_nodes, own_result}
use Rattle.model.specs.Bytes.{encode_document, encode_counted, written_at_front}
use Rattle.model.proofs.ListLaws.{length-map-up_from}
use Rattle.model.proofs.Bytes.{front-written}
use Rattle.model.proofs.Canonical.{length-canonical, canonical-built}
use Rattle.model.proofs.ReturnNodes.{length-return_nodes, return-at}
use Rattle.format.proofs.FrontLaws.{front-get_or}
use Rattle.format.proofs.RangeLaws.{get_or-map-below}
use Rattle.format.proofs.WriteLaws.{document-size}
use Rattle.canonical.specs.Given.{embedding_in, WrittenOut}
use Rattle.canonical.specs.Shown.{own_at, Showable}
use Rattle.canonical.specs.declared.LaidOut.{LaidOut}
use Rattle.canonical.proofs.LayoutLaws.{spots-few}

module _ {S : Summary} {P : Pattern} {images : List ℕ} {k : ℕ} (h : Showable S P images k) where
  abbrev es : List ℕ
  es = embedding_in P images

  -- the node that holds a position is one of the pattern's, and so has an own node
  pub held : (i : ℕ) → i < k → node_at P (i + 1) < length P
  held i l = h.facts.holds (i + 1) (omega arith) (omega (arith, h.positions))

  module _ {bytes₀ bytes on₀ on : List ℕ} {r : LaidOut} (w : WrittenOut S P es bytes₀ bytes on₀ on r) where
    own-size : length (own_nodes S P es) ≡ length P
    own-size = let e = h.embedded in (canonical-built S P es e.summary.tree e.pattern.tree e.embedding).own_length

    own-node : (i : ℕ) → i < k → image_in r.own (node_at P (i + 1)) ≡ image_in (own_nodes S P es) (node_at P (i + 1))
    own-node i p =
        let n = own-size in
        ap (λ (xs : List ℕ). get_or xs (node_at P (i + 1)) 0) w.own ∙ front-get_or (own_nodes S P es) (replicate 16 0) (node_at P (i + 1)) 0 (omega (arith, held i p))

    own-count : length (own_at P r.own k) ≡ k
    own-count = length-map-up_from (λ i. image_in r.own (node_at P (i + 1))) 0 k

    own_same : own_at P r.own k ≡ own_result S P es
    unfolding own_result
    own_same =
        ext_get_or 0 (own_at P r.own k) (map (image_in (own_nodes S P es)) (return_nodes P))
        (own-count ∙ h.positions ∙ sym (length-map (return_nodes P) (image_in (own_nodes S P es)) ∙ length-return_nodes P))
        (λ i p.
        let b : i < k = subst (λ (x : ℕ). i < x) own-count p in
        get_or-map-below (λ i. image_in r.own (node_at P (i + 1))) k i 0 b ∙ own-node i b
        ∙ sym (ap (λ (x : ℕ). get_or (map (image_in (own_nodes S P es)) (return_nodes P)) x 0) (omega arith)
        ∙ return-at P (image_in (own_nodes S P es)) (i + 1) (omega arith) (omega (arith, h.positions))))

    -- what is written after the section
    pub shown-result : (result₀ rest : List ℕ) {result part : List ℕ} → result ≡ written_at_front (own_at P r.own k) result₀
        → part ≡ written_at_front (encode_counted (take k result)) rest → part ≡ written_at_front (encode_counted (own_result S P es)) rest
    shown-result result₀ rest e f =
        f
        ∙ ap (λ (ns : List ℕ). written_at_front (encode_counted ns) rest)
        (ap₂ (λ (n : ℕ) (xs : List ℕ). take n xs) (sym own-count) e ∙ front-written (own_at P r.own k) result₀ ∙ own_same)

    -- the byte after the last record
    pub shown-end : 2 + 6 * r.count ≡ length (encode_document (canonical S P es))
    shown-end =
        let n = document-size (canonical S P es) in
        let m = length-canonical S P es in
        let q = w.counted in
        omega arith

    pub shown-small : r.count ≤ max_canonical
    shown-small = let q = w.counted in let f = spots-few h.embedded in omega arith
