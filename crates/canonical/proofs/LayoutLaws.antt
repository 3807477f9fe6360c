-- A canonical document has at most 1,009 nodes, so a draft has room; and when the chains are filled up and the count and the figures
-- are put, what is written is the document's section. Assumes nothing.
use Prim.Native.Nat.{ℕ, ◌≤◌, ◌<◌}
use mathlib.Core.Path.{◌≡◌, sym, ap, ◌∙◌, subst, fun_ext}
use mathlib.Core.List.{List}
use native.Mathlib.Omega.{arith}
use lib.ListN.{length, get_or, replicate}
use lib.Seq.{sets}
use Rattle.model.specs.Limits.{max_canonical}
use Rattle.model.specs.Summary.{Summary}
use Rattle.model.specs.Pattern.{Pattern}
use Rattle.model.specs.Embeddings.{image_in}
use Rattle.model.specs.Bytes.{field_bytes, encode_document, written_at_front}
use Rattle.model.specs.Canonical.{chains, fill_from, node_bound, canonical_spots, canonical, own_nodes, spot_records}
use Rattle.model.proofs.Bytes.{front_length}
use Rattle.model.proofs.Figures.{own-apart}
use Rattle.model.proofs.Built.{Built}
use Rattle.model.proofs.Canonical.{length-canonical, canonical-built, canonical-laid, canonical-spots-few, canonical-small}
use Rattle.canonical.specs.Draft.{Tables, Drafted}
use Rattle.format.proofs.FrontLaws.{front-get_or}
use Rattle.canonical.specs.Given.{embedding_in, Embedded, Fillable, Figureless, Figured, WrittenOut}
use Rattle.canonical.proofs.DraftLaws.{drafted-section}
use Rattle.canonical.proofs.FillLaws.{fill-grows}
use Rattle.canonical.proofs.FigureLaws.{figures-agree}

module _ {S : Summary} {P : Pattern} {images : List ℕ} (h : Embedded S P images) where
  abbrev es : List ℕ
  es = embedding_in P images

  pub spots-few : length (canonical_spots S P es) ≤ max_canonical
  spots-few =
      let a : length (canonical S P es) ≤ max_canonical = canonical-small S P es h.summary.tree h.pattern.tree h.embedding h.summary.few h.pattern.few in
      let b : length (canonical S P es) ≡ length (canonical_spots S P es) = length-canonical S P es in
      omega arith

  pub chains-few : length (chains S P es).spots ≤ max_canonical
  unfolding canonical_spots
  chains-few =
      let a : length (chains S P es).spots ≤ length (canonical_spots S P es) = fill-grows (node_bound S P) S (chains S P es).spots 0 in
      let b = spots-few in
      omega arith

  -- filling up goes on to its end
  pub chains-fillable : {base now : Tables} {count : ℕ} → Drafted S (chains S P es).spots base now count
      → Fillable S (chains S P es).spots base now count (node_bound S P)
  unfolding canonical_spots
  chains-fillable c = record { drafted = c; ends = canonical-spots-few S P es h.summary.tree h.pattern.tree h.embedding; room = spots-few }

  built : Built S P es (length P) (canonical_spots S P es) (own_nodes S P es)
  built = canonical-built S P es h.summary.tree h.pattern.tree h.embedding

  -- the own nodes, in a table that is longer
  module _ {own : List ℕ} (table : own ≡ written_at_front (chains S P es).own (replicate 16 0)) where
    own-size : length own ≡ 16
    unfolding own_nodes
    own-size =
        ap (λ (xs : List ℕ). length xs) table
        ∙ front_length (chains S P es).own (replicate 16 0) (let n : length (chains S P es).own ≡ length P = built.own_length in let f = h.pattern.few in omega arith)

    own_same : (q : ℕ) → q < length P → image_in own q ≡ image_in (own_nodes S P es) q
    unfolding own_nodes
    own_same q l =
        ap (λ (xs : List ℕ). get_or xs q 0) table
        ∙ front-get_or (chains S P es).own (replicate 16 0) q 0 (let n : length (chains S P es).own ≡ length P = built.own_length in omega arith)

    -- the draft is then the canonical document's; with its count it is a section without figures
    pub written-plain : {base now : Tables} {count : ℕ} {bytes : List ℕ} → Drafted S (fill_from (node_bound S P) S (chains S P es).spots 0) base now count
        → bytes ≡ sets now.bytes 0 (field_bytes count) → Figureless S (canonical_spots S P es) P own base.bytes bytes
    unfolding canonical_spots
    written-plain c e =
        let f = c.fits in
        let q = c.counted in
        let r = c.room.bytes in
        let n = own-size in
        let few = h.pattern.few in
        record {
          section = e ∙ drafted-section c;
          room = omega arith;
          enough = omega arith;
          inside = λ p l. subst (λ (v : ℕ). v < length (canonical_spots S P es)) (sym (own_same p l)) (built.own_inside p l);
          apart = λ p q l k s.
              own-apart (canonical-laid S P es h.summary.tree h.pattern.tree h.embedding) p q l k (sym (own_same p l) ∙ s ∙ own_same q k);
        }

    -- and with them the canonical document's section
    pub written_out : {base now : Tables} {count n : ℕ} {bytes on : List ℕ} → Drafted S (fill_from (node_bound S P) S (chains S P es).spots 0) base now count
        → on ≡ now.on → n ≡ count → Figured S (canonical_spots S P es) P own base.bytes bytes → WrittenOut S P es base.bytes bytes base.on on (record { count = n; own = own })
    unfolding canonical_spots canonical own_nodes
    written_out {base} c o n e =
        record {
          counted = n ∙ c.counted;
          own = table;
          section = e ∙ ap (λ (f : ℕ → ℕ). written_at_front (encode_document (spot_records S f (canonical_spots S P es))) base.bytes) (fun_ext (figures-agree P own (own_nodes S P es) own_same));
          nodes = o ∙ c.on;
        }
