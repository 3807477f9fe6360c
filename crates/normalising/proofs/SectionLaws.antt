-- A tree's section as it is written: its list, its count and its records. Assumes nothing.
use Prim.Native.Nat.{ℕ, ◌+◌, ◌*◌, ◌≤◌, ◌<◌}
use mathlib.Core.Path.{◌≡◌, sym, ap, ap₂, ◌∙◌}
use mathlib.Core.List.{List, flat_map}
use native.Mathlib.Omega.{arith}
use lib.ListN.{length, get_or, length-map}
use lib.Seq.{sets, length-sets}
use Rattle.model.specs.Limits.{max_summary}
use Rattle.model.specs.Pattern.{PatternRecord, Pattern, IsPatternTree}
use Rattle.model.specs.Bytes.{field_bytes, bytes_of, section_fields}
use Rattle.model.specs.Normal.{Entry, no_entry, entry_at, depth_of, by_subtree, preorder, listed, table_of, normal_pattern}
use Rattle.model.proofs.ListLaws.{get_or_map}
use Rattle.model.proofs.Preorder.{depth_small}
use Rattle.model.proofs.Numbering.{order-length, node-inside, normal-length}
use Rattle.format.proofs.WriteLaws.{sets-append}
use Rattle.normalising.specs.Trees.{Shallow, normal_fields}
use Rattle.normalising.proofs.RecordLaws.{records-length}

module _ (P : Pattern) (tree : IsPatternTree P) where
  abbrev order : List ℕ
  order = preorder by_subtree (length P) P 0

  module _ {list : List Entry} (w : list ≡ listed by_subtree P) where
    pub list-length : length list ≡ length P
    unfolding listed
    list-length = ap length w ∙ length-map order (entry_at P) ∙ order-length P tree

    pub list-shallow : length P ≤ max_summary → Shallow list
    unfolding listed
    list-shallow small =
        record {
          few = omega (arith, list-length, small);
          depths = λ i h.
              let l : length order ≡ length P = order-length P tree in
              let i-in : i < length order = omega (arith, list-length) in
              let own : (get_or list i no_entry).depth ≡ depth_of P (get_or order i 0) =
              ap (λ (x : Entry). x.depth) (ap (λ (es : List Entry). get_or es i no_entry) w ∙ get_or_map (entry_at P) order i 0 no_entry i-in) in
              let node : get_or order i 0 < length P = node-inside P tree i i-in in
              let d : depth_of P (get_or order i 0) ≤ get_or order i 0 = depth_small P tree (get_or order i 0) node in
              omega (arith, small);
        }

  module _ (fields : PatternRecord → List ℕ) (width : ℕ) (even : (r : PatternRecord) → length (fields r) ≡ width) where
    pub fields-count : length (normal_fields fields P) ≡ 1 + width * length P
    unfolding section_fields
    fields-count =
        let l : length (flat_map fields (normal_pattern P)) ≡ width * length P =
        records-length fields width even (normal_pattern P) ∙ ap (λ (x : ℕ). width * x) (normal-length P tree) in
        omega arith

    module _ {list : List Entry} (w : list ≡ listed by_subtree P) (at : ℕ) (out : List ℕ) {counting : List ℕ} (put : counting ≡ sets out (2 * at) (field_bytes (length list))) where
      pub records-fit : 2 * (at + length (normal_fields fields P)) ≤ length out → 2 * (at + 1 + width * length list) ≤ length counting
      records-fit room =
          let n : width * length list ≡ width * length P = ap (λ (x : ℕ). width * x) (list-length w) in
          omega (arith, fields-count, ap length put, length-sets out (2 * at) (field_bytes (length list)))

      pub section-written : {after : List ℕ} → after ≡ sets counting (2 * (at + 1)) (bytes_of (flat_map fields (table_of list)))
          → after ≡ sets out (2 * at) (bytes_of (normal_fields fields P))
      unfolding normal_pattern section_fields bytes_of flat_map field_bytes
      section-written {after} records =
          let T : Pattern = normal_pattern P in
          let there : 2 * (at + 1) ≡ 2 * at + 2 = omega arith in
          let same : length list ≡ length T = list-length w ∙ sym (normal-length P tree) in
          records ∙ ap (λ (es : List Entry). sets counting (2 * (at + 1)) (bytes_of (flat_map fields (table_of es)))) w
          ∙ ap₂ (λ (o : List ℕ) (j : ℕ). sets o j (bytes_of (flat_map fields T))) (put ∙ ap (λ (m : ℕ). sets out (2 * at) (field_bytes m)) same) there
          ∙ sym (sets-append out (2 * at) (field_bytes (length T)) (bytes_of (flat_map fields T)))

      pub section-end : at + 1 + width * length list ≡ at + length (normal_fields fields P)
      section-end = let n : width * length list ≡ width * length P = ap (λ (x : ℕ). width * x) (list-length w) in omega (arith, fields-count)
