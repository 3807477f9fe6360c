-- A pattern's section as bytes: its fields fit, without a leaf too, so where they are stored the pattern is read back. Assumes nothing.
use Prim.Native.Nat.{ℕ, ◌+◌, ◌-◌, ◌*◌, ◌≤◌, ◌<◌}
use mathlib.Core.Path.{◌≡◌, sym, ap, ◌∙◌, subst}
use mathlib.Core.Logic.{◌⊎◌, inl, inr}
use mathlib.Core.List.{List}
use native.Mathlib.Omega.{arith}
use lib.ListN.{length, get_or}
use Rattle.model.specs.Limits.{max_pattern, max_figure, pattern_width}
use Rattle.model.specs.Pattern.{PatternRecord, Pattern, IsPatternTree, no_pattern_record}
use Rattle.model.specs.Bytes.{field, fields_at, pattern_record_at, pattern_fields, section_end, section_fields, AreBytes}
use Rattle.model.specs.Facts.{FewFigures, RecordFits}
use Rattle.model.specs.Striking.{lowered, raised, without}
use Rattle.model.proofs.Bytes.{Holds, pattern-readable, length-section, section-end, section-back}
use Rattle.model.proofs.ReadBack.{field_fits}
use Rattle.model.proofs.WriteBack.{pattern-again}
use Rattle.model.proofs.Removing.{raised-inside, lowered-cases, length_without, record-without}
use Rattle.format.specs.Given.{pattern_at, PatternGiven}
use Rattle.format.proofs.SectionLaws.{pattern-count, section-record}

-- of a pattern that is read from bytes
pub read_fits : (b : List ℕ) → AreBytes b → (at i : ℕ) → i < length (pattern_at b at) → RecordFits (get_or (pattern_at b at) i no_pattern_record)
read_fits b small at i h =
    let k : i < field b at = subst (λ (n : ℕ). i < n) (pattern-count b at) h in
    subst RecordFits (sym (section-record pattern_record_at pattern_width b at i no_pattern_record k))
    (record { parent = field_fits b small _; label = field_fits b small _; edge = field_fits b small _; position = field_fits b small _; figure = field_fits b small _ })

-- and of one without a node
module _ (P : Pattern) (q : ℕ) (inside : q < length P) where
  old-inside : (i : ℕ) → i < length (without P q) → raised q i < length P
  old-inside i l = subst (λ (n : ℕ). raised q i < n) (length_without P q inside) (raised-inside q i (length (without P q)) l)

  pub low-without : FewFigures P → FewFigures (without P q)
  low-without h i l = subst (λ (r : PatternRecord). r.figure ≤ max_figure) (sym (record-without P q inside i l)) (h (raised q i) (old-inside i l))

  pub without-fits : ((i : ℕ) → i < length P → RecordFits (get_or P i no_pattern_record)) → (i : ℕ) → i < length (without P q) → RecordFits (get_or (without P q) i no_pattern_record)
  without-fits h i l =
      let r : PatternRecord = get_or P (raised q i) no_pattern_record in
      let f : RecordFits r = h (raised q i) (old-inside i l) in
      subst RecordFits (sym (record-without P q inside i l))
      (record { parent = lowered-small r.parent f.parent (lowered-cases q r.parent); label = f.label; edge = f.edge; position = f.position; figure = f.figure })
    where
      lowered-small : (x : ℕ) → x < 65_536 → ((q < x) × (lowered q x ≡ x - 1)) ⊎ ((x ≤ q) × (lowered q x ≡ x)) → lowered q x < 65_536
      lowered-small x k (inl a) = omega arith
      lowered-small x k (inr a) = omega arith

-- ---- read back

-- a pattern whose section the bytes hold from field `at` on
module _ (b : List ℕ) (at : ℕ) (P : Pattern) (h : Holds b at (section_fields pattern_fields P)) where
  pub pattern-held : pattern_at b at ≡ P
  pattern-held = section-back pattern_record_at pattern_fields pattern_width pattern-readable b no_pattern_record at P h

  pub pattern-given : IsPatternTree P → length P ≤ max_pattern → 2 * (at + (1 + 5 * length P)) ≤ length b → PatternGiven b at
  pattern-given tree few room =
      let e : section_end pattern_width b at ≡ at + length (section_fields pattern_fields P) = section-end pattern_record_at pattern_fields pattern_width pattern-readable b at P h in
      let n : length (section_fields pattern_fields P) ≡ 1 + 5 * length P = length-section pattern_record_at pattern_fields pattern_width pattern-readable P in
      record {
        whole = record { count = omega arith; records = omega arith };
        tree = subst IsPatternTree (sym pattern-held) tree;
        few = subst (λ (Q : Pattern). length Q ≤ max_pattern) (sym pattern-held) few;
      }

-- ---- copied

-- the fields of a given section are those from its count on
pub section-fields : (b : List ℕ) (at : ℕ) → section_fields pattern_fields (pattern_at b at) ≡ fields_at b at (1 + 5 * length (pattern_at b at))
section-fields b at =
    (pattern-again b at).fields ∙ ap (fields_at b at) (length-section pattern_record_at pattern_fields pattern_width pattern-readable (pattern_at b at))
