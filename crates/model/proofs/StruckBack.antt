-- What striking out writes reads back: a shortened selection has few nodes, and each label, edge and position of it is one of the case's,
-- so every number fits a field; the section stands at the front, and the counted list where it ends. Assumes nothing.
use Prim.Native.Nat.{ℕ, zero, suc, ◌+◌, ◌*◌, ◌≤◌, ◌<◌}
use mathlib.Core.Path.{◌≡◌, sym, ap, ◌∙◌, subst}
use mathlib.Core.List.{List, ◌∷◌, ◌++◌, flat_map, append_assoc, Memᴰ}
use native.Mathlib.Omega.{arith}
use native.Mathlib.Nat.{zero-add}
use lib.ListN.{length, get_or, drop}
use Rattle.model.specs.Lists.{up_from}
use Rattle.model.specs.Limits.{max_pattern, max_position, pattern_width, max_figure}
use Rattle.model.specs.Pattern.{PatternRecord, Pattern, no_pattern_record, pattern_parent}
use Rattle.model.specs.Bytes.{field, records_at, pattern_record_at, section, section_end, first_at, case_of, pattern_fields, section_fields, encode_pattern, encode_counted, written_at_front, AreBytes}
use Rattle.model.specs.Questions.{case_questions}
use Rattle.model.specs.Striking.{relinked, Struck, strike_all, struck_bytes}
use Rattle.model.specs.Facts.{RecordFits, CaseFacts}
use Rattle.model.specs.Demands.{Shortened, StruckReadsBack}
use Rattle.model.proofs.ListLaws.{mem-at, at_mem, length-map-up_from, get_or-map-up_from}
use Rattle.model.proofs.Bytes.{FitFields, Holds, length-bytes, field-bytes, section-count, section-end, section-back, counted_back, pattern-readable}
use Rattle.model.proofs.Refusals.{AllYes}
use Rattle.model.proofs.CaseFacts.{first-bounds, case-accepted}
use Rattle.model.proofs.ReadBack.{field_fits, field-before, field-behind}
use Rattle.model.proofs.Striking.{LoopFacts, all-facts, struck-shortened, every-record}
use Rattle.model.proofs.Text.{Orderable}

-- ---- a section and a counted list, written one after the other

module _ (P : Pattern) (ns t : List ℕ) (fit_p : FitFields (section_fields pattern_fields P)) (fit_n : FitFields (length ns ∷ ns)) where
  abbrev all : List ℕ
  all = encode_pattern P ++ (encode_counted ns ++ t)

  holds-section : Holds all 0 (section_fields pattern_fields P)
  unfolding encode_pattern
  holds-section j h =
      let l = length-bytes (section_fields pattern_fields P) in
      ap (field all) (zero-add j) ∙ field-before (encode_pattern P) (encode_counted ns ++ t) j (omega arith) ∙ field-bytes (section_fields pattern_fields P) fit_p j

  list_at : section_end pattern_width all 0 ≡ length (section_fields pattern_fields P)
  list_at = section-end pattern_record_at pattern_fields pattern_width pattern-readable all 0 P holds-section ∙ zero-add (length (section_fields pattern_fields P))

  holds-list : Holds all (length (section_fields pattern_fields P)) (length ns ∷ ns)
  unfolding encode_pattern encode_counted
  holds-list j h =
      let l = length-bytes (length ns ∷ ns) in
      field-behind (encode_pattern P) (encode_counted ns ++ t) (length (section_fields pattern_fields P)) j (length-bytes (section_fields pattern_fields P))
      ∙ field-before (encode_counted ns) t j (omega arith) ∙ field-bytes (length ns ∷ ns) fit_n j

  pub written_back : {tried : List ℕ} → StruckReadsBack all (record { pattern = P; struck = ns; tried = tried })
  written_back =
      let k = counted_back all (section_end pattern_width all 0) ns (subst (λ (n : ℕ). Holds all n (length ns ∷ ns)) (sym list_at) holds-list) in
      record {
        nodes = section-count pattern_record_at pattern_fields pattern_width pattern-readable all 0 P holds-section;
        pattern = section-back pattern_record_at pattern_fields pattern_width pattern-readable all no_pattern_record 0 P holds-section;
        count = k.0;
        struck = k.1;
      }

-- ---- what fits a field

-- a record's label, edge and position are small
pub record Small (r : PatternRecord) : Type 0 where
  pub label : r.label < 65_536
  pub edge : r.edge ≤ 1
  pub position : r.position ≤ max_position
  pub figure : r.figure ≤ max_figure

small-again : (q : ℕ) (r : PatternRecord) → Small r → Small (relinked q r)
small-again q r h = record { label = h.label; edge = h.edge; position = h.position; figure = h.figure }

-- of a case, a label is a field
first_small : (b : List ℕ) → AreBytes b → AllYes (case_questions b) → (r : PatternRecord) → Memᴰ r (case_of b).first → Small r
unfolding case_of section records_at
first_small b small asked r m =
    let read : ℕ → PatternRecord = λ i. pattern_record_at b (first_at b + 1 + pattern_width * i) in
    let k = at_mem (case_of b).first r no_pattern_record m in
    let n : length (case_of b).first ≡ field b (first_at b) = length-map-up_from read 0 (field b (first_at b)) in
    let e : get_or (case_of b).first k.0 no_pattern_record ≡ read (0 + k.0) = get_or-map-up_from read 0 (field b (first_at b)) k.0 no_pattern_record (subst (λ (l : ℕ). k.0 < l) n k.1) in
    let f = first-bounds b asked k.0 k.1 in
    subst Small k.2
    (record {
      label = subst (λ (x : PatternRecord). x.label < 65_536) (sym e) (field_fits b small (first_at b + 1 + pattern_width * (0 + k.0) + 1));
      edge = f.0;
      position = f.1;
      figure = (case-accepted b asked).facts.first_figures k.0 k.1;
    })

-- the fields of a selection's section fit, if its records do
records-fit : (P : Pattern) → ((i : ℕ) → i < length P → RecordFits (get_or P i no_pattern_record)) → FitFields (flat_map pattern_fields P)
unfolding flat_map
records-fit mathlib.Core.List.[] h f m = elim m [ ]
records-fit (r ∷ P) h f (Memᴰ.head e) = subst (λ (x : ℕ). x < 65_536) (sym e) (h 0 (omega arith)).parent
records-fit (r ∷ P) h f (Memᴰ.tail (Memᴰ.head e)) = subst (λ (x : ℕ). x < 65_536) (sym e) (h 0 (omega arith)).label
records-fit (r ∷ P) h f (Memᴰ.tail (Memᴰ.tail (Memᴰ.head e))) = subst (λ (x : ℕ). x < 65_536) (sym e) (h 0 (omega arith)).edge
records-fit (r ∷ P) h f (Memᴰ.tail (Memᴰ.tail (Memᴰ.tail (Memᴰ.head e)))) = subst (λ (x : ℕ). x < 65_536) (sym e) (h 0 (omega arith)).position
records-fit (r ∷ P) h f (Memᴰ.tail (Memᴰ.tail (Memᴰ.tail (Memᴰ.tail (Memᴰ.head e))))) = subst (λ (x : ℕ). x < 65_536) (sym e) (h 0 (omega arith)).figure
records-fit (r ∷ P) h f (Memᴰ.tail (Memᴰ.tail (Memᴰ.tail (Memᴰ.tail (Memᴰ.tail m))))) = records-fit P (λ i l. h (suc i) (omega arith)) f m

pub section-fits : (P : Pattern) → length P ≤ max_pattern → ((i : ℕ) → i < length P → RecordFits (get_or P i no_pattern_record)) → FitFields (section_fields pattern_fields P)
unfolding section_fields
section-fits P n h f (Memᴰ.head e) = subst (λ (x : ℕ). x < 65_536) (sym e) (omega arith)
section-fits P n h f (Memᴰ.tail m) = records-fit P h f m

pub orderable-section : {P : Pattern} {struck : List ℕ} → Orderable P struck → FitFields (section_fields pattern_fields P)
orderable-section {P} p =
    section-fits P p.few
    (λ i h. (
    let few = p.few in
    let inside = p.parents (i) h in
    let e = p.edges i h in
    let n = p.positions i h in
    let g = p.figures i h in
    record { parent = omega arith; label = p.labels i h; edge = omega arith; position = omega arith; figure = omega arith }
    ))

pub orderable-list : {P : Pattern} {struck : List ℕ} → Orderable P struck → FitFields (length struck ∷ struck)
orderable-list p v (Memᴰ.head e) = let l = p.few_struck in omega arith
orderable-list p v (Memᴰ.tail m) = let l = p.nodes v m in omega arith

-- ---- what striking an accepted case comes to

module _ (b : List ℕ) (small : AreBytes b) (asked : AllYes (case_questions b)) (f : CaseFacts (case_of b)) (L : ℕ) where
  abbrev s : Struck
  s = strike_all (case_of b).summary L (case_of b).first

  pub struck-orderable : Orderable s.pattern s.struck
  struck-orderable =
      record {
        few = let n = short.count in let k = f.first_size in omega arith;
        parents = inside;
        labels = λ i h. (at i h).label;
        edges = λ i h. (at i h).edge;
        positions = λ i h. (at i h).position;
        figures = λ i h. (at i h).figure;
        few_struck = let n = short.count in let k = f.first_size in let i = l.facts.tree.inhabited in omega arith;
        nodes = λ v m. (let h = short.goes v m in let k = f.first_size in omega arith);
      }
    where
      l : LoopFacts (case_of b).summary L (case_of b).first (up_from 0 (length (case_of b).first)) s
      l = all-facts f.summary L f.first f.first_size

      short : Shortened (case_of b).first s.struck s.pattern
      short = struck-shortened f.summary L f.first f.first_size

      at : (i : ℕ) → i < length s.pattern → Small (get_or s.pattern i no_pattern_record)
      at i h = every-record Small small-again (case_of b).summary L (case_of b).first (first_small b small asked) _ (mem-at s.pattern i no_pattern_record h)

      inside : (i : ℕ) → i < length s.pattern → pattern_parent s.pattern i < length s.pattern
      inside zero h = subst (λ (x : ℕ). x < length s.pattern) (sym l.facts.tree.root) h
      inside (suc i) h = let k = l.facts.tree.earlier (suc i) (omega arith) h in omega arith

  -- so what a call writes of it reads back
  pub struck-back : (before : List ℕ) {after : List ℕ} → after ≡ written_at_front (struck_bytes s) before → StruckReadsBack after s
  unfolding written_at_front
  struck-back before e =
      let t : List ℕ = drop (length (struck_bytes s)) before in
      subst (λ (x : List ℕ). StruckReadsBack x s) (sym (e ∙ append_assoc (encode_pattern s.pattern) (encode_counted s.struck) t))
      (written_back s.pattern s.struck t (orderable-section struck-orderable) (orderable-list struck-orderable))
