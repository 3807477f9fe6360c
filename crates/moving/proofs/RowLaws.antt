-- A pattern written record by record in the other form: its fields are its count and a row for each record, all of one length; and the
-- loop that writes the rows. Assumes nothing.
use Prim.Native.Nat.{ℕ, zero, suc, ◌+◌, ◌*◌, ◌≤◌, ◌<◌}
use mathlib.Core.Path.{◌≡◌, refl, sym, ap, ap₂, ◌∙◌}
use mathlib.Core.List.{List, [], ◌∷◌, ◌++◌, map, flat_map, append-nil}
use native.Mathlib.Omega.{arith}
use native.Mathlib.Nat.{mul-zero, mul-suc, zero-add, mul-le-mul_left}
use lib.ListN.{length, length-append, length-map}
use lib.Seq.{sets, length-sets, length-take-le}
use Rattle.model.specs.Lists.{up_from}
use Rattle.model.specs.Bytes.{field, field_bytes, bytes_of, fields_at, section, records_at, pattern_record_at, pattern_fields, section_fields}
use Rattle.model.specs.Limits.{pattern_width}
use Rattle.model.specs.OldForm.{OldRecord, old_width, old_record_at, old_record_fields, new_record, old_record, new_pattern, old_pattern}
use Rattle.model.proofs.WriteBack.{old-rewritable}
use Rattle.format.specs.Given.{pattern_at}
use Rattle.moving.specs.Forms.{fields_in, rewritten}
use Rattle.format.proofs.RangeLaws.{up_from-last}
use Rattle.format.proofs.SectionLaws.{section-length}
use Rattle.format.proofs.WriteLaws.{flat_map-append, fields-run, one-run}

-- ---- the fields

flat-map : {A B : Type 0} (g : B → List ℕ) (h : A → B) (xs : List A) → flat_map g (map h xs) ≡ flat_map (λ x. g (h x)) xs
unfolding flat_map
flat-map g h [] = refl
flat-map g h (x ∷ xs) = ap (λ (l : List ℕ). g (h x) ++ l) (flat-map g h xs)

rows-length : (row : ℕ → List ℕ) (width : ℕ) → ((i : ℕ) → length (row i) ≡ width) → (a n : ℕ) → length (flat_map row (up_from a n)) ≡ width * n
unfolding flat_map up_from
rows-length row width even a zero = sym (mul-zero width)
rows-length row width even a (suc n) =
    length-append (row a) (flat_map row (up_from (suc a) n)) ∙ ap₂ (λ (x y : ℕ). x + y) (even a) (rows-length row width even (suc a) n)
    ∙ (let e : width * suc n ≡ width * n + width = mul-suc width n in omega arith)

module _ {A : Type 0} (read : List ℕ → ℕ → A) (width : ℕ) (fields : A → List ℕ) (b : List ℕ) (at : ℕ) where
  -- of record i
  abbrev pub row : ℕ → List ℕ
  row i = fields (read b (at + 1 + width * i))

  section_rows : section_fields fields (section read width b at) ≡ field b at ∷ flat_map row (up_from 0 (field b at))
  unfolding section_fields section records_at
  section_rows =
      ap₂ (λ (n : ℕ) (fs : List ℕ). n ∷ fs) (section-length read width b at) (flat-map fields (λ i. read b (at + 1 + width * i)) (up_from 0 (field b at)))

-- records that are mapped first
mapped-fields : {A B : Type 0} (fields : B → List ℕ) (move : A → B) (rs : List A) → section_fields (λ r. fields (move r)) rs ≡ section_fields fields (map move rs)
unfolding section_fields
mapped-fields fields move rs = sym (ap₂ (λ (n : ℕ) (fs : List ℕ). n ∷ fs) (length-map rs move) (flat-map fields move rs))

module _ (b : List ℕ) (at : ℕ) where
  pub wider-fields : rewritten old_width pattern_width b at ≡ section_fields pattern_fields (new_pattern (section old_record_at old_width b at))
  wider-fields = mapped-fields pattern_fields new_record (section old_record_at old_width b at)

  pub narrower-fields : rewritten pattern_width old_width b at ≡ section_fields old_record_fields (old_pattern (pattern_at b at))
  narrower-fields =
      section_rows old_record_at pattern_width (fields_in old_width) b at
      ∙ sym (section_rows pattern_record_at pattern_width (λ r. old_record_fields (old_record r)) b at)
      ∙ mapped-fields old_record_fields old_record (pattern_at b at)

-- a row has as many fields as its width
pub fields-even : (to : ℕ) (r : OldRecord) → to ≤ pattern_width → length (fields_in to r) ≡ to
fields-even to r h = length-take-le to (pattern_fields (new_record r)) h

pub rewritten-length : (from to : ℕ) (b : List ℕ) (at : ℕ) → to ≤ pattern_width → length (rewritten from to b at) ≡ 1 + to * field b at
rewritten-length from to b at h =
    ap length (section_rows old_record_at from (fields_in to) b at)
    ∙ (let l : length (flat_map (row old_record_at from (fields_in to) b at) (up_from 0 (field b at))) ≡ to * field b at =
    rows-length (row old_record_at from (fields_in to) b at) to (λ i. fields-even to (old_record_at b (at + 1 + from * i)) h) 0 (field b at) in omega arith)

-- row i is among the first n
pub row-room : (width n i : ℕ) → i < n → width * i + width ≤ width * n
row-room width n i h =
    let more : width * suc i ≤ width * n = mul-le-mul_left width h in
    let one : width * suc i ≡ width * i + width = mul-suc width i in
    omega arith

-- ---- the loop

-- the first i of n rows are written from field `to` on
pub record Rows (row : ℕ → List ℕ) (n to : ℕ) (out₀ out : List ℕ) (i : ℕ) : Type 0 where
  pub turns : i ≤ n
  pub size : length out ≡ length out₀
  pub bytes : out ≡ sets out₀ (2 * to) (bytes_of (flat_map row (up_from 0 i)))

rows_last : (row : ℕ → List ℕ) (i : ℕ) → flat_map row (up_from 0 (i + 1)) ≡ flat_map row (up_from 0 i) ++ row i
unfolding flat_map
rows_last row i =
    ap (flat_map row) (up_from-last 0 i) ∙ flat_map-append row (up_from 0 i) ((0 + i) ∷ [])
    ∙ ap (λ (l : List ℕ). flat_map row (up_from 0 i) ++ l) (append-nil (row (0 + i)) ∙ ap row (zero-add i))

module _ {row : ℕ → List ℕ} {n to : ℕ} {out₀ : List ℕ} where
  pub rows_start : Rows row n to out₀ out₀ 0
  unfolding up_from bytes_of flat_map
  rows_start = record { turns = omega arith; size = refl; bytes = refl }

  pub rows_step : {width : ℕ} → ((i : ℕ) → length (row i) ≡ width) → {out out' : List ℕ} {i : ℕ} → Rows row n to out₀ out i → i < n
      → out' ≡ sets out (2 * (to + width * i)) (bytes_of (row i)) → Rows row n to out₀ out' (i + 1)
  rows_step {width} even {out} {out'} {i} w h e =
      record {
        turns = omega arith;
        size = ap length e ∙ length-sets out (2 * (to + width * i)) (bytes_of (row i)) ∙ w.size;
        bytes =
            fields-run out₀ to (flat_map row (up_from 0 i)) (row i) (ap (λ (k : ℕ). to + k) (sym (rows-length row width even 0 i))) w.bytes e
            ∙ ap (λ (l : List ℕ). sets out₀ (2 * to) (bytes_of l)) (sym (rows_last row i));
      }

-- with the count, which is put before them
rows_end : {row : ℕ → List ℕ} {n : ℕ} (to : ℕ) (out₀ : List ℕ) {out₁ out : List ℕ} {i : ℕ} → out₁ ≡ sets out₀ (2 * to) (field_bytes n) → Rows row n (to + 1) out₁ out i → n ≤ i
    → out ≡ sets out₀ (2 * to) (bytes_of (n ∷ flat_map row (up_from 0 n)))
rows_end {row} {n} to out₀ {out₁} {out} {i} e w h =
    let done : i ≡ n = let t : i ≤ n = w.turns in omega arith in
    fields-run out₀ to (n ∷ []) (flat_map row (up_from 0 n)) refl (one-run out₀ to n e) (w.bytes ∙ ap (λ (k : ℕ). sets out₁ (2 * (to + 1)) (bytes_of (flat_map row (up_from 0 k)))) done)

module _ (from to : ℕ) (b : List ℕ) (at : ℕ) where
  abbrev pub rewritten_row : ℕ → List ℕ
  rewritten_row = row old_record_at from (fields_in to) b at

  pub rewritten-written : (place : ℕ) (out₀ : List ℕ) {n : ℕ} {out₁ out : List ℕ} {i : ℕ} → n ≡ field b at → out₁ ≡ sets out₀ (2 * place) (field_bytes n)
      → Rows rewritten_row n (place + 1) out₁ out i → n ≤ i → out ≡ sets out₀ (2 * place) (bytes_of (rewritten from to b at))
  rewritten-written place out₀ c e w h =
      rows_end place out₀ e w h
      ∙ ap (λ (fs : List ℕ). sets out₀ (2 * place) (bytes_of fs)) (ap (λ (k : ℕ). k ∷ flat_map rewritten_row (up_from 0 k)) c ∙ sym (section_rows old_record_at from (fields_in to) b at))

-- ---- a record of each width

pub record-narrower : (b : List ℕ) (from to : ℕ) (out : List ℕ) {width : ℕ} {after : List ℕ} → old_width ≤ width → width ≤ old_width → after ≡ sets out (2 * to) (bytes_of (fields_at b from 4))
    → after ≡ sets out (2 * to) (bytes_of (fields_in width (old_record_at b from)))
record-narrower b from to out {width} l m e =
    let w : 4 ≡ width = omega arith in
    e ∙ ap (λ (fs : List ℕ). sets out (2 * to) (bytes_of fs)) (sym (old-rewritable b from).fields) ∙ ap (λ (k : ℕ). sets out (2 * to) (bytes_of (fields_in k (old_record_at b from)))) w

pub record-wider : (b : List ℕ) (from to : ℕ) (out : List ℕ) {width : ℕ} {before after : List ℕ} → old_width < width → width ≤ pattern_width → before ≡ sets out (2 * to) (bytes_of (fields_at b from 4))
    → after ≡ sets before (2 * (to + 4)) (field_bytes 0) → after ≡ sets out (2 * to) (bytes_of (fields_in width (old_record_at b from)))
record-wider b from to out {width} {before} {after} l m e f =
    let w : 5 ≡ width = omega arith in
    fields-run out to (old_record_fields (old_record_at b from)) (0 ∷ []) refl
    (e ∙ ap (λ (fs : List ℕ). sets out (2 * to) (bytes_of fs)) (sym (old-rewritable b from).fields)) (one-run before (to + 4) 0 f)
    ∙ ap (λ (k : ℕ). sets out (2 * to) (bytes_of (fields_in k (old_record_at b from)))) w
