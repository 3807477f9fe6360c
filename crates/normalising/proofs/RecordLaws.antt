-- Records written one after another: a record's fields, the last entry of each depth, and the table of a list in preorder. Assumes nothing.
use Prim.Native.Nat.{ℕ, suc, ◌+◌, ◌*◌, ◌-◌, ◌≤◌, ◌<◌}
use mathlib.Core.Path.{◌≡◌, refl, sym, ap, ap₂, ◌∙◌}
use mathlib.Core.Bool.{Bool, true, false}
use mathlib.Core.List.{List, [], ◌∷◌, ◌++◌, flat_map, append-nil}
use native.Mathlib.Omega.{arith}
use native.Mathlib.Numerals.{add-one}
use native.Mathlib.Nat.{mul-zero, mul-suc, mul-le-mul_left}
use lib.Dec.{eqb}
use lib.ListN.{length, get_or, take, set, replicate, length-append, length-set, length-replicate, get_or-replicate}
use lib.Seq.{sets, length-sets, take-suc, take_all, length-take-le, get_or-set_same, get_or-set_other}
use borrow.Author.Tests.{eq-eqb, ne_eqb}
use Rattle.model.specs.Pattern.{PatternRecord, Pattern, no_pattern_record}
use Rattle.model.specs.Bytes.{field_bytes, bytes_of}
use Rattle.model.specs.Normal.{Entry, no_entry, last_at, table_of}
use Rattle.model.proofs.Numbering.{table-length, table-record}
use Rattle.format.proofs.WriteLaws.{flat_map-append, fields-run, one-run}
use Rattle.normalising.specs.Trees.{record_with, Shallow}
use Rattle.normalising.proofs.TreeLaws.{same-or-other}

-- ---- a record's fields, put one after another

one-put : (out : List ℕ) (at : ℕ) (fs : List ℕ) (v : ℕ) {before after : List ℕ} {to : ℕ} → to ≡ at + length fs → before ≡ sets out (2 * at) (bytes_of fs) → after ≡ sets before (2 * to) (field_bytes v)
    → after ≡ sets out (2 * at) (bytes_of (fs ++ (v ∷ [])))
one-put out at fs v {before} {after} {to} e b a = fields-run out at fs (v ∷ []) e b (one-run before to v a)

module _ (out : List ℕ) (at a b c : ℕ) {o₁ o₂ o₃ : List ℕ}
    (p₁ : o₁ ≡ sets out (2 * at) (field_bytes a)) (p₂ : o₂ ≡ sets o₁ (2 * (at + 1)) (field_bytes b)) (p₃ : o₃ ≡ sets o₂ (2 * (at + 2)) (field_bytes c)) where
  pub three-put : o₃ ≡ sets out (2 * at) (bytes_of (a ∷ b ∷ c ∷ []))
  three-put = one-put out at (a ∷ b ∷ []) c refl (one-put out at (a ∷ []) b refl (one-run out at a p₁) p₂) p₃

  pub five-put : (d e : ℕ) {o₄ o₅ : List ℕ} → o₄ ≡ sets o₃ (2 * (at + 3)) (field_bytes d) → o₅ ≡ sets o₄ (2 * (at + 4)) (field_bytes e)
      → o₅ ≡ sets out (2 * at) (bytes_of (a ∷ b ∷ c ∷ d ∷ e ∷ []))
  five-put d e p₄ p₅ = one-put out at (a ∷ b ∷ c ∷ d ∷ []) e refl (one-put out at (a ∷ b ∷ c ∷ []) d refl three-put p₄) p₅

-- ---- the loop that writes the records

pub records-length : (fields : PatternRecord → List ℕ) (width : ℕ) → ((r : PatternRecord) → length (fields r) ≡ width) → (rs : List PatternRecord)
    → length (flat_map fields rs) ≡ width * length rs
unfolding flat_map
records-length fields width even [] = sym (mul-zero width)
records-length fields width even (r ∷ rs) =
    length-append (fields r) (flat_map fields rs) ∙ ap₂ (λ (x y : ℕ). x + y) (even r) (records-length fields width even rs)
    ∙ (let e : width * suc (length rs) ≡ width * length rs + width = mul-suc width (length rs) in omega arith)

-- the first k records are written, and by depth the last entry among them is known
pub record Writing (fields : PatternRecord → List ℕ) (list : List Entry) (at : ℕ) (out₀ out last : List ℕ) (k : ℕ) : Type 0 where
  pub turns : k ≤ length list
  pub size : length out ≡ length out₀
  pub bytes : out ≡ sets out₀ (2 * at) (bytes_of (flat_map fields (take k (table_of list))))
  pub depths : length last ≡ 64
  pub lasts : (d : ℕ) → d < 64 → get_or last d 0 ≡ last_at list d k

pub writing_start : (fields : PatternRecord → List ℕ) (list : List Entry) (at : ℕ) (out : List ℕ) → Writing fields list at out out (replicate 64 0) 0
unfolding last_at bytes_of flat_map
writing_start fields list at out = record { turns = omega arith; size = refl; bytes = refl; depths = length-replicate {A = ℕ} 64 0; lasts = λ d h. get_or-replicate {A = ℕ} 64 d 0 0 h }

-- how far a record reaches
pub record-room : (width k n at : ℕ) {m : ℕ} → k < n → 2 * (at + width * n) ≤ m → (width * k + width ≤ width * n) × (2 * (at + width * k + width) ≤ m)
record-room width k n at h room =
    let more : width * suc k ≤ width * n = mul-le-mul_left width h in
    let one : width * suc k ≡ width * k + width = mul-suc width k in
    (omega arith, omega arith)

module _ {fields : PatternRecord → List ℕ} {width : ℕ} (even : (r : PatternRecord) → length (fields r) ≡ width) {list : List Entry} {at : ℕ} {out₀ out last : List ℕ} {k : ℕ}
    (s : Shallow list) (w : Writing fields list at out₀ out last k) (h : k < length list) {entry : Entry} (own : entry ≡ get_or list k no_entry) where
  -- the depths are small
  pub depth-inside : entry.depth < 64
  depth-inside = let l : (get_or list k no_entry).depth < 64 = s.depths k h in omega (arith, ap (λ (e : Entry). e.depth) own)

  own-record : record_with (get_or last (entry.depth - 1) 0) entry ≡ get_or (table_of list) k no_pattern_record
  own-record =
      let p : get_or last (entry.depth - 1) 0 ≡ last_at list ((get_or list k no_entry).depth - 1) k =
      w.lasts (entry.depth - 1) (omega (arith, depth-inside)) ∙ ap (λ (e : Entry). last_at list (e.depth - 1) k) own in
      ap₂ record_with p own ∙ sym (table-record list k h)

  pub writing_step : {after : List ℕ} → after ≡ sets out (2 * (at + width * k)) (bytes_of (fields (record_with (get_or last (entry.depth - 1) 0) entry)))
      → Writing fields list at out₀ after (set last entry.depth k) (k + 1)
  unfolding flat_map last_at
  writing_step {after} e =
      let T : Pattern = table_of list in
      let n : length T ≡ length list = table-length list in
      let fs : List ℕ = flat_map fields (take k T) in
      let r : PatternRecord = get_or T k no_pattern_record in
      let m : length fs ≡ width * k = records-length fields width even (take k T) ∙ ap (λ (x : ℕ). width * x) (length-take-le k T (omega arith)) in
      let more : flat_map fields (take (k + 1) T) ≡ fs ++ fields r =
      ap (λ (j : ℕ). flat_map fields (take j T)) (add-one k) ∙ ap (flat_map fields) (take-suc T k no_pattern_record (omega arith))
      ∙ flat_map-append fields (take k T) (r ∷ []) ∙ ap (λ (x : List ℕ). fs ++ x) (append-nil (fields r)) in
      record {
        turns = omega arith;
        size = ap length e ∙ length-sets out (2 * (at + width * k)) (bytes_of (fields (record_with (get_or last (entry.depth - 1) 0) entry))) ∙ w.size;
        bytes =
            fields-run out₀ at fs (fields r) (ap (λ (x : ℕ). at + x) (sym m)) w.bytes (e ∙ ap (λ (x : PatternRecord). sets out (2 * (at + width * k)) (bytes_of (fields x))) own-record)
            ∙ ap (λ (x : List ℕ). sets out₀ (2 * at) (bytes_of x)) (sym more);
        depths = length-set last entry.depth k ∙ w.depths;
        lasts = λ d l. same-or-other d entry.depth (own-depth d) (other d l);
      }
    where
      next : (d : ℕ) {t : Bool} → eqb (get_or list k no_entry).depth d ≡ t → last_at list d (k + 1) ≡ elim t as (λ _. ℕ) [ true ↦ k | false ↦ last_at list d k ]
      next d {t} e = ap (last_at list d) (add-one k) ∙ ap (λ (t : Bool). elim t as (λ _. ℕ) [ true ↦ k | false ↦ last_at list d k ]) e

      own-depth : (d : ℕ) → d ≡ entry.depth → get_or (set last entry.depth k) d 0 ≡ last_at list d (k + 1)
      own-depth d e =
          ap (λ (x : ℕ). get_or (set last entry.depth k) x 0) e ∙ get_or-set_same last entry.depth k 0 (omega (arith, w.depths, depth-inside))
          ∙ sym (next d (eq-eqb (get_or list k no_entry).depth d (sym (ap (λ (x : Entry). x.depth) own) ∙ sym e)))

      other : (d : ℕ) → d < 64 → (d ≡ entry.depth → ⊥) → get_or (set last entry.depth k) d 0 ≡ last_at list d (k + 1)
      other d l ne =
          get_or-set_other last entry.depth d k 0 ne ∙ w.lasts d l
          ∙ sym (next d (ne_eqb (get_or list k no_entry).depth d (λ z. ne (sym z ∙ sym (ap (λ (x : Entry). x.depth) own)))))

pub writing-end : {fields : PatternRecord → List ℕ} {list : List Entry} {at : ℕ} {out₀ out last : List ℕ} {k : ℕ} → Writing fields list at out₀ out last k → length list ≤ k
    → out ≡ sets out₀ (2 * at) (bytes_of (flat_map fields (table_of list)))
writing-end {fields} {list} {at} {out₀} {out} {last} {k} w h =
    let T : Pattern = table_of list in
    let n : length T ≡ length list = table-length list in
    w.bytes ∙ ap (λ (P : Pattern). sets out₀ (2 * at) (bytes_of (flat_map fields P))) (take_all k T (omega arith))
