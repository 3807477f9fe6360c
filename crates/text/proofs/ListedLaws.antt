-- Texts put turn by turn stand one after another; numbers of fields, and the lines of a section's records, are put so. Assumes nothing.
use Prim.Native.Nat.{ℕ, zero, suc, ◌+◌, ◌-◌, ◌*◌, ◌≤◌, ◌<◌}
use mathlib.Core.Path.{◌≡◌, refl, sym, ap, ap₂, ◌∙◌, subst}
use mathlib.Core.List.{List, [], ◌∷◌, ◌++◌, map, flat_map, append-nil, Memᴰ}
use native.Mathlib.Omega.{arith}
use native.Mathlib.Nat.{add-zero, zero-add, add-suc, mul-suc, mul-le-mul_left}
use lib.ListN.{length, get_or, length-append}
use Rattle.model.specs.Lists.{up_from}
use Rattle.model.specs.Bytes.{field, fields_at, section, WholeSection}
use Rattle.model.specs.Text.{ascii, number, numbers, line}
use Rattle.model.proofs.ListLaws.{up_from-mem}
use Rattle.format.proofs.RangeLaws.{up_from-last}
use Rattle.format.proofs.SectionLaws.{section-length, section-record, section-below}
use Rattle.format.proofs.WriteLaws.{flat_map-append}
use Rattle.text.specs.Put.{Room, Put}
use Rattle.text.specs.declared.page.Page.{Page}
use Rattle.text.specs.Records.{record_line, record_lines}
use Rattle.text.proofs.PutLaws.{Parts, put-none, room-rest, put_then}
use Rattle.text.proofs.LineLaws.{more}

-- the first i of n texts stand behind what stood on a page
pub record ListedUpTo (f : ℕ → List ℕ) (n : ℕ) (before page : Page) (i : ℕ) : Type 0 where
  pub turns : i ≤ n
  pub listed : Put (flat_map f (up_from 0 i)) before page

flat-last : (f : ℕ → List ℕ) (i : ℕ) → flat_map f (up_from 0 (i + 1)) ≡ flat_map f (up_from 0 i) ++ f i
unfolding flat_map
flat-last f i =
    ap (flat_map f) (up_from-last 0 i) ∙ flat_map-append f (up_from 0 i) ((0 + i) ∷ [])
    ∙ ap (λ (x : List ℕ). flat_map f (up_from 0 i) ++ x) (append-nil (f (0 + i)) ∙ ap f (zero-add i))

-- the first texts are no longer than all
flat-grows : (f : ℕ → List ℕ) (d i : ℕ) → length (flat_map f (up_from 0 i)) ≤ length (flat_map f (up_from 0 (i + d)))
flat-grows f zero i = let e = ap (λ (k : ℕ). length (flat_map f (up_from 0 k))) (add-zero i) in omega arith
flat-grows f (suc d) i =
    let e = ap length (flat-last f i) in
    let l = length-append (flat_map f (up_from 0 i)) (f i) in
    let g = flat-grows f d (i + 1) in
    let k = ap (λ (m : ℕ). length (flat_map f (up_from 0 m))) (let q : i + suc d ≡ i + 1 + d = omega arith in q) in
    omega arith

module _ {f : ℕ → List ℕ} {n : ℕ} {before : Page} where
  pub listed_start : ListedUpTo f n before before 0
  unfolding up_from flat_map
  listed_start = record { turns = omega arith; listed = put-none before }

  module _ {page : Page} {i : ℕ} (v : ListedUpTo f n before page i) where
    module _ (h : i < n) (room : Room (flat_map f (up_from 0 n)) before) where
      next : Parts (flat_map f (up_from 0 (i + 1))) (flat_map f (up_from 0 i)) (f i)
      next = record { parts = flat-last f i }

      next-room : Room (flat_map f (up_from 0 (i + 1))) before
      next-room =
          let r = room.fits in
          let g = flat-grows f (n - (i + 1)) (i + 1) in
          let k = ap (λ (m : ℕ). length (flat_map f (up_from 0 m))) (let q : i + 1 + (n - (i + 1)) ≡ n = omega arith in q) in
          record { fits = omega arith }

      pub listed-room : Room (f i) page
      listed-room = room-rest next next-room v.listed

      pub listed-step : {after : Page} → Put (f i) page after → ListedUpTo f n before after (i + 1)
      listed-step p = record { turns = omega arith; listed = put_then next next-room v.listed p }

    pub listed-end : n ≤ i → Put (flat_map f (up_from 0 n)) before page
    listed-end h =
        let l = v.turns in
        subst (λ (k : ℕ). Put (flat_map f (up_from 0 k)) before page) (let e : i ≡ n = omega arith in e) v.listed

-- ---- fields

-- the numbers of fields from field `from` on are put so
shifted : (f : ℕ → List ℕ) (g : ℕ → ℕ) (a k n : ℕ) → flat_map f (map g (up_from (a + k) n)) ≡ flat_map (λ i. f (g (a + i))) (up_from k n)
unfolding up_from flat_map
shifted f g a k zero = refl
shifted f g a k (suc n) =
    ap (λ (l : List ℕ). f (g (a + k)) ++ l) (ap (λ (m : ℕ). flat_map f (map g (up_from m n))) (sym (add-suc a k)) ∙ shifted f g a (suc k) n)

pub fields-listed : (b : List ℕ) (from n : ℕ) → numbers (fields_at b from n) ≡ flat_map (λ i. number (field b (from + i))) (up_from 0 n)
unfolding numbers
fields-listed b from n = ap (λ (k : ℕ). flat_map number (map (field b) (up_from k n))) (sym (add-zero from)) ∙ shifted number (field b) from 0 n

-- ---- a section's records

pub record-parts : (width : ℕ) (b : List ℕ) (i : ℕ) → Parts (record_line width b i) (ascii "node") (number i ++ (numbers (fields_at b (1 + width * i) width) ++ ascii "\n"))
unfolding record_line line
record-parts width b i = record { parts = ap (λ (x : List ℕ). ascii "node" ++ x) (more i (fields_at b (1 + width * i) width) (ascii "\n")) }

-- a record of a whole section stands inside
pub record-inside : (width : ℕ) (b : List ℕ) (i : ℕ) → WholeSection width b 0 → i < field b 0 → 2 * (1 + width * i + width) ≤ length b
record-inside width b i w h =
    let more : width * suc i ≤ width * field b 0 = mul-le-mul_left width h in
    let one : width * suc i ≡ width * i + width = mul-suc width i in
    let end : 2 * (0 + 1 + width * field b 0) ≤ length b = w.records in
    omega arith

pub records-listed : (width : ℕ) (b : List ℕ) → record_lines width b ≡ flat_map (record_line width b) (up_from 0 (field b 0))
unfolding record_lines
records-listed width b = refl

flat-agree : (f g : ℕ → List ℕ) (xs : List ℕ) → ((x : ℕ) → Memᴰ x xs → f x ≡ g x) → flat_map f xs ≡ flat_map g xs
unfolding flat_map
flat-agree f g [] h = refl
flat-agree f g (x ∷ xs) h = ap₂ ◌++◌ (h x (Memᴰ.head refl)) (flat-agree f g xs (λ y m. h y (Memᴰ.tail m)))

-- of the table that the section holds, each line is the number of a node and the fields of its record
module _ {A : Type 0} (read : List ℕ → ℕ → A) (fields : A → List ℕ) (width : ℕ) (none : A) (same : (b : List ℕ) (at : ℕ) → fields (read b at) ≡ fields_at b at width) (b : List ℕ) where
  abbrev table : List A
  table = section read width b 0

  pub table-lines : flat_map (λ i. line (ascii "node") (i ∷ fields (get_or table i none))) (up_from 0 (length table)) ≡ record_lines width b
  unfolding record_line record_lines
  table-lines =
      flat-agree (λ i. line (ascii "node") (i ∷ fields (get_or table i none))) (record_line width b) (up_from 0 (length table))
      (λ i m.
      let h : i < length table = (let k = up_from-mem 0 (length table) i m in omega arith) in
      ap (λ (fs : List ℕ). line (ascii "node") (i ∷ fs)) (ap fields (section-record read width b 0 i none (section-below read width b 0 i h)) ∙ same b (0 + 1 + width * i)))
      ∙ ap (λ (n : ℕ). flat_map (record_line width b) (up_from 0 n)) (section-length read width b 0)
