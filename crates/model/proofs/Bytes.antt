-- Bytes: the test of a whole case says what document 01 asks; a field of encoded fields is the field; decoding gives back what
-- was encoded, because each section stands behind its count and has that many records of its width; a front that is written
-- leaves the rest as it was. Assumes nothing.
use Prim.Native.Nat.{ℕ, zero, suc, ◌+◌, ◌-◌, ◌*◌, ◌/◌, ◌%◌, ◌≤◌, ◌<◌}
use mathlib.Core.Path.{◌≡◌, refl, sym, ap, ap₂, ◌∙◌, subst}
use mathlib.Core.Bool.{Bool, true, false, false≢true}
use mathlib.Core.Logic.{◌⊎◌, inl, inr, ◌↔◌}
use mathlib.Core.List.Memᴰ
use mathlib.Core.List.{List, [], ◌∷◌, ◌++◌, map, flat_map, Memᴰ}
use native.Mathlib.Omega.{arith}
use native.Mathlib.Nat.{not-suc-le-zero, le_of_suc-le-suc, add-zero, zero-add, add_assoc, zero-lt-suc, mul-div_right}
use lib.Dec.{eqb, leb, lit<}
use lib.ListN.{length, get_or, take, drop, length-append, length-drop, get_or-append}
use lib.Seq.{get_or-append-add, take-append_seam, get_or-drop}
use borrow.Author.Tests.{eqb-true, leb-true, eq-eqb, le-leb}
use Rattle.model.specs.Lists.{up_from}
use Rattle.model.specs.Limits.{max_case_bytes, summary_width, pattern_width, document_width}
use Rattle.model.specs.Tree.{Document, no_document_record}
use Rattle.model.specs.Summary.{Summary, no_summary_record}
use Rattle.model.specs.Pattern.{Pattern, no_pattern_record}
use Rattle.model.specs.Bytes.{field, field_bytes, bytes_of, fields_at, counted_at, records_at, summary_record_at, pattern_record_at, document_record_at, section, section_end, member_at, set_end, set_of, first_at, set_at, case_end, Case, case_of, WholeSet, WholeCase, is_whole_case, Decoded, tables, not_whole, decode_case, document_of, is_whole_document, decode_document, list_of, summary_fields, pattern_fields, document_fields, section_fields, set_fields, case_fields, encode_case, encode_document, encode_list, written_at_front}
use Rattle.model.specs.OldForm.{old_width, old_record_fields, old_record_at}
use Rattle.model.proofs.ListLaws.{and_intro, and_left, and_right}

-- ---- the whole case

-- a member's section begins after the one before it
pub member-next : (b : List ℕ) (on i : ℕ) → member_at b on (suc i) ≡ section_end pattern_width b (member_at b on i)
unfolding member_at
member-next b on i = refl

pub member-first : (b : List ℕ) (on : ℕ) → member_at b on 0 ≡ on + 1
unfolding member_at
member-first b on = refl

-- so later members stand further on
pub member-later : (b : List ℕ) (on i k : ℕ) → member_at b on i + k ≤ member_at b on (i + k)
member-later b on i zero = let e : i + 0 ≡ i = add-zero i in rw (e, add-zero (member_at b on i)) (omega arith)
member-later b on i (suc k) =
    let h : member_at b on i + k ≤ member_at b on (i + k) = member-later b on i k in
    let e : i + suc k ≡ suc (i + k) = omega arith in
    rw (e, member-next b on (i + k)) (omega arith)

-- and each ends where the set does or before
pub member-ends : (b : List ℕ) (on i : ℕ) → i < field b on → section_end pattern_width b (member_at b on i) ≤ set_end b on
member-ends b on i h =
    let k : ℕ = field b on - suc i in
    let e : suc i + k ≡ field b on = omega arith in
    let l : member_at b on (suc i) + k ≤ member_at b on (suc i + k) = member-later b on (suc i) k in
    let m : member_at b on (suc i + k) ≡ member_at b on (field b on) = ap (member_at b on) e in
    let n : member_at b on (suc i) ≡ section_end pattern_width b (member_at b on i) = member-next b on i in
    omega arith

pub set-starts : (b : List ℕ) (on : ℕ) → on + 1 ≤ set_end b on
set-starts b on =
    let l : member_at b on 0 + field b on ≤ member_at b on (0 + field b on) = member-later b on 0 (field b on) in
    let m : member_at b on (0 + field b on) ≡ member_at b on (field b on) = ap (member_at b on) (zero-add (field b on)) in
    let n : member_at b on 0 ≡ on + 1 = member-first b on in
    omega arith

-- a set that ends within the bytes is whole, and the other way round
pub set-whole : (b : List ℕ) (on : ℕ) → 2 * set_end b on ≤ length b → WholeSet b on
set-whole b on h =
    record {
      count = let s = set-starts b on in omega arith;
      sections = λ i l. (let e : section_end pattern_width b (member_at b on i) ≤ set_end b on = member-ends b on i l in record { count = omega arith; records = omega arith });
    }

pub whole-set-ends : (b : List ℕ) (on : ℕ) → WholeSet b on → 2 * set_end b on ≤ length b
whole-set-ends b on w = go (field b on) refl
  where
    go : (n : ℕ) → field b on ≡ n → 2 * member_at b on n ≤ length b
    go zero e = rw (member-first b on) w.count
    go (suc n) e = rw (member-next b on n) (w.sections n (omega arith)).records

whole-facts : (b : List ℕ) → length b ≤ max_case_bytes → length b ≡ 2 * case_end b → WholeCase b
whole-facts b s e =
    let starts = set-starts b (set_at b) in
    record {
      size = s;
      summary = record { count = omega arith; records = omega arith };
      first = record { count = omega arith; records = omega arith };
      members = set-whole b (set_at b) (omega arith);
      nothing_after = omega arith;
    }

-- the test's one equation says every part of what is asked
pub whole-case : (b : List ℕ) → (is_whole_case b ≡ true) ↔ WholeCase b
unfolding is_whole_case
whole-case b = (
  λ e. whole-facts b
      (leb-true (length b) max_case_bytes (and_left (leb (length b) max_case_bytes) (eqb (length b) (2 * case_end b)) e))
      (eqb-true (length b) (2 * case_end b) (and_right (leb (length b) max_case_bytes) (eqb (length b) (2 * case_end b)) e)),
  λ w. and_intro (le-leb (length b) max_case_bytes w.size)
      (eq-eqb (length b) (2 * case_end b) (let r = whole-set-ends b (set_at b) w.members in let n = w.nothing_after in omega arith)),
)

-- ---- fields as bytes

-- every number of the list fits a field
abbrev pub FitFields : List ℕ → Type 0
FitFields fs = (f : ℕ) → Memᴰ f fs → f < 65_536

pub fit_append : (xs ys : List ℕ) → FitFields xs → FitFields ys → FitFields (xs ++ ys)
fit_append xs ys f g x m = go (Memᴰ.append_cases xs m)
  where
    go : Memᴰ x xs ⊎ Memᴰ x ys → x < 65_536
    go (inl k) = f x k
    go (inr k) = g x k

pub fit_next : (x : ℕ) (xs : List ℕ) → x < 65_536 → FitFields xs → FitFields (x ∷ xs)
fit_next x xs l f y (Memᴰ.head e) = subst (λ (z : ℕ). z < 65_536) (sym e) l
fit_next x xs l f y (Memᴰ.tail m) = f y m

pub length-bytes : (fs : List ℕ) → length (bytes_of fs) ≡ 2 * length fs
unfolding bytes_of flat_map field_bytes
length-bytes [] = refl
length-bytes (f ∷ fs) = let ih : length (bytes_of fs) ≡ 2 * length fs = length-bytes fs in omega arith

pub field_next : (x y : ℕ) (b : List ℕ) (i : ℕ) → field (x ∷ y ∷ b) (suc i) ≡ field b i
unfolding field
field_next x y b i =
    let low : 2 * suc i ≡ suc (suc (2 * i)) = omega arith in
    let high : 2 * suc i + 1 ≡ suc (suc (2 * i + 1)) = omega arith in
    ap₂ (λ (m n : ℕ). get_or (x ∷ y ∷ b) m 0 + 256 * get_or (x ∷ y ∷ b) n 0) low high

-- field i of the bytes of some fields is the i-th of them; past the end both are 0
pub field-bytes : (fs : List ℕ) → FitFields fs → (i : ℕ) → field (bytes_of fs) i ≡ get_or fs i 0
unfolding bytes_of flat_map field_bytes field
field-bytes [] h i = refl
field-bytes (f ∷ fs) h zero = let k : f < 65_536 = h f (Memᴰ.head refl) in omega arith
field-bytes (f ∷ fs) h (suc i) = field_next (f % 256) (f / 256 % 256) (bytes_of fs) i ∙ field-bytes fs (λ g m. h g (Memᴰ.tail m)) i

-- ---- sections

-- the bytes hold these fields from field `at` on
abbrev pub Holds : List ℕ → ℕ → List ℕ → Type 0
Holds b at fs = (j : ℕ) → j < length fs → field b (at + j) ≡ get_or fs j 0

pub holds-bytes : (fs : List ℕ) → FitFields fs → Holds (bytes_of fs) 0 fs
holds-bytes fs h j k = ap (field (bytes_of fs)) (zero-add j) ∙ field-bytes fs h j

pub holds-left : (b : List ℕ) (at : ℕ) (fs gs : List ℕ) → Holds b at (fs ++ gs) → Holds b at fs
holds-left b at fs gs h j k = h j (let e = length-append fs gs in omega arith) ∙ get_or-append fs gs 0 j k

pub holds-right : (b : List ℕ) (at : ℕ) (fs gs : List ℕ) → Holds b at (fs ++ gs) → Holds b (at + length fs) gs
holds-right b at fs gs h j k =
    let place : at + length fs + j ≡ at + (length fs + j) = omega arith in
    ap (field b) place ∙ h (length fs + j) (let e = length-append fs gs in omega arith) ∙ get_or-append-add fs gs j 0

holds-head : (b : List ℕ) (at f : ℕ) (fs : List ℕ) → Holds b at (f ∷ fs) → field b at ≡ f
holds-head b at f fs h = ap (field b) (sym (add-zero at)) ∙ h 0 (zero-lt-suc (length fs))

-- a range mapped to the elements of a list is the list
pub map_range : {A : Type 0} (f : ℕ → A) (d : A) (xs : List A) (a : ℕ) → ((j : ℕ) → j < length xs → f (a + j) ≡ get_or xs j d) → map f (up_from a (length xs)) ≡ xs
unfolding up_from
map_range f d [] a h = refl
map_range f d (x ∷ xs) a h =
    let first : f a ≡ x = ap f (sym (add-zero a)) ∙ h 0 (zero-lt-suc (length xs)) in
    let next : (j : ℕ) → suc a + j ≡ a + suc j = λ j. omega arith in
    let rest : map f (up_from (suc a) (length xs)) ≡ xs = map_range f d xs (suc a) (λ j k. ap f (next j) ∙ h (suc j) (omega arith)) in
    ap₂ (λ (y : _) (ys : List _). y ∷ ys) first rest

-- a counted list that the bytes hold is read back
pub counted_back : (b : List ℕ) (at : ℕ) (ns : List ℕ) → Holds b at (length ns ∷ ns) → (field b at ≡ length ns) × (counted_at b at ≡ ns)
counted_back b at ns h =
    let count : field b at ≡ length ns = holds-head b at (length ns) ns h in
    (count, ap (fields_at b (at + 1)) count ∙ map_range (field b) 0 ns (at + 1) (holds-right b at (length ns ∷ []) ns h))

-- records of one width, read where their fields stand, are those records
pub record Readable {A : Type 0} (read : List ℕ → ℕ → A) (fields : A → List ℕ) (width : ℕ) : Type 0 where
  pub size : (r : A) → length (fields r) ≡ width
  pub back : (b : List ℕ) (at : ℕ) (r : A) → Holds b at (fields r) → read b at ≡ r

module _ {A : Type 0} (read : List ℕ → ℕ → A) (fields : A → List ℕ) (width : ℕ) (ok : Readable read fields width) where
  pub length-records : (rs : List A) → length (flat_map fields rs) ≡ width * length rs
  unfolding flat_map
  length-records [] = omega arith
  length-records (r ∷ rs) =
      let ih : length (flat_map fields rs) ≡ width * length rs = length-records rs in
      let s : length (fields r) ≡ width = ok.size r in
      length-append (fields r) (flat_map fields rs) ∙ omega arith

  record-back : (b : List ℕ) (d : A) (rs : List A) (at : ℕ) → Holds b at (flat_map fields rs) → (j : ℕ) → j < length rs → read b (at + width * j) ≡ get_or rs j d
  unfolding flat_map
  record-back b d [] at h j k = absurd (not-suc-le-zero k)
  record-back b d (r ∷ rs) at h zero k =
      let place : at + width * 0 ≡ at = omega arith in
      ap (read b) place ∙ ok.back b at r (holds-left b at (fields r) (flat_map fields rs) h)
  record-back b d (r ∷ rs) at h (suc j) k =
      let s : length (fields r) ≡ width = ok.size r in
      let place : at + width * suc j ≡ at + length (fields r) + width * j = omega arith in
      ap (read b) place ∙ record-back b d rs (at + length (fields r)) (holds-right b at (fields r) (flat_map fields rs) h) j (le_of_suc-le-suc k)

  pub length-section : (rs : List A) → length (section_fields fields rs) ≡ 1 + width * length rs
  unfolding section_fields
  length-section rs = let e : length (flat_map fields rs) ≡ width * length rs = length-records rs in omega arith

  -- the count of a section that the bytes hold
  pub section-count : (b : List ℕ) (at : ℕ) (rs : List A) → Holds b at (section_fields fields rs) → field b at ≡ length rs
  unfolding section_fields
  section-count b at rs h = holds-head b at (length rs) (flat_map fields rs) h

  -- and its end
  pub section-end : (b : List ℕ) (at : ℕ) (rs : List A) → Holds b at (section_fields fields rs) → section_end width b at ≡ at + length (section_fields fields rs)
  section-end b at rs h =
      let e = length-section rs in
      ap (λ (n : ℕ). at + 1 + width * n) (section-count b at rs h) ∙ omega arith

  -- decoding a section that the bytes hold gives its records
  pub section-back : (b : List ℕ) (d : A) (at : ℕ) (rs : List A) → Holds b at (section_fields fields rs) → section read width b at ≡ rs
  unfolding section section_fields records_at
  section-back b d at rs h =
      ap (λ (n : ℕ). map (λ i. read b (at + 1 + width * i)) (up_from 0 n)) (section-count b at rs h)
      ∙ map_range (λ i. read b (at + 1 + width * i)) d rs 0
      (λ j k. ap (λ (i : ℕ). read b (at + 1 + width * i)) (zero-add j)
      ∙ record-back b d rs (at + 1) (holds-right b at (length rs ∷ []) (flat_map fields rs) h) j k)

pub summary-readable : Readable summary_record_at summary_fields summary_width
summary-readable =
    record {
      size = λ r. refl;
      back = λ b at r h.
          let p : field b at ≡ r.parent = holds-head b at r.parent (r.label ∷ r.strong ∷ []) h in
          let l : field b (at + 1) ≡ r.label = h 1 (lit< tt) in
          let s : field b (at + 2) ≡ r.strong = h 2 (lit< tt) in
          λ i. record { parent = p i; label = l i; strong = s i };
    }

pub pattern-readable : Readable pattern_record_at pattern_fields pattern_width
pattern-readable =
    record {
      size = λ r. refl;
      back = λ b at r h. (
          let p : field b at ≡ r.parent = holds-head b at r.parent (r.label ∷ r.edge ∷ r.position ∷ r.figure ∷ []) h in
          let l : field b (at + 1) ≡ r.label = h 1 (lit< tt) in
          let e : field b (at + 2) ≡ r.edge = h 2 (lit< tt) in
          let k : field b (at + 3) ≡ r.position = h 3 (lit< tt) in
          let f : field b (at + 4) ≡ r.figure = h 4 (lit< tt) in
          λ i. record { parent = p i; label = l i; edge = e i; position = k i; figure = f i }
          );
    }

pub old-readable : Readable old_record_at old_record_fields old_width
old-readable =
    record {
      size = λ r. refl;
      back = λ b at r h. (
          let p : field b at ≡ r.parent = holds-head b at r.parent (r.label ∷ r.edge ∷ r.position ∷ []) h in
          let l : field b (at + 1) ≡ r.label = h 1 (lit< tt) in
          let e : field b (at + 2) ≡ r.edge = h 2 (lit< tt) in
          let k : field b (at + 3) ≡ r.position = h 3 (lit< tt) in
          λ i. record { parent = p i; label = l i; edge = e i; position = k i }
          );
    }

document-readable : Readable document_record_at document_fields document_width
document-readable =
    record {
      size = λ r. refl;
      back = λ b at r h.
          let p : field b at ≡ r.parent = holds-head b at r.parent (r.label ∷ r.figure ∷ []) h in
          let l : field b (at + 1) ≡ r.label = h 1 (lit< tt) in
          let f : field b (at + 2) ≡ r.figure = h 2 (lit< tt) in
          λ i. record { parent = p i; label = l i; figure = f i };
    }

-- ---- decoding what was encoded gives it back

decoded : {A : Type 0} (whole : Bool) (x y : A) → whole ≡ true → x ≡ y → (elim whole as (λ _. Decoded A) [ true ↦ tables x | false ↦ not_whole ]) ≡ tables y
decoded true x y w e = ap tables e
decoded false x y w e = absurd (false≢true w)

-- a volume
pub length-document : (W : Document) → length (encode_document W) ≡ 2 * (1 + document_width * length W)
unfolding encode_document
length-document W =
    length-bytes (section_fields document_fields W)
    ∙ ap (λ (n : ℕ). 2 * n) (length-section document_record_at document_fields document_width document-readable W)

pub document-back : (W : Document) → FitFields (section_fields document_fields W) → document_of (encode_document W) ≡ W
unfolding document_of encode_document
document-back W h =
    section-back document_record_at document_fields document_width document-readable (bytes_of (section_fields document_fields W)) no_document_record 0 W
    (holds-bytes (section_fields document_fields W) h)

pub document-whole : (W : Document) → FitFields (section_fields document_fields W) → is_whole_document (encode_document W) ≡ true
unfolding is_whole_document encode_document
document-whole W h =
    let fs : List ℕ = section_fields document_fields W in
    let e : section_end document_width (bytes_of fs) 0 ≡ 0 + length fs =
    section-end document_record_at document_fields document_width document-readable (bytes_of fs) 0 W (holds-bytes fs h) in
    let l : length (bytes_of fs) ≡ 2 * length fs = length-bytes fs in
    eq-eqb (length (bytes_of fs)) (2 * section_end document_width (bytes_of fs) 0) (l ∙ ap (λ (n : ℕ). 2 * n) (sym (e ∙ zero-add (length fs))))

pub decode-document : (W : Document) → FitFields (section_fields document_fields W) → decode_document (encode_document W) ≡ tables W
unfolding decode_document
decode-document W h = decoded (is_whole_document (encode_document W)) (document_of (encode_document W)) W (document-whole W h) (document-back W h)

-- a list
pub list_back : (ns : List ℕ) → FitFields ns → list_of (encode_list ns) ≡ ns
unfolding list_of encode_list
list_back ns h =
    let half : length (bytes_of ns) / 2 ≡ length ns = ap (λ (n : ℕ). n / 2) (length-bytes ns) ∙ mul-div_right (length ns) (lit< tt) in
    ap (λ (n : ℕ). map (field (bytes_of ns)) (up_from 0 n)) half ∙ map_range (field (bytes_of ns)) 0 ns 0 (holds-bytes ns h)

-- a set: the bytes hold its members' sections one after another
module _ (b : List ℕ) where
  members-back : (at : ℕ → ℕ) → ((i : ℕ) → at (suc i) ≡ section_end pattern_width b (at i)) → (Qs : List Pattern) (k : ℕ) → Holds b (at k) (flat_map (section_fields pattern_fields) Qs)
      → (map (λ i. section pattern_record_at pattern_width b (at i)) (up_from k (length Qs)) ≡ Qs) × (at (k + length Qs) ≡ at k + length (flat_map (section_fields pattern_fields) Qs))
  unfolding up_from flat_map
  members-back at next [] k h = (refl, ap at (add-zero k) ∙ sym (add-zero (at k)))
  members-back at next (Q ∷ Qs) k h =
      let own : List ℕ = section_fields pattern_fields Q in
      let rest : List ℕ = flat_map (section_fields pattern_fields) Qs in
      let here : Holds b (at k) own = holds-left b (at k) own rest h in
      let end : at (suc k) ≡ at k + length own = next k ∙ section-end pattern_record_at pattern_fields pattern_width pattern-readable b (at k) Q here in
      let ih = members-back at next Qs (suc k) (subst (λ (n : ℕ). Holds b n rest) (sym end) (holds-right b (at k) own rest h)) in
      let e : k + suc (length Qs) ≡ suc k + length Qs = omega arith in
      let l : length (own ++ rest) ≡ length own + length rest = length-append own rest in (
        ap₂ (λ (y : Pattern) (ys : List Pattern). y ∷ ys) (section-back pattern_record_at pattern_fields pattern_width pattern-readable b no_pattern_record (at k) Q here) ih.0,
        ap at e ∙ ih.1 ∙ (ap (λ (n : ℕ). n + length rest) end ∙ (add_assoc (at k) (length own) (length rest) ∙ ap (λ (n : ℕ). at k + n) (sym l))),
      )

  module _ (on : ℕ) (Qs : List Pattern) (h : Holds b on (set_fields Qs)) where
    set-count : field b on ≡ length Qs
    unfolding section_fields
    set-count = holds-head b on (length Qs) (flat_map (section_fields pattern_fields) Qs) h

    from_first : Holds b (member_at b on 0) (flat_map (section_fields pattern_fields) Qs)
    unfolding section_fields
    from_first =
        subst (λ (n : ℕ). Holds b n (flat_map (section_fields pattern_fields) Qs)) (sym (member-first b on))
        (holds-right b on (length Qs ∷ []) (flat_map (section_fields pattern_fields) Qs) h)

    pub set_back : set_of b on ≡ Qs
    unfolding set_of
    set_back =
        ap (λ (n : ℕ). map (λ i. section pattern_record_at pattern_width b (member_at b on i)) (up_from 0 n)) set-count
        ∙ (members-back (member_at b on) (member-next b on) Qs 0 from_first).0

    pub set-end : set_end b on ≡ on + length (set_fields Qs)
    unfolding section_fields
    set-end =
        let e : member_at b on (0 + length Qs) ≡ member_at b on 0 + length (flat_map (section_fields pattern_fields) Qs) =
        (members-back (member_at b on) (member-next b on) Qs 0 from_first).1 in
        let z : member_at b on (0 + length Qs) ≡ member_at b on (field b on) = ap (member_at b on) (zero-add (length Qs) ∙ sym set-count) in
        let s : member_at b on 0 ≡ on + 1 = member-first b on in
        omega arith

-- a case: the bytes hold its two sections and its set one after another
-- an outline, the first selection, with records of whichever form, and whatever fields follow them
module _ {A : Type 0} (read : List ℕ → ℕ → A) (fields : A → List ℕ) (width : ℕ) (ok : Readable read fields width) (none : A) (S : Summary) (P : List A) (rest : List ℕ)
    (h : FitFields (section_fields summary_fields S ++ (section_fields fields P ++ rest))) where
  abbrev summary_part : List ℕ
  summary_part = section_fields summary_fields S

  abbrev first_part : List ℕ
  first_part = section_fields fields P

  abbrev written : List ℕ
  written = bytes_of (summary_part ++ (first_part ++ rest))

  holds-all : Holds written 0 (summary_part ++ (first_part ++ rest))
  holds-all = holds-bytes (summary_part ++ (first_part ++ rest)) h

  holds-summary : Holds written 0 summary_part
  holds-summary = holds-left written 0 summary_part (first_part ++ rest) holds-all

  first-at : first_at written ≡ length summary_part
  first-at = section-end summary_record_at summary_fields summary_width summary-readable written 0 S holds-summary ∙ zero-add (length summary_part)

  holds-patterns : Holds written (first_at written) (first_part ++ rest)
  holds-patterns =
      subst (λ (at : ℕ). Holds written at (first_part ++ rest)) (zero-add (length summary_part) ∙ sym first-at) (holds-right written 0 summary_part (first_part ++ rest) holds-all)

  holds-first : Holds written (first_at written) first_part
  holds-first = holds-left written (first_at written) first_part rest holds-patterns

  abbrev rest_at : ℕ
  rest_at = section_end width written (first_at written)

  rest-at : rest_at ≡ first_at written + length first_part
  rest-at = section-end read fields width ok written (first_at written) P holds-first

  pub holds-rest : Holds written rest_at rest
  holds-rest = subst (λ (at : ℕ). Holds written at rest) (sym rest-at) (holds-right written (first_at written) first_part rest holds-patterns)

  pub summary-back : section summary_record_at summary_width written 0 ≡ S
  summary-back = section-back summary_record_at summary_fields summary_width summary-readable written no_summary_record 0 S holds-summary

  pub first_back : section read width written (first_at written) ≡ P
  first_back = section-back read fields width ok written none (first_at written) P holds-first

  pub written-length : (end : ℕ) → end ≡ rest_at + length rest → length written ≡ 2 * end
  written-length end e =
      length-bytes (summary_part ++ (first_part ++ rest))
      ∙ ap (λ (n : ℕ). 2 * n) (length-append summary_part (first_part ++ rest) ∙ ap (λ (n : ℕ). length summary_part + n) (length-append first_part rest)
      ∙ sym (e ∙ ap (λ (n : ℕ). n + length rest) (rest-at ∙ ap (λ (n : ℕ). n + length first_part) first-at) ∙ add_assoc (length summary_part) (length first_part) (length rest)))

module _ (c : Case) (h : FitFields (case_fields c)) where
  abbrev set_part : List ℕ
  set_part = set_fields c.members

  case-end : case_end (encode_case c) ≡ set_at (encode_case c) + length set_part
  unfolding encode_case case_fields
  case-end = set-end (encode_case c) (set_at (encode_case c)) c.members (holds-rest pattern_record_at pattern_fields pattern_width pattern-readable no_pattern_record c.summary c.first set_part h)

  pub case-back : case_of (encode_case c) ≡ c
  unfolding case_of encode_case case_fields
  case-back =
      let s : section summary_record_at summary_width (encode_case c) 0 ≡ c.summary = summary-back pattern_record_at pattern_fields pattern_width pattern-readable no_pattern_record c.summary c.first set_part h in
      let f : section pattern_record_at pattern_width (encode_case c) (first_at (encode_case c)) ≡ c.first = first_back pattern_record_at pattern_fields pattern_width pattern-readable no_pattern_record c.summary c.first set_part h in
      let g : set_of (encode_case c) (set_at (encode_case c)) ≡ c.members = set_back (encode_case c) (set_at (encode_case c)) c.members (holds-rest pattern_record_at pattern_fields pattern_width pattern-readable no_pattern_record c.summary c.first set_part h) in
      λ i. record { summary = s i; first = f i; members = g i }

  case-length : length (encode_case c) ≡ 2 * case_end (encode_case c)
  unfolding encode_case case_fields
  case-length = written-length pattern_record_at pattern_fields pattern_width pattern-readable no_pattern_record c.summary c.first set_part h (case_end (encode_case c)) case-end

  pub case-whole : length (encode_case c) ≤ max_case_bytes → is_whole_case (encode_case c) ≡ true
  case-whole s = (whole-case (encode_case c)).1 (whole-facts (encode_case c) s case-length)

  pub decode-case : length (encode_case c) ≤ max_case_bytes → decode_case (encode_case c) ≡ tables c
  unfolding decode_case
  decode-case s = decoded (is_whole_case (encode_case c)) (case_of (encode_case c)) c (case-whole s) case-back

-- ---- a buffer or table written at its front

module _ {A : Type 0} where
  -- its length is kept
  pub front_length : (w b : List A) → length w ≤ length b → length (written_at_front w b) ≡ length b
  unfolding written_at_front
  front_length w b h =
      let d : length (drop (length w) b) ≡ length b - length w = length-drop (length w) b in
      length-append w (drop (length w) b) ∙ omega arith

  -- what stands after what is written keeps its contents
  pub front-after : (w b : List A) (i : ℕ) (d : A) → length w ≤ i → get_or (written_at_front w b) i d ≡ get_or b i d
  unfolding written_at_front
  front-after w b i d h =
      let e : length w + (i - length w) ≡ i = omega arith in
      ap (λ (n : ℕ). get_or (w ++ drop (length w) b) n d) (sym e) ∙ get_or-append-add w (drop (length w) b) (i - length w) d
      ∙ get_or-drop (length w) b (i - length w) d ∙ ap (λ (n : ℕ). get_or b n d) e

  -- what is written stands at the front
  pub front-written : (w b : List A) → take (length w) (written_at_front w b) ≡ w
  unfolding written_at_front
  front-written w b = take-append_seam w (drop (length w) b)

  -- writing nothing changes nothing
  pub front-none : (b : List A) → written_at_front [] b ≡ b
  unfolding written_at_front
  front-none b = refl
