-- Whole bytes that are read and written again are the same bytes: the fields of what is read are those that it is read from, one after
-- another, and the two bytes of a field are those that it was made of. Assumes nothing.
use Prim.Native.Nat.{ℕ, zero, suc, ◌+◌, ◌*◌, ◌/◌, ◌%◌, ◌≤◌, ◌<◌}
use mathlib.Core.Path.{◌≡◌, refl, sym, ap, ap₂, ◌∙◌, subst}
use mathlib.Core.Logic.{◌⊎◌, inl, inr}
use mathlib.Core.Bool.{Bool, true, false, false≢true}
use mathlib.Core.List.Memᴰ
use mathlib.Core.List.{List, [], ◌∷◌, ◌++◌, map, flat_map, append-nil, Memᴰ}
use native.Mathlib.Omega.{arith}
use native.Mathlib.Nat.{add-zero, zero-add}
use native.Mathlib.Numerals.{add-one}
use lib.Dec.{eqb, leb}
use lib.ListN.{length, get_or, length-append, length-map}
use borrow.Author.Tests.{eqb-true, leb-true}
use Rattle.model.specs.Lists.{up_from, all_of}
use Rattle.model.specs.Limits.{max_case_bytes, summary_width, pattern_width}
use Rattle.model.specs.Pattern.{PatternRecord, Pattern}
use Rattle.model.specs.Bytes.{field, field_bytes, bytes_of, fields_at, records_at, summary_record_at, pattern_record_at, section, section_end, member_at, set_end, set_of, first_at, set_at, case_end, case_of, is_whole_case, summary_fields, pattern_fields, section_fields, set_fields, case_fields, encode_case, AreBytes}
use Rattle.model.specs.Moving.{figureless}
use Rattle.model.specs.OldForm.{OldRecord, OldPattern, old_width, old_record_fields, old_record_at, second_at, old_end, old_case_of, old_fields, encode_old_case, new_record, new_pattern, one_of, old_record, old_pattern, old_of, old_whole}
use Rattle.model.proofs.ListLaws.{and_left, and_right, length-map-up_from, flat-intro, flat-elim}
use Rattle.model.proofs.Bytes.{FitFields, fit_append, fit_next, field_next, member-first, member-next}
use Rattle.model.proofs.ReadBack.{field_fits}

-- ---- there and back, record by record

pub old-new : (P : Pattern) → figureless P ≡ true → new_pattern (old_pattern P) ≡ P
unfolding figureless all_of
old-new [] e = refl
old-new (r ∷ P) e = go (eqb r.figure 0) refl e (old-new P)
  where
    same : r.figure ≡ 0 → new_record (old_record r) ≡ r
    same z = λ i. record { parent = r.parent; label = r.label; edge = r.edge; position = r.position; figure = sym z i }

    go : (t : Bool) → eqb r.figure 0 ≡ t → (elim t as (λ _. Bool) [ true ↦ figureless P | false ↦ false ]) ≡ true → (figureless P ≡ true → new_pattern (old_pattern P) ≡ P)
        → new_record (old_record r) ∷ new_pattern (old_pattern P) ≡ r ∷ P
    go true z k rest = ap₂ (λ (x : PatternRecord) (R : Pattern). x ∷ R) (same (eqb-true r.figure 0 z)) (rest k)
    go false z k rest = absurd (false≢true k)

pub new-old : (P : OldPattern) → old_pattern (new_pattern P) ≡ P
new-old [] = refl
new-old (r ∷ P) = ap (λ (R : OldPattern). r ∷ R) (new-old P)

-- ---- fields one after another

-- fields from m places on, after the first m
fields-append : (b : List ℕ) (at m n : ℕ) → fields_at b at m ++ fields_at b (at + m) n ≡ fields_at b at (m + n)
unfolding up_from
fields-append b at zero n = ap₂ (fields_at b) (add-zero at) (sym (zero-add n))
fields-append b at (suc m) n =
    let e : at + suc m ≡ suc at + m = omega arith in
    let k : suc (m + n) ≡ suc m + n = omega arith in
    ap (λ (l : List ℕ). field b at ∷ l) (ap (λ (i : ℕ). fields_at b (suc at) m ++ fields_at b i n) e ∙ fields-append b (suc at) m n) ∙ ap (fields_at b at) k

-- the fields fs are those from field `at` up to field `end`
pub record Spans (b : List ℕ) (at : ℕ) (fs : List ℕ) (end : ℕ) : Type 0 where
  pub ends : at + length fs ≡ end
  pub fields : fs ≡ fields_at b at (length fs)

module _ (b : List ℕ) where
  spans-none : (at : ℕ) → Spans b at [] at
  unfolding up_from
  spans-none at = record { ends = add-zero at; fields = refl }

  spans-range : (at n : ℕ) → Spans b at (fields_at b at n) (at + n)
  spans-range at n =
      let l : length (fields_at b at n) ≡ n = length-map-up_from (field b) at n in
      record { ends = ap (λ (k : ℕ). at + k) l; fields = ap (fields_at b at) (sym l) }

  pub spans-append : {at mid end : ℕ} {fs gs : List ℕ} → Spans b at fs mid → Spans b mid gs end → Spans b at (fs ++ gs) end
  spans-append {at} {mid} {end} {fs} {gs} f g =
      let l : length (fs ++ gs) ≡ length fs + length gs = length-append fs gs in
      record {
        ends = omega (arith, f.ends, g.ends);
        fields =
            ap₂ (λ (x y : List ℕ). x ++ y) f.fields (g.fields ∙ ap (λ (k : ℕ). fields_at b k (length gs)) (sym f.ends))
            ∙ fields-append b at (length fs) (length gs) ∙ ap (fields_at b at) (sym l);
      }

  -- one field, and those after it
  pub spans-next : {at end f : ℕ} {fs : List ℕ} → f ≡ field b at → Spans b (at + 1) fs end → Spans b at (f ∷ fs) end
  unfolding up_from
  spans-next {at} {end} {f} {fs} e s = spans-append {fs = f ∷ []} (record { ends = refl; fields = ap (λ (x : ℕ). x ∷ []) e }) s

  -- the fields of bytes fit
  pub spans_fit : {at end : ℕ} {fs : List ℕ} → AreBytes b → Spans b at fs end → FitFields fs
  spans_fit {at} {end} {fs} small s f m =
      let k = Memᴰ.of_map (field b) (up_from at (length fs)) (subst (λ (l : List ℕ). Memᴰ f l) s.fields m) in
      subst (λ (x : ℕ). x < 65_536) k.2 (field_fits b small k.0)

-- fields of bytes
pub fields_fit : (b : List ℕ) → AreBytes b → (at n : ℕ) → FitFields (fields_at b at n)
fields_fit b small at n = spans_fit b small (spans-range b at n)

-- ---- two bytes of a field

fields-later : (x y : ℕ) (b : List ℕ) (at n : ℕ) → fields_at (x ∷ y ∷ b) (suc at) n ≡ fields_at b at n
unfolding up_from
fields-later x y b at zero = refl
fields-later x y b at (suc n) = ap₂ (λ (f : ℕ) (fs : List ℕ). f ∷ fs) (field_next x y b at) (fields-later x y b (suc at) n)

-- bytes of even number are those of their fields
bytes-again : (b : List ℕ) (n : ℕ) → AreBytes b → length b ≡ 2 * n → bytes_of (fields_at b 0 n) ≡ b
unfolding bytes_of flat_map up_from field_bytes field
bytes-again [] zero small e = refl
bytes-again [] (suc n) small e = absurd (omega arith)
bytes-again (x ∷ []) n small e = absurd (omega arith)
bytes-again (x ∷ y ∷ b) zero small e = absurd (omega arith)
bytes-again (x ∷ y ∷ b) (suc n) small e =
    let lx : x < 256 = small 0 in
    let ly : y < 256 = small 1 in
    let low : (x + 256 * y) % 256 ≡ x = omega arith in
    let whole : (x + 256 * y) / 256 ≡ y = omega arith in
    let high : (x + 256 * y) / 256 % 256 ≡ y = ap (λ (n : ℕ). n % 256) whole ∙ omega arith in
    let rest : bytes_of (fields_at (x ∷ y ∷ b) 1 n) ≡ b = ap bytes_of (fields-later x y b 0 n) ∙ bytes-again b n (λ i. small (suc (suc i))) (omega arith) in
    λ i. low i ∷ high i ∷ rest i

-- so are whole bytes whose fields are known
pub spans-again : (b : List ℕ) {fs : List ℕ} {end : ℕ} → AreBytes b → length b ≡ 2 * end → Spans b 0 fs end → bytes_of fs ≡ b
spans-again b {fs} {end} small e s =
    ap bytes_of s.fields ∙ bytes-again b (length fs) small (e ∙ ap (λ (n : ℕ). 2 * n) (sym s.ends ∙ zero-add (length fs)))

-- ---- sections

-- the fields of a record that is read are those that it is read from
abbrev pub Rewritable : {A : Type 0} → (List ℕ → ℕ → A) → (A → List ℕ) → ℕ → Type 0
Rewritable read fields width = (b : List ℕ) (at : ℕ) → Spans b at (fields (read b at)) (at + width)

module _ {A : Type 0} (read : List ℕ → ℕ → A) (fields : A → List ℕ) (width : ℕ) (ok : Rewritable read fields width) (b : List ℕ) where
  records-again : (at k n : ℕ) → Spans b (at + width * k) (flat_map fields (map (λ i. read b (at + width * i)) (up_from k n))) (at + width * (k + n))
  unfolding flat_map up_from
  records-again at k zero = rw (add-zero k) (spans-none b (at + width * k))
  records-again at k (suc n) =
      let e : at + width * k + width ≡ at + width * suc k = omega arith in
      let i : suc k + n ≡ k + suc n = omega arith in
      spans-append b (ok b (at + width * k))
      (subst (λ (m : ℕ). Spans b m (flat_map fields (map (λ i. read b (at + width * i)) (up_from (suc k) n))) (at + width * (k + suc n))) (sym e)
      (subst (λ (m : ℕ). Spans b (at + width * suc k) (flat_map fields (map (λ i. read b (at + width * i)) (up_from (suc k) n))) (at + width * m)) i
      (records-again at (suc k) n)))

  pub section-again : (at : ℕ) → Spans b at (section_fields fields (section read width b at)) (section_end width b at)
  unfolding section records_at section_fields
  section-again at =
      let e : at + 1 + width * 0 ≡ at + 1 = omega arith in
      let k : 0 + field b at ≡ field b at = zero-add (field b at) in
      let rs : List A = map (λ i. read b (at + 1 + width * i)) (up_from 0 (field b at)) in
      spans-next b (length-map-up_from (λ i. read b (at + 1 + width * i)) 0 (field b at))
      (subst (λ (m : ℕ). Spans b m (flat_map fields rs) (at + 1 + width * field b at)) e
      (subst (λ (m : ℕ). Spans b (at + 1 + width * 0) (flat_map fields rs) (at + 1 + width * m)) k (records-again (at + 1) 0 (field b at))))

summary-rewritable : Rewritable summary_record_at summary_fields summary_width
unfolding up_from
summary-rewritable b at =
    record { ends = refl; fields = λ i. field b at ∷ field b (one i) ∷ field b (two i) ∷ [] }
  where
    one : at + 1 ≡ suc at
    one = add-one at

    two : at + 2 ≡ suc (suc at)
    two = omega arith

-- numbers one after another
next-fields : (at : ℕ) → (at + 1 ≡ suc at) × (at + 2 ≡ suc (suc at)) × (at + 3 ≡ suc (suc (suc at))) × (at + 4 ≡ suc (suc (suc (suc at))))
next-fields at = (add-one at, omega arith, omega arith, omega arith)

pub pattern-rewritable : Rewritable pattern_record_at pattern_fields pattern_width
unfolding up_from
pattern-rewritable b at =
    let n = next-fields at in
    record { ends = refl; fields = λ i. field b at ∷ field b (n.0 i) ∷ field b (n.1 i) ∷ field b (n.2 i) ∷ field b (n.3 i) ∷ [] }

pub old-rewritable : Rewritable old_record_at old_record_fields old_width
unfolding up_from
old-rewritable b at =
    let n = next-fields at in
    record { ends = refl; fields = λ i. field b at ∷ field b (n.0 i) ∷ field b (n.1 i) ∷ field b (n.2 i) ∷ [] }

module _ (b : List ℕ) where
  pub summary-again : Spans b 0 (section_fields summary_fields (section summary_record_at summary_width b 0)) (first_at b)
  summary-again = section-again summary_record_at summary_fields summary_width summary-rewritable b 0

  pub pattern-again : (at : ℕ) → Spans b at (section_fields pattern_fields (section pattern_record_at pattern_width b at)) (section_end pattern_width b at)
  pattern-again at = section-again pattern_record_at pattern_fields pattern_width pattern-rewritable b at

  old-pattern-again : (at : ℕ) → Spans b at (section_fields old_record_fields (section old_record_at old_width b at)) (section_end old_width b at)
  old-pattern-again at = section-again old_record_at old_record_fields old_width old-rewritable b at

  -- ---- a set

  members-again : (on k n : ℕ)
      → Spans b (member_at b on k) (flat_map (section_fields pattern_fields) (map (λ i. section pattern_record_at pattern_width b (member_at b on i)) (up_from k n))) (member_at b on (k + n))
  unfolding flat_map up_from
  members-again on k zero = rw (add-zero k) (spans-none b (member_at b on k))
  members-again on k (suc n) =
      let i : suc k + n ≡ k + suc n = omega arith in
      let rest : List ℕ = flat_map (section_fields pattern_fields) (map (λ i. section pattern_record_at pattern_width b (member_at b on i)) (up_from (suc k) n)) in
      spans-append b (subst (λ (m : ℕ). Spans b (member_at b on k) (section_fields pattern_fields (section pattern_record_at pattern_width b (member_at b on k))) m) (sym (member-next b on k)) (pattern-again (member_at b on k)))
      (subst (λ (m : ℕ). Spans b (member_at b on (suc k)) rest (member_at b on m)) i (members-again on (suc k) n))

  pub set-again : (on : ℕ) → Spans b on (set_fields (set_of b on)) (set_end b on)
  unfolding set_of section_fields
  set-again on =
      let at : ℕ → ℕ = member_at b on in
      let rest : List ℕ = flat_map (section_fields pattern_fields) (map (λ i. section pattern_record_at pattern_width b (at i)) (up_from 0 (field b on))) in
      spans-next b (length-map-up_from (λ i. section pattern_record_at pattern_width b (at i)) 0 (field b on))
      (subst (λ (m : ℕ). Spans b m rest (set_end b on)) (member-first b on)
      (subst (λ (m : ℕ). Spans b (at 0) rest (at m)) (zero-add (field b on)) (members-again on 0 (field b on))))

  -- ---- a case, and an old one

  pub case-again : Spans b 0 (case_fields (case_of b)) (case_end b)
  unfolding case_fields case_of
  case-again = spans-append b summary-again (spans-append b (pattern-again (first_at b)) (set-again (set_at b)))

  pub old-again : Spans b 0 (old_fields (old_case_of b)) (old_end b)
  unfolding old_fields old_case_of
  old-again = spans-append b summary-again (spans-append b (old-pattern-again (first_at b)) (old-pattern-again (second_at b)))

  -- whole bytes, read and written
  pub encode-case : AreBytes b → is_whole_case b ≡ true → encode_case (case_of b) ≡ b
  unfolding encode_case is_whole_case
  encode-case small e =
      spans-again b small (eqb-true (length b) (2 * case_end b) (and_right (leb (length b) max_case_bytes) (eqb (length b) (2 * case_end b)) e)) case-again

  pub old-whole-facts : old_whole b ≡ true → (length b ≤ max_case_bytes) × (length b ≡ 2 * old_end b)
  unfolding old_whole
  old-whole-facts e = (
    leb-true (length b) max_case_bytes (and_left (leb (length b) max_case_bytes) (eqb (length b) (2 * old_end b)) e),
    eqb-true (length b) (2 * old_end b) (and_right (leb (length b) max_case_bytes) (eqb (length b) (2 * old_end b)) e),
  )

  pub encode-old : AreBytes b → old_whole b ≡ true → encode_old_case (old_case_of b) ≡ b
  unfolding encode_old_case
  encode-old small e = spans-again b small (old-whole-facts e).1 old-again

-- ---- one form's fields out of the other's

-- a field of a selection of today is one of the old selection, or the figure 0; a field of an old one is one of today's
new-fit : (P : OldPattern) → FitFields (section_fields old_record_fields P) → FitFields (section_fields pattern_fields (new_pattern P))
unfolding section_fields
new-fit P h f (Memᴰ.head e) = h f (Memᴰ.head (e ∙ length-map P new_record))
new-fit P h f (Memᴰ.tail m) =
    let r = flat-elim pattern_fields (new_pattern P) f m in
    let o = Memᴰ.of_map new_record P r.1 in
    go o.0 o.1 (Memᴰ.append_cases (old_record_fields o.0) (subst (λ (x : PatternRecord). Memᴰ f (pattern_fields x)) (sym o.2) r.2))
  where
    go : (x : OldRecord) → Memᴰ x P → Memᴰ f (old_record_fields x) ⊎ Memᴰ f (0 ∷ []) → f < 65_536
    go x k (inl n) = h f (Memᴰ.tail (flat-intro old_record_fields x P f k n))
    go x k (inr (Memᴰ.head e)) = omega arith
    go x k (inr (Memᴰ.tail m)) = elim m [ ]

old-fit : (P : Pattern) → FitFields (section_fields pattern_fields P) → FitFields (section_fields old_record_fields (old_pattern P))
unfolding section_fields
old-fit P h f (Memᴰ.head e) = h f (Memᴰ.head (e ∙ length-map P old_record))
old-fit P h f (Memᴰ.tail m) =
    let r = flat-elim old_record_fields (old_pattern P) f m in
    let o = Memᴰ.of_map old_record P r.1 in
    h f (Memᴰ.tail (flat-intro pattern_fields o.0 P f o.1 (Memᴰ.append_left (o.0.figure ∷ []) (subst (λ (x : OldRecord). Memᴰ f (old_record_fields x)) (sym o.2) r.2))))

-- the fields of a set of one: the count, and the section
pub one-fields : (Q : Pattern) → set_fields (Q ∷ []) ≡ 1 ∷ section_fields pattern_fields Q
unfolding section_fields flat_map
one-fields Q = ap (λ (fs : List ℕ). 1 ∷ fs) (append-nil (section_fields pattern_fields Q))

module _ (b : List ℕ) (small : AreBytes b) where
  -- the old case's fields with a set of one
  pub upgraded-fit : FitFields (case_fields (one_of (old_case_of b)))
  unfolding case_fields old_case_of
  upgraded-fit =
      let P : OldPattern = section old_record_at old_width b (first_at b) in
      let Q : OldPattern = section old_record_at old_width b (second_at b) in
      fit_append (section_fields summary_fields (section summary_record_at summary_width b 0)) (section_fields pattern_fields (new_pattern P) ++ set_fields (new_pattern Q ∷ []))
      (spans_fit b small (summary-again b))
      (fit_append (section_fields pattern_fields (new_pattern P)) (set_fields (new_pattern Q ∷ [])) (new-fit P (spans_fit b small (old-pattern-again b (first_at b))))
      (subst FitFields (sym (one-fields (new_pattern Q))) (fit_next 1 (section_fields pattern_fields (new_pattern Q)) (omega arith) (new-fit Q (spans_fit b small (old-pattern-again b (second_at b)))))))

  -- a set whose count is 1 is its first selection
  one_set : (on : ℕ) → field b on ≡ 1 → set_of b on ≡ section pattern_record_at pattern_width b (on + 1) ∷ []
  unfolding set_of up_from member_at
  one_set on e = ap (λ (n : ℕ). map (λ i. section pattern_record_at pattern_width b (member_at b on i)) (up_from 0 n)) e

  one_field : length (case_of b).members ≡ 1 → field b (set_at b) ≡ 1
  unfolding case_of set_of
  one_field e = sym (length-map-up_from (λ i. section pattern_record_at pattern_width b (member_at b (set_at b) i)) 0 (field b (set_at b))) ∙ e

  -- a set of one's fields as an old case
  pub downgraded-fit : length (case_of b).members ≡ 1 → FitFields (old_fields (old_of (case_of b)))
  unfolding old_fields case_of
  downgraded-fit e =
      let P : Pattern = section pattern_record_at pattern_width b (first_at b) in
      let Q : Pattern = section pattern_record_at pattern_width b (set_at b + 1) in
      let one : get_or (set_of b (set_at b)) 0 [] ≡ Q = ap (λ (Qs : List Pattern). get_or Qs 0 []) (one_set (set_at b) (one_field e)) in
      fit_append (section_fields summary_fields (section summary_record_at summary_width b 0)) (section_fields old_record_fields (old_pattern P) ++ section_fields old_record_fields (old_pattern (get_or (set_of b (set_at b)) 0 [])))
      (spans_fit b small (summary-again b))
      (fit_append (section_fields old_record_fields (old_pattern P)) (section_fields old_record_fields (old_pattern (get_or (set_of b (set_at b)) 0 []))) (old-fit P (spans_fit b small (pattern-again b (first_at b))))
      (subst (λ (R : Pattern). FitFields (section_fields old_record_fields (old_pattern R))) (sym one) (old-fit Q (spans_fit b small (pattern-again b (set_at b + 1))))))
