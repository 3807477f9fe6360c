-- The sections of a case one after another: the set's members in their order, and the whole case. Assumes nothing.
use Prim.Native.Nat.{ℕ, ◌+◌, ◌*◌, ◌≤◌, ◌<◌}
use mathlib.Core.Path.{◌≡◌, refl, sym, ap, ap₂, ◌∙◌}
use mathlib.Core.List.{List, [], ◌∷◌, ◌++◌, map, flat_map, append-nil, append_assoc, map-append}
use native.Mathlib.Omega.{arith}
use native.Mathlib.Numerals.{add-one}
use lib.ListN.{length, get_or, take, drop, length-map, length-append, take-append-drop}
use lib.Seq.{sets, sets-eq, length-sets, take-suc, take_all}
use Rattle.model.specs.Pattern.{Pattern}
use Rattle.model.specs.Summary.{Summary}
use Rattle.model.specs.Bytes.{Case, field_bytes, bytes_of, summary_fields, pattern_fields, section_fields, set_fields, case_fields, encode_case, written_at_front}
use Rattle.model.specs.Facts.{SummaryFacts}
use Rattle.model.specs.Normal.{Entry, table_of, normal_pattern, normal_summary, normal_case, read_back, as_pattern, as_summary}
use Rattle.model.proofs.Bytes.{length-bytes}
use Rattle.model.proofs.Alike.{by-label-alike}
use Rattle.format.proofs.WriteLaws.{flat_map-append, fields-run, one-run}
use Rattle.normalising.specs.Trees.{outline_fields, normal_fields}

-- ---- the set

-- the fields of members as they are written
abbrev pub member_fields : List Pattern → List ℕ
member_fields Qs = flat_map (section_fields pattern_fields) (map normal_pattern Qs)

abbrev pub normal_set : List Pattern → List ℕ
normal_set Qs = set_fields (map normal_pattern Qs)

-- after the count
set-whole : (Qs : List Pattern) → normal_set Qs ≡ length (map normal_pattern Qs) ∷ member_fields Qs
unfolding section_fields
set-whole Qs = refl

-- how many they are with the count
set-length : (Qs : List Pattern) → length (normal_set Qs) ≡ 1 + length (member_fields Qs)
set-length Qs = ap length (set-whole Qs) ∙ omega arith

pub set-some : (Qs : List Pattern) → 1 ≤ length (normal_set Qs)
set-some Qs = omega (arith, set-length Qs)

more-members : (Qs Rs : List Pattern) → member_fields (Qs ++ Rs) ≡ member_fields Qs ++ member_fields Rs
more-members Qs Rs =
    ap (flat_map (section_fields pattern_fields)) (map-append normal_pattern Qs Rs) ∙ flat_map-append (section_fields pattern_fields) (map normal_pattern Qs) (map normal_pattern Rs)

one-more : (Qs : List Pattern) (i : ℕ) → i < length Qs → member_fields (take (i + 1) Qs) ≡ member_fields (take i Qs) ++ normal_fields pattern_fields (get_or Qs i [])
unfolding flat_map
one-more Qs i h =
    ap (λ (j : ℕ). member_fields (take j Qs)) (add-one i) ∙ ap member_fields (take-suc Qs i [] h) ∙ more-members (take i Qs) (get_or Qs i [] ∷ [])
    ∙ ap (λ (x : List ℕ). member_fields (take i Qs) ++ x) (append-nil (normal_fields pattern_fields (get_or Qs i [])))

-- i members are written, and the next begins at field `to`
pub record Members (Qs : List Pattern) (at : ℕ) (out₀ out : List ℕ) (to i : ℕ) : Type 0 where
  pub turns : i ≤ length Qs
  pub size : length out ≡ length out₀
  pub place : to ≡ at + 1 + length (member_fields (take i Qs))
  pub bytes : out ≡ sets out₀ (2 * (at + 1)) (bytes_of (member_fields (take i Qs)))

module _ {Qs : List Pattern} {at : ℕ} where
  pub members-start : (out : List ℕ) → Members Qs at out out (at + 1) 0
  unfolding flat_map bytes_of
  members-start out = record { turns = omega arith; size = refl; place = omega arith; bytes = refl }

  module _ {out₀ out : List ℕ} {to i : ℕ} (w : Members Qs at out₀ out to i) (h : i < length Qs) where
    -- the next has room
    pub member-fits : {room : ℕ} → 2 * (at + length (normal_set Qs)) ≤ room → 2 * (to + length (normal_fields pattern_fields (get_or Qs i []))) ≤ room
    member-fits room =
        let all : member_fields Qs ≡ member_fields (take (i + 1) Qs) ++ member_fields (drop (i + 1) Qs) =
        ap member_fields (sym (take-append-drop (i + 1) Qs)) ∙ more-members (take (i + 1) Qs) (drop (i + 1) Qs) in
        omega (
          arith,
          w.place,
          set-length Qs,
          ap length all,
          length-append (member_fields (take (i + 1) Qs)) (member_fields (drop (i + 1) Qs)),
          ap length (one-more Qs i h),
          length-append (member_fields (take i Qs)) (normal_fields pattern_fields (get_or Qs i [])),
        )

    pub members-step : {end : ℕ} {after : List ℕ} → end ≡ to + length (normal_fields pattern_fields (get_or Qs i [])) → after ≡ sets out (2 * to) (bytes_of (normal_fields pattern_fields (get_or Qs i [])))
        → Members Qs at out₀ after end (i + 1)
    members-step {end} {after} e b =
        let more = one-more Qs i h in
        record {
          turns = omega arith;
          size = ap length b ∙ length-sets out (2 * to) (bytes_of (normal_fields pattern_fields (get_or Qs i []))) ∙ w.size;
          place = omega (arith, e, w.place, ap length more, length-append (member_fields (take i Qs)) (normal_fields pattern_fields (get_or Qs i [])));
          bytes = fields-run out₀ (at + 1) (member_fields (take i Qs)) (normal_fields pattern_fields (get_or Qs i [])) w.place w.bytes b ∙ ap (λ (fs : List ℕ). sets out₀ (2 * (at + 1)) (bytes_of fs)) (sym more);
        }

  pub members-end : (out₀ : List ℕ) {counting out : List ℕ} {to i n : ℕ} → n ≡ length Qs → counting ≡ sets out₀ (2 * at) (field_bytes n) → Members Qs at counting out to i → n ≤ i
      → (to ≡ at + length (normal_set Qs)) × (out ≡ sets out₀ (2 * at) (bytes_of (normal_set Qs)))
  members-end out₀ {counting} {out} {to} {i} {n} e put w h =
      let all : take i Qs ≡ Qs = take_all i Qs (omega arith) in
      let m : n ≡ length (map normal_pattern Qs) = e ∙ sym (length-map Qs normal_pattern) in (
        omega (arith, w.place, ap (λ (x : List Pattern). length (member_fields x)) all, set-length Qs),
        fields-run out₀ at (n ∷ []) (member_fields Qs) refl (one-run out₀ at n put) (w.bytes ∙ ap (λ (x : List Pattern). sets counting (2 * (at + 1)) (bytes_of (member_fields x))) all)
            ∙ ap (λ (k : ℕ). sets out₀ (2 * at) (bytes_of (k ∷ member_fields Qs))) m ∙ ap (λ (fs : List ℕ). sets out₀ (2 * at) (bytes_of fs)) (sym (set-whole Qs)),
      )

-- ---- the case

-- an outline's fields as it is written
pub outline-written : (S : Summary) → SummaryFacts S → normal_fields outline_fields (as_pattern S) ≡ section_fields summary_fields (normal_summary S)
unfolding normal_summary normal_pattern section_fields flat_map
outline-written S f =
    let Q : Pattern = normal_pattern (as_pattern S) in
    let alike : as_summary Q ≡ normal_summary S = ap (λ (es : List Entry). as_summary (table_of es)) (sym (by-label-alike S f)) in
    ap₂ (λ (n : ℕ) (fs : List ℕ). n ∷ fs) (sym (length-map Q read_back)) (narrow Q) ∙ ap (section_fields summary_fields) alike
  where
    narrow : (Q : Pattern) → flat_map outline_fields Q ≡ flat_map summary_fields (as_summary Q)
    narrow [] = refl
    narrow (r ∷ Q) = ap (λ (fs : List ℕ). summary_fields (read_back r) ++ fs) (narrow Q)

module _ (c : Case) (f : SummaryFacts c.summary) where
  abbrev one : List ℕ
  one = normal_fields outline_fields (as_pattern c.summary)

  abbrev two : List ℕ
  two = normal_fields pattern_fields c.first

  abbrev three : List ℕ
  three = normal_set c.members

  all-fields : case_fields (normal_case c) ≡ (one ++ two) ++ three
  unfolding case_fields normal_case
  all-fields = ap (λ (x : List ℕ). x ++ (two ++ three)) (sym (outline-written c.summary f)) ∙ sym (append_assoc one two three)

  pub case-size : length (encode_case (normal_case c)) ≡ 2 * (length one + length two + length three)
  unfolding encode_case
  case-size =
      length-bytes (case_fields (normal_case c)) ∙ ap (λ (fs : List ℕ). 2 * length fs) all-fields
      ∙ omega (arith, length-append (one ++ two) three, length-append one two)

  pub case-written : (out : List ℕ) → length (encode_case (normal_case c)) ≤ length out → {first set end : ℕ} {o₁ o₂ o₃ : List ℕ}
      → first ≡ 0 + length one → o₁ ≡ sets out 0 (bytes_of one) → set ≡ first + length two → o₂ ≡ sets o₁ (2 * first) (bytes_of two)
      → end ≡ set + length three → o₃ ≡ sets o₂ (2 * set) (bytes_of three)
      → (2 * end ≡ length (encode_case (normal_case c))) × (o₃ ≡ written_at_front (encode_case (normal_case c)) out)
  unfolding encode_case written_at_front
  case-written out room {first} {set} {end} {o₁} {o₂} {o₃} f₁ p₁ f₂ p₂ f₃ p₃ =
      let n = case-size in
      let a = fields-run out 0 one two f₁ p₁ p₂ in
      let b = fields-run out 0 (one ++ two) three (omega (arith, length-append one two)) a p₃ in
      let e : 0 + length (encode_case (normal_case c)) ≡ length (encode_case (normal_case c)) = omega arith in (
        omega arith,
        b ∙ ap (λ (fs : List ℕ). sets out 0 (bytes_of fs)) (sym all-fields) ∙ sets-eq (encode_case (normal_case c)) out 0 (omega arith)
            ∙ ap (λ (k : ℕ). encode_case (normal_case c) ++ drop k out) e,
      )
