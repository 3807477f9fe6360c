-- The set of one that a pattern standing alone is, as bytes. Assumes nothing.
use Prim.Native.Nat.{ℕ, zero, suc, ◌+◌, ◌*◌, ◌≤◌, ◌<◌}
use mathlib.Core.Path.{◌≡◌, sym, ap, ap₂, ◌∙◌, subst}
use mathlib.Core.Logic.{◌⊎◌, inl, inr}
use mathlib.Core.List.Memᴰ
use mathlib.Core.List.{List, [], ◌∷◌, map, flat_map, Memᴰ}
use native.Mathlib.Omega.{arith}
use lib.ListN.{length, replicate, length-replicate}
use lib.Seq.{sets, length-sets}
use Rattle.model.specs.Lists.{up_from}
use Rattle.model.specs.Limits.{pattern_width}
use Rattle.model.specs.Pattern.{Pattern}
use Rattle.model.specs.Bytes.{field, field_bytes, bytes_of, fields_at, member_at, set_of, pattern_record_at, pattern_fields, section_fields, set_fields, WholeSection, WholeSet}
use Rattle.model.proofs.Bytes.{FitFields, Holds, holds-right, pattern-readable, length-section}
use Rattle.model.proofs.WriteBack.{one-fields}
use Rattle.format.specs.Given.{pattern_at, PatternGiven}
use Rattle.format.proofs.SectionLaws.{pattern-count}
use Rattle.format.proofs.WriteLaws.{sets-append, fields-stored}
use Rattle.model.proofs.StruckBack.{section-fits}
use Rattle.striking.specs.Present.{StandsAlone}
use Rattle.striking.proofs.SectionBytes.{pattern-held, pattern-given, section-fields}

one-fits : (P : Pattern) → FitFields (section_fields pattern_fields P) → FitFields (set_fields (P ∷ []))
one-fits P h = subst FitFields (sym (one-fields P)) (λ f m. go f (Memᴰ.cases_cons m))
  where
    go : (f : ℕ) → (f ≡ 1) ⊎ Memᴰ f (section_fields pattern_fields P) → f < 65_536
    go f (inl e) = omega arith
    go f (inr m) = h f m

-- a section by itself ends in its bytes, and has at most 81 fields
pub section-room : (b : List ℕ) → PatternGiven b 0 → {n : ℕ} → n ≡ length (pattern_at b 0) → (2 * (1 + 5 * n) ≤ length b) × (n ≤ 16)
section-room b G e =
    let r = G.whole.records in
    let k : length (pattern_at b 0) ≡ field b 0 = pattern-count b 0 in
    let f = G.few in
    (omega arith, omega arith)

-- its count, then the pattern's section
module _ (b : List ℕ) (A : StandsAlone b) {n : ℕ} {w₁ w₂ : List ℕ} (e : n ≡ length (pattern_at b 0)) (s : w₁ ≡ sets (replicate 164 0) 0 (field_bytes 1))
    (t : w₂ ≡ sets w₁ 2 (bytes_of (fields_at b 0 (1 + 5 * n)))) where
  abbrev P : Pattern
  P = pattern_at b 0

  abbrev G : PatternGiven b 0
  G = A.given

  set-written : w₂ ≡ sets (replicate 164 0) 0 (bytes_of (set_fields (P ∷ [])))
  unfolding bytes_of flat_map field_bytes
  set-written =
      t ∙ ap₂ (λ (o gs : List ℕ). sets o 2 (bytes_of gs)) s (ap (λ (k : ℕ). fields_at b 0 (1 + 5 * k)) e ∙ sym (section-fields b 0))
      ∙ sym (sets-append (replicate 164 0) 0 (field_bytes 1) (bytes_of (section_fields pattern_fields P)))
      ∙ ap (λ (gs : List ℕ). sets (replicate 164 0) 0 (bytes_of gs)) (sym (one-fields P))

  long : length w₂ ≡ 164
  long = ap length set-written ∙ length-sets (replicate 164 0) 0 (bytes_of (set_fields (P ∷ []))) ∙ length-replicate {A = ℕ} 164 0

  holds-set : Holds w₂ 0 (1 ∷ section_fields pattern_fields P)
  holds-set =
      let size : length {A = ℕ} (replicate 164 0) ≡ 164 = length-replicate {A = ℕ} 164 0 in
      let k : length (set_fields (P ∷ [])) ≡ suc (1 + pattern_width * length P) = ap length (one-fields P) ∙ ap suc (length-section pattern_record_at pattern_fields pattern_width pattern-readable P) in
      let few = G.few in
      subst (Holds w₂ 0) (one-fields P)
      (subst (λ (o : List ℕ). Holds o 0 (set_fields (P ∷ []))) (sym set-written)
      (fields-stored (replicate 164 0) 0 (set_fields (P ∷ [])) (one-fits P (section-fits P few A.fits)) (omega arith)))

  holds-member : Holds w₂ 1 (section_fields pattern_fields P)
  holds-member = holds-right w₂ 0 (1 ∷ []) (section_fields pattern_fields P) holds-set

  one : field w₂ 0 ≡ 1
  one = holds-set 0 (omega arith)

  member-given : PatternGiven w₂ 1
  member-given = pattern-given w₂ 1 P holds-member G.tree G.few (let f = G.few in let l = long in omega arith)

  only : (F : ℕ → Type 0) → F 1 → (i : ℕ) → i < 1 → F (member_at w₂ 0 i)
  unfolding member_at
  only F a zero h = a
  only F a (suc i) h = absurd (omega arith)

  pub whole-one : WholeSet w₂ 0
  whole-one = record { count = (let l = long in omega arith); sections = λ i h. only (WholeSection pattern_width w₂) member-given.whole i (subst (λ (k : ℕ). i < k) one h) }

  pub set-one : set_of w₂ 0 ≡ P ∷ []
  unfolding set_of up_from member_at
  set-one = ap (λ (k : ℕ). map (λ i. pattern_at w₂ (member_at w₂ 0 i)) (up_from 0 k)) one ∙ ap (λ (R : Pattern). R ∷ []) (pattern-held w₂ 1 P holds-member)
