-- The two forms written one from the other: what is written are the fields of the other form, so the bytes are its bytes; how many they
-- are, and that they have room. Assumes nothing.
use Prim.Native.Nat.{ℕ, ◌+◌, ◌*◌, ◌≤◌, ◌<◌}
use mathlib.Core.Path.{◌≡◌, sym, ap, ap₂, ◌∙◌, subst}
use mathlib.Core.Bool.{true}
use mathlib.Core.List.{List, [], ◌∷◌, ◌++◌, append_assoc}
use native.Mathlib.Omega.{arith}
use native.Mathlib.Nat.{zero-add}
use lib.ListN.{length, get_or, length-append}
use lib.Seq.{sets}
use Rattle.model.specs.Limits.{summary_width, pattern_width}
use Rattle.model.specs.Pattern.{Pattern}
use Rattle.model.specs.Bytes.{field, field_bytes, bytes_of, fields_at, section, summary_record_at, summary_fields, pattern_fields, section_fields, first_at, set_at, set_of, member_at, case_of, case_fields, encode_case, is_whole_case, WholeSection}
use Rattle.model.specs.OldForm.{old_width, old_record_at, old_record_fields, new_pattern, old_pattern, second_at, old_case_of, old_fields, encode_old_case, one_of, old_of, old_whole}
use Rattle.model.specs.Moving.{goes_back, upgraded, downgraded}
use Rattle.model.proofs.Bytes.{length-bytes, whole-case, member-first}
use Rattle.model.proofs.WriteBack.{summary-again, old-whole-facts, one-fields}
use Rattle.model.proofs.Moving.{goes_back_lem}
use Rattle.format.specs.Given.{pattern_at}
use Rattle.format.proofs.SectionLaws.{set-member, member-section}
use Rattle.format.proofs.WriteLaws.{Written, Out, written-put, written-run, written_out, copied-front}
use Rattle.moving.specs.Forms.{rewritten}
use Rattle.moving.proofs.RowLaws.{wider-fields, narrower-fields, rewritten-length}

-- a pattern's fields in the other form
abbrev pub widened : List ℕ → ℕ → List ℕ
widened b at = rewritten old_width pattern_width b at

abbrev pub narrowed : List ℕ → ℕ → List ℕ
narrowed b at = rewritten pattern_width old_width b at

widened-length : (b : List ℕ) (at : ℕ) → length (widened b at) ≡ 1 + 5 * field b at
widened-length b at = rewritten-length old_width pattern_width b at (omega arith)

narrowed-length : (b : List ℕ) (at : ℕ) → length (narrowed b at) ≡ 1 + 4 * field b at
narrowed-length b at = rewritten-length pattern_width old_width b at (omega arith)

-- the summary stands the same in both forms
summary-fields : (b : List ℕ) → section_fields summary_fields (section summary_record_at summary_width b 0) ≡ fields_at b 0 (first_at b)
summary-fields b =
    let s = summary-again b in
    s.fields ∙ ap (fields_at b 0) (sym (zero-add (length (section_fields summary_fields (section summary_record_at summary_width b 0)))) ∙ s.ends)

summary-length : (b : List ℕ) → length (fields_at b 0 (first_at b)) ≡ first_at b
summary-length b =
    let s = summary-again b in
    ap length (sym (summary-fields b)) ∙ sym (zero-add (length (section_fields summary_fields (section summary_record_at summary_width b 0)))) ∙ s.ends

-- ---- old to new

-- the sections are whole, and there is room for each
pub record RoomForNew (b : List ℕ) (first second bytes : ℕ) : Type 0 where
  pub summary : 2 * first ≤ length b
  pub one : WholeSection old_width b first
  pub two : WholeSection old_width b second
  pub room : 2 * (first + length (widened b first) + 1 + length (widened b second)) ≤ bytes
  pub few : first + length (widened b first) + 1 + length (widened b second) ≤ 65_536

module _ (b : List ℕ) (whole : old_whole b ≡ true) {first second : ℕ} (at : first ≡ first_at b) (next : second ≡ second_at b) where
  new-fields : case_fields (one_of (old_case_of b)) ≡ ((fields_at b 0 first ++ widened b first) ++ (1 ∷ [])) ++ widened b second
  unfolding case_fields old_case_of
  new-fields =
      let front : List ℕ = fields_at b 0 first in
      ap₂ (λ (s q : List ℕ). s ++ (section_fields pattern_fields (new_pattern (section old_record_at old_width b (first_at b))) ++ q)) (summary-fields b) (one-fields (new_pattern (section old_record_at old_width b (second_at b))))
      ∙ ap₂ (λ (p q : List ℕ). fields_at b 0 (first_at b) ++ (p ++ (1 ∷ q))) (sym (wider-fields b (first_at b))) (sym (wider-fields b (second_at b)))
      ∙ ap₂ (λ (x y : ℕ). fields_at b 0 x ++ (widened b x ++ (1 ∷ widened b y))) (sym at) (sym next)
      ∙ sym (append_assoc front (widened b first) (1 ∷ widened b second)) ∙ sym (append_assoc (front ++ widened b first) (1 ∷ []) (widened b second))

  new-size : length (upgraded b) ≡ 2 * (first + length (widened b first) + 1 + length (widened b second))
  unfolding upgraded encode_case
  new-size =
      let front : List ℕ = fields_at b 0 first in
      let f : length front ≡ first = ap (λ (k : ℕ). length (fields_at b 0 k)) at ∙ summary-length b ∙ sym at in
      let g = length-append front (widened b first) in
      let h = length-append (front ++ widened b first) (1 ∷ []) in
      let i = length-append ((front ++ widened b first) ++ (1 ∷ [])) (widened b second) in
      length-bytes (case_fields (one_of (old_case_of b))) ∙ ap (λ (fs : List ℕ). 2 * length fs) new-fields ∙ omega arith

  pub new-room : (bytes : ℕ) → length (upgraded b) ≤ bytes → RoomForNew b first second bytes
  new-room bytes h =
      let size = new-size in
      let f = (old-whole-facts b whole).1 in
      let small = (old-whole-facts b whole).0 in
      let p = widened-length b first in
      let q = widened-length b second in
      let x : field b first ≡ field b (first_at b) = ap (field b) at in
      let y : field b second ≡ field b (second_at b) = ap (field b) next in
      record {
        summary = omega arith;
        one = subst (WholeSection old_width b) (sym at) (record { count = omega arith; records = omega arith });
        two = subst (WholeSection old_width b) (sym next) (record { count = omega arith; records = omega arith });
        room = omega arith;
        few = omega arith;
      }

  pub new-written : (b₀ : List ℕ) {b₁ b₂ b₃ b₄ : List ℕ} {set end : ℕ} → length (upgraded b) ≤ length b₀ → b₁ ≡ sets b₀ 0 (bytes_of (fields_at b 0 first))
      → set ≡ first + length (widened b first) → b₂ ≡ sets b₁ (2 * first) (bytes_of (widened b first)) → b₃ ≡ sets b₂ (2 * set) (field_bytes 1)
      → end ≡ set + 1 + length (widened b second) → b₄ ≡ sets b₃ (2 * (set + 1)) (bytes_of (widened b second)) → Out (upgraded b) b₀ b₄ (2 * end)
  unfolding upgraded encode_case
  new-written b₀ {b₁} {b₂} {b₃} {b₄} {set} {end} room e s f g t h =
      let size = new-size in
      let one : Written (fields_at b 0 first ++ widened b first) b₀ b₂ set =
      subst (Written (fields_at b 0 first ++ widened b first) b₀ b₂) (sym s) (written-run (widened b first) (copied-front b 0 first (omega arith) e) (omega arith) f) in
      let two : Written (((fields_at b 0 first ++ widened b first) ++ (1 ∷ [])) ++ widened b second) b₀ b₄ end =
      subst (Written (((fields_at b 0 first ++ widened b first) ++ (1 ∷ [])) ++ widened b second) b₀ b₄) (sym t)
      (written-run (widened b second) (written-put 1 one (omega arith) g) (omega arith) h) in
      written_out two (upgraded b) (ap bytes_of (sym new-fields))

-- ---- new to old

pub record RoomForOld (b : List ℕ) (first after bytes : ℕ) : Type 0 where
  pub summary : 2 * first ≤ length b
  pub one : WholeSection pattern_width b first
  pub two : WholeSection pattern_width b after
  pub room : 2 * (first + length (narrowed b first) + length (narrowed b after)) ≤ bytes
  pub few : first + length (narrowed b first) + length (narrowed b after) ≤ 65_536

module _ (b : List ℕ) (whole : is_whole_case b ≡ true) (back : goes_back (case_of b) ≡ true) {first set : ℕ} (at : first ≡ first_at b) (on : set ≡ set_at b) where
  -- the set's only member stands after its count
  some : 0 < length (set_of b (set_at b))
  unfolding case_of
  some = let o = (goes_back_lem (case_of b) back).one in omega arith

  place : set + 1 ≡ member_at b (set_at b) 0
  place = ap (λ (k : ℕ). k + 1) on ∙ sym (member-first b (set_at b))

  second-pattern : get_or (case_of b).members 0 [] ≡ pattern_at b (set + 1)
  unfolding case_of
  second-pattern = set-member b (set_at b) 0 some ∙ ap (pattern_at b) (sym place)

  old-fields : old_fields (old_of (case_of b)) ≡ (fields_at b 0 first ++ narrowed b first) ++ narrowed b (set + 1)
  unfolding old_fields case_of
  old-fields =
      ap₂ (λ (s : List ℕ) (Q : Pattern). s ++ (section_fields old_record_fields (old_pattern (pattern_at b (first_at b))) ++ section_fields old_record_fields (old_pattern Q))) (summary-fields b) second-pattern
      ∙ ap₂ (λ (p q : List ℕ). fields_at b 0 (first_at b) ++ (p ++ q)) (sym (narrower-fields b (first_at b))) (sym (narrower-fields b (set + 1)))
      ∙ ap (λ (k : ℕ). fields_at b 0 k ++ (narrowed b k ++ narrowed b (set + 1))) (sym at)
      ∙ sym (append_assoc (fields_at b 0 first) (narrowed b first) (narrowed b (set + 1)))

  old-size : length (downgraded b) ≡ 2 * (first + length (narrowed b first) + length (narrowed b (set + 1)))
  unfolding downgraded encode_old_case
  old-size =
      let front : List ℕ = fields_at b 0 first in
      let f : length front ≡ first = ap (λ (k : ℕ). length (fields_at b 0 k)) at ∙ summary-length b ∙ sym at in
      let g = length-append front (narrowed b first) in
      let h = length-append (front ++ narrowed b first) (narrowed b (set + 1)) in
      length-bytes (old_fields (old_of (case_of b))) ∙ ap (λ (fs : List ℕ). 2 * length fs) old-fields ∙ omega arith

  pub old-room : (bytes : ℕ) → length (downgraded b) ≤ bytes → RoomForOld b first (set + 1) bytes
  old-room bytes h =
      let size = old-size in
      let w = (whole-case b).0 whole in
      let one : WholeSection pattern_width b first = subst (WholeSection pattern_width b) (sym at) w.first in
      let two : WholeSection pattern_width b (set + 1) = member-section b (set_at b) 0 w.members some place in
      let small = w.size in
      let p = narrowed-length b first in
      let q = narrowed-length b (set + 1) in
      record {
        summary = omega (arith, one.count);
        one = one;
        two = two;
        room = omega arith;
        few = omega (arith, one.records, two.records);
      }

  pub old-written : (b₀ : List ℕ) {b₁ b₂ b₃ : List ℕ} {second end : ℕ} → length (downgraded b) ≤ length b₀ → b₁ ≡ sets b₀ 0 (bytes_of (fields_at b 0 first))
      → second ≡ first + length (narrowed b first) → b₂ ≡ sets b₁ (2 * first) (bytes_of (narrowed b first))
      → end ≡ second + length (narrowed b (set + 1)) → b₃ ≡ sets b₂ (2 * second) (bytes_of (narrowed b (set + 1))) → Out (downgraded b) b₀ b₃ (2 * end)
  unfolding downgraded encode_old_case
  old-written b₀ {b₁} {b₂} {b₃} {second} {end} room e s f t g =
      let size = old-size in
      let one : Written (fields_at b 0 first ++ narrowed b first) b₀ b₂ second =
      subst (Written (fields_at b 0 first ++ narrowed b first) b₀ b₂) (sym s) (written-run (narrowed b first) (copied-front b 0 first (omega arith) e) (omega arith) f) in
      let two : Written ((fields_at b 0 first ++ narrowed b first) ++ narrowed b (set + 1)) b₀ b₃ end =
      subst (Written ((fields_at b 0 first ++ narrowed b first) ++ narrowed b (set + 1)) b₀ b₃) (sym t) (written-run (narrowed b (set + 1)) one (omega arith) g) in
      written_out two (downgraded b) (ap bytes_of (sym old-fields))
