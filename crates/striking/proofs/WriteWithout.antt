-- Writing a section without a node: after i turns the first i records stand from the field after the count on. Assumes nothing.
use Prim.Native.Nat.{ℕ, ◌+◌, ◌-◌, ◌*◌, ◌≤◌, ◌<◌}
use mathlib.Core.Path.{◌≡◌, refl, sym, ap, ◌∙◌, subst}
use mathlib.Core.List.{List, [], ◌∷◌, ◌++◌, flat_map}
use native.Mathlib.Omega.{arith}
use native.Mathlib.Numerals.{add-one}
use lib.ListN.{length, get_or, take}
use lib.Seq.{sets, length-sets, length-take-le, take-suc, take-length}
use Rattle.model.specs.Limits.{pattern_width}
use Rattle.model.specs.Pattern.{PatternRecord, Pattern, no_pattern_record}
use Rattle.model.specs.Bytes.{field_bytes, bytes_of, pattern_record_at, pattern_fields, section_fields, encode_pattern}
use Rattle.model.specs.Striking.{raised, relinked, without}
use Rattle.model.proofs.Bytes.{pattern-readable, length-records}
use Rattle.model.proofs.Removing.{raised-inside, length_without, record-without}
use Rattle.format.proofs.WriteLaws.{flat_map-append, fields-run, one-run}

pub record Writing (Q : Pattern) (to : ℕ) (out₀ out : List ℕ) (i : ℕ) : Type 0 where
  pub turns : i ≤ length Q
  pub size : length out ≡ length out₀
  pub bytes : out ≡ sets out₀ (2 * (to + 1)) (bytes_of (flat_map pattern_fields (take i Q)))

module _ {Q : Pattern} {to : ℕ} {out₀ : List ℕ} where
  pub writing_start : Writing Q to out₀ out₀ 0
  unfolding bytes_of flat_map
  writing_start = record { turns = omega arith; size = refl; bytes = refl }

  pub writing_step : {out out' : List ℕ} {i : ℕ} {r : PatternRecord} → Writing Q to out₀ out i → i < length Q → get_or Q i no_pattern_record ≡ r
      → out' ≡ sets out (2 * (to + 1 + 5 * i)) (bytes_of (pattern_fields r)) → Writing Q to out₀ out' (i + 1)
  unfolding flat_map
  writing_step {out} {out'} {i} {r} w h e s =
      let fs : List ℕ = flat_map pattern_fields (take i Q) in
      let n : length fs ≡ 5 * length (take i Q) = length-records pattern_record_at pattern_fields pattern_width pattern-readable (take i Q) in
      let k : length (take i Q) ≡ i = length-take-le i Q (omega arith) in
      let there : to + 1 + 5 * i ≡ to + 1 + length fs = omega arith in
      let more : flat_map pattern_fields (take (i + 1) Q) ≡ fs ++ pattern_fields r =
      ap (λ (j : ℕ). flat_map pattern_fields (take j Q)) (add-one i) ∙ ap (flat_map pattern_fields) (take-suc Q i no_pattern_record h ∙ ap (λ (x : PatternRecord). take i Q ++ (x ∷ [])) e)
      ∙ flat_map-append pattern_fields (take i Q) (r ∷ []) in
      record {
        turns = omega arith;
        size = ap length s ∙ length-sets out (2 * (to + 1 + 5 * i)) (bytes_of (pattern_fields r)) ∙ w.size;
        bytes =
            fields-run out₀ (to + 1) fs (pattern_fields r) there w.bytes s ∙ ap (λ (l : List ℕ). sets out₀ (2 * (to + 1)) (bytes_of l)) (sym more);
      }

-- with the count, which is put before them
pub writing-end : (Q : Pattern) (to : ℕ) (out₀ : List ℕ) {m : ℕ} {out₁ out : List ℕ} {i : ℕ} → m ≡ length Q → out₁ ≡ sets out₀ (2 * to) (field_bytes m) → Writing Q to out₁ out i → length Q ≤ i → out ≡ sets out₀ (2 * to) (encode_pattern Q)
unfolding encode_pattern section_fields
writing-end Q to out₀ {m} {out₁} {out} {i} e s w h =
    let done : i ≡ length Q = let t : i ≤ length Q = w.turns in omega arith in
    fields-run out₀ to (length Q ∷ []) (flat_map pattern_fields Q) refl (one-run out₀ to (length Q) (s ∙ ap (λ (n : ℕ). sets out₀ (2 * to) (field_bytes n)) e))
    (w.bytes ∙ ap (λ (P : Pattern). sets out₁ (2 * (to + 1)) (bytes_of (flat_map pattern_fields P))) (ap (λ (j : ℕ). take j Q) done ∙ take-length Q))

-- one record fewer
pub count-without : (P : Pattern) (q : ℕ) {n m : ℕ} → q < length P → n ≡ length P → m ≡ n - 1 → m ≡ length (without P q)
count-without P q h e f = let l = length_without P q h in omega arith

-- record i of what is left
pub left-inside : (P : Pattern) (q i : ℕ) → q < length P → i < length (without P q) → raised q i < length P
left-inside P q i h k = subst (λ (n : ℕ). raised q i < n) (length_without P q h) (raised-inside q i (length (without P q)) k)

pub left-record : (P : Pattern) (q i : ℕ) {j : ℕ} → q < length P → i < length (without P q) → j ≡ raised q i → get_or (without P q) i no_pattern_record ≡ relinked q (get_or P j no_pattern_record)
left-record P q i h k e = record-without P q h i k ∙ ap (λ (n : ℕ). relinked q (get_or P n no_pattern_record)) (sym e)
