-- A pattern that stands alone, and the one that is left of it without a leaf, stored by itself. Assumes nothing.
use Prim.Native.Nat.{ℕ, ◌+◌, ◌*◌, ◌≤◌, ◌<◌}
use mathlib.Core.Path.{◌≡◌, sym, ap, ◌∙◌, subst}
use mathlib.Core.Bool.{true}
use mathlib.Core.List.{List}
use native.Mathlib.Omega.{arith}
use lib.ListN.{length, get_or, replicate}
use lib.Seq.{sets, length-sets}
use Rattle.model.specs.Limits.{max_pattern, pattern_width}
use Rattle.model.specs.Pattern.{Pattern, no_pattern_record}
use Rattle.model.specs.Bytes.{pattern_record_at, pattern_fields, section_fields, encode_pattern}
use Rattle.model.specs.Facts.{RecordFits}
use Rattle.model.specs.Striking.{without, may_go}
use Rattle.model.proofs.Bytes.{Holds, pattern-readable, length-section}
use Rattle.model.proofs.Removing.{length_without, without-tree}
use Rattle.model.proofs.StruckBack.{section-fits}
use Rattle.format.specs.Given.{pattern_at}
use Rattle.striking.specs.Present.{StandsAlone}
use Rattle.format.proofs.WriteLaws.{fields-stored}
use Rattle.striking.proofs.SectionBytes.{without-fits, pattern-held, pattern-given}

stored-held : (Q : Pattern) → length Q ≤ max_pattern → ((i : ℕ) → i < length Q → RecordFits (get_or Q i no_pattern_record)) → {b : List ℕ} → b ≡ sets (replicate 162 0) 0 (encode_pattern Q)
    → Holds b 0 (section_fields pattern_fields Q)
unfolding encode_pattern
stored-held Q few fit {b} e =
    let l : length (section_fields pattern_fields Q) ≡ 1 + 5 * length Q = length-section pattern_record_at pattern_fields pattern_width pattern-readable Q in
    subst (λ (x : List ℕ). Holds x 0 (section_fields pattern_fields Q)) (sym e) (fields-stored (replicate 162 0) 0 (section_fields pattern_fields Q) (section-fits Q few fit) (omega arith))

module _ (b : List ℕ) (A : StandsAlone b) (q : ℕ) (inside : q < length (pattern_at b 0)) (may : may_go (pattern_at b 0) q ≡ true) {c : List ℕ}
    (w : c ≡ sets (replicate 162 0) 0 (encode_pattern (without (pattern_at b 0) q))) where
  abbrev Q : Pattern
  Q = without (pattern_at b 0) q

  few : length Q ≤ max_pattern
  few = let s = length_without (pattern_at b 0) q inside in let n = A.given.few in omega arith

  fits : (i : ℕ) → i < length Q → RecordFits (get_or Q i no_pattern_record)
  fits = without-fits (pattern_at b 0) q inside A.fits

  there : Holds c 0 (section_fields pattern_fields Q)
  there = stored-held Q few fits w

  pub left-without : pattern_at c 0 ≡ Q
  left-without = pattern-held c 0 Q there

  pub left-alone : StandsAlone c
  left-alone =
      let l : length c ≡ 162 = ap length w ∙ length-sets (replicate 162 0) 0 (encode_pattern Q) in
      record {
        given = pattern-given c 0 Q there (without-tree (pattern_at b 0) q inside may A.given.tree) few (let n = few in omega arith);
        fits = subst (λ (P : Pattern). (i : ℕ) → i < length P → RecordFits (get_or P i no_pattern_record)) (sym left-without) fits;
      }
