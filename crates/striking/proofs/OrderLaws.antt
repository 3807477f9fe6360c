-- A section that is copied: alone, it is read back where it stands; to the front of an answer buffer, it is the pattern's encoding.
-- Assumes nothing.
use Prim.Native.Nat.{ℕ, ◌+◌, ◌*◌, ◌≤◌}
use mathlib.Core.Path.{◌≡◌, sym, ap, ◌∙◌, subst}
use mathlib.Core.List.{List}
use native.Mathlib.Omega.{arith}
use lib.ListN.{length}
use lib.Seq.{sets, length-sets}
use Rattle.model.specs.Limits.{pattern_width}
use Rattle.model.specs.Pattern.{Pattern}
use Rattle.model.specs.Bytes.{bytes_of, fields_at, pattern_record_at, pattern_fields, section_fields, encode_pattern, AreBytes}
use Rattle.model.proofs.Bytes.{Holds, pattern-readable, length-section}
use Rattle.model.proofs.WriteBack.{spans_fit}
use Rattle.format.specs.Given.{pattern_at, PatternGiven}
use Rattle.format.proofs.SectionLaws.{pattern-count}
use Rattle.format.proofs.WriteLaws.{Out, copied-front, written_out, fields-stored}
use Rattle.model.proofs.WriteBack.{pattern-again}
use Rattle.striking.proofs.SectionBytes.{section-fields, pattern-held, pattern-given}

-- of the pattern at field `at`, which has k nodes
module _ (b : List ℕ) (at : ℕ) {k : ℕ} (size : k ≡ length (pattern_at b at)) where
  abbrev P : Pattern
  P = pattern_at b at

  -- its fields, from its count on
  abbrev own : List ℕ
  own = fields_at b at (1 + 5 * k)

  same-fields : own ≡ section_fields pattern_fields P
  same-fields = ap (λ (n : ℕ). fields_at b at (1 + 5 * n)) size ∙ sym (section-fields b at)

  pub section-inside : PatternGiven b at → 2 * (at + (1 + 5 * k)) ≤ length b
  section-inside G = let r = G.whole.records in let c = pattern-count b at in omega arith

  -- stored from field `to` on
  pub copied-held : AreBytes b → (out : List ℕ) (to : ℕ) → 2 * (to + (1 + 5 * k)) ≤ length out → Holds (sets out (2 * to) (bytes_of own)) to (section_fields pattern_fields P)
  copied-held small out to room =
      let l : length (section_fields pattern_fields P) ≡ 1 + 5 * length P = length-section pattern_record_at pattern_fields pattern_width pattern-readable P in
      subst (λ (fs : List ℕ). Holds (sets out (2 * to) (bytes_of fs)) to (section_fields pattern_fields P)) (sym same-fields)
      (fields-stored out to (section_fields pattern_fields P) (spans_fit b small (pattern-again b at)) (omega arith))

  module _ (G : PatternGiven b at) where
    -- alone, in bytes that are enough for 16 nodes
    pub copied-alone : AreBytes b → (out : List ℕ) {r : List ℕ} → 162 ≤ length out → r ≡ sets out 0 (bytes_of own) → PatternGiven r 0 × (pattern_at r 0 ≡ P)
    copied-alone small out {r} room e =
        let few = G.few in
        let held : Holds r 0 (section_fields pattern_fields P) = subst (λ (x : List ℕ). Holds x 0 (section_fields pattern_fields P)) (sym e) (copied-held small out 0 (omega arith)) in
        let l : length r ≡ length out = ap length e ∙ length-sets out 0 (bytes_of own) in
        (pattern-given r 0 P held G.tree G.few (omega arith), pattern-held r 0 P held)

    -- at the front
    pub copied-out : (before : List ℕ) {after : List ℕ} → 162 ≤ length before → after ≡ sets before 0 (bytes_of own) → Out (encode_pattern P) before after (2 * (1 + 5 * k))
    unfolding encode_pattern
    copied-out before room e = written_out (copied-front b at (1 + 5 * k) (let few = G.few in omega arith) e) (encode_pattern P) (ap bytes_of same-fields)
