-- One record as bytes, its parent renumbered: the parent's field, and the fields after it as they stand. Assumes nothing.
use Prim.Native.Nat.{ℕ, zero, suc, ◌+◌, ◌-◌, ◌*◌, ◌≤◌, ◌<◌}
use mathlib.Core.Path.{◌≡◌, sym, ap, ap₂, ◌∙◌}
use mathlib.Core.Logic.{◌⊎◌, inl, inr}
use mathlib.Core.List.{List, [], ◌∷◌, flat_map}
use native.Mathlib.Omega.{arith}
use lib.ListN.{length, get_or}
use lib.Seq.{sets}
use Rattle.model.specs.Lists.{up_from}
use Rattle.model.specs.Limits.{pattern_width}
use Rattle.model.specs.Pattern.{PatternRecord, no_pattern_record, pattern_parent}
use Rattle.model.specs.Bytes.{field, field_bytes, bytes_of, fields_at, pattern_record_at, pattern_fields}
use Rattle.model.specs.Striking.{lowered, relinked}
use Rattle.model.proofs.Removing.{lowered-cases}
use Rattle.format.specs.Given.{pattern_at, PatternGiven}
use Rattle.format.proofs.SectionLaws.{record-ends, pattern-below, section-record}
use Rattle.format.proofs.WriteLaws.{sets-append}

-- a parent is a node's number, and lowered too
pub parent-small : (b : List ℕ) (j q : ℕ) {p l : ℕ} → PatternGiven b 0 → j < length (pattern_at b 0) → p ≡ pattern_parent (pattern_at b 0) j → l ≡ lowered q p → l < 65_536
parent-small b j q {p} {l} G h e f = go (lowered-cases q p) (inside j h e)
  where
    inside : (j : ℕ) → j < length (pattern_at b 0) → p ≡ pattern_parent (pattern_at b 0) j → p < 16
    inside zero h e = let r : pattern_parent (pattern_at b 0) 0 ≡ 0 = G.tree.root in omega arith
    inside (suc j) h e = let r : pattern_parent (pattern_at b 0) (suc j) < suc j = G.tree.earlier (suc j) (omega arith) h in let k = G.few in omega arith

    go : ((q < p) × (lowered q p ≡ p - 1)) ⊎ ((p ≤ q) × (lowered q p ≡ p)) → p < 16 → l < 65_536
    go (inl a) k = omega arith
    go (inr a) k = omega arith

-- the record's fields stand in the bytes
pub record-room : (b : List ℕ) (j : ℕ) → PatternGiven b 0 → j < length (pattern_at b 0) → 2 * (1 + 5 * j + 1 + 4) ≤ length b
record-room b j G h =
    let k = record-ends b 0 pattern_width j 4 G.whole (pattern-below b 0 j h) (omega arith) in
    omega (arith, k.1)

four : (b : List ℕ) (a : ℕ) → fields_at b (a + 1) 4 ≡ field b (a + 1) ∷ field b (a + 2) ∷ field b (a + 3) ∷ field b (a + 4) ∷ []
unfolding up_from
four b a =
    let e₂ : suc (a + 1) ≡ a + 2 = omega arith in
    let e₃ : suc (suc (a + 1)) ≡ a + 3 = omega arith in
    let e₄ : suc (suc (suc (a + 1))) ≡ a + 4 = omega arith in
    λ i. field b (a + 1) ∷ field b (e₂ i) ∷ field b (e₃ i) ∷ field b (e₄ i) ∷ []

pub record-stored : (b : List ℕ) (j q at : ℕ) (out : List ℕ) {p l : ℕ} {out₁ out₂ : List ℕ} → PatternGiven b 0 → j < length (pattern_at b 0) → p ≡ pattern_parent (pattern_at b 0) j → l ≡ lowered q p
    → out₁ ≡ sets out (2 * at) (field_bytes l) → out₂ ≡ sets out₁ (2 * (at + 1)) (bytes_of (fields_at b (1 + 5 * j + 1) 4))
    → out₂ ≡ sets out (2 * at) (bytes_of (pattern_fields (relinked q (get_or (pattern_at b 0) j no_pattern_record))))
unfolding bytes_of flat_map field_bytes
record-stored b j q at out {p} {l} {out₁} {out₂} G h e f s t =
    let r : PatternRecord = get_or (pattern_at b 0) j no_pattern_record in
    let place : 0 + 1 + 5 * j ≡ 1 + 5 * j = omega arith in
    let same : r ≡ pattern_record_at b (1 + 5 * j) = section-record pattern_record_at pattern_width b 0 j no_pattern_record (pattern-below b 0 j h) ∙ ap (pattern_record_at b) place in
    let rest : fields_at b (1 + 5 * j + 1) 4 ≡ r.label ∷ r.edge ∷ r.position ∷ r.figure ∷ [] = four b (1 + 5 * j) ∙ ap (λ (x : PatternRecord). x.label ∷ x.edge ∷ x.position ∷ x.figure ∷ []) (sym same) in
    let first : l ≡ lowered q r.parent = f ∙ ap (lowered q) e in
    let there : 2 * (at + 1) ≡ 2 * at + 2 = omega arith in
    t ∙ ap₂ (λ (o fs : List ℕ). sets o (2 * (at + 1)) (bytes_of fs)) (s ∙ ap (λ (n : ℕ). sets out (2 * at) (field_bytes n)) first) rest
    ∙ ap (λ (k : ℕ). sets (sets out (2 * at) (field_bytes (lowered q r.parent))) k (bytes_of (r.label ∷ r.edge ∷ r.position ∷ r.figure ∷ []))) there
    ∙ sym (sets-append out (2 * at) (field_bytes (lowered q r.parent)) (bytes_of (r.label ∷ r.edge ∷ r.position ∷ r.figure ∷ [])))
