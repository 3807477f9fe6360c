-- An order as texts put one after another: a selection's node lines are those of its section's records, and the counted list behind it is
-- printed by its count. Assumes nothing.
use Prim.Native.Nat.{ℕ, ◌+◌, ◌*◌, ◌≤◌}
use mathlib.Core.Path.{◌≡◌, sym, ap, ap₂, ◌∙◌}
use mathlib.Core.List.{List, [], ◌∷◌, ◌++◌}
use native.Mathlib.Omega.{arith}
use lib.ListN.{length}
use Rattle.model.specs.Limits.{pattern_width}
use Rattle.model.specs.Pattern.{no_pattern_record}
use Rattle.model.specs.Bytes.{field, fields_at, pattern_record_at, pattern_fields, section, section_end, counted_at, WholeSection}
use Rattle.model.specs.Text.{ascii, line, pattern_line, pattern_lines, order_text}
use Rattle.model.proofs.WriteBack.{pattern-rewritable}
use Rattle.text.specs.Records.{record_lines}
use Rattle.text.proofs.PutLaws.{Parts}
use Rattle.text.proofs.ListedLaws.{table-lines}
use Rattle.listing.specs.Order.{OrderHeld, text_of}

pattern-lines : (b : List ℕ) → pattern_lines (section pattern_record_at pattern_width b 0) ≡ record_lines pattern_width b
unfolding pattern_lines pattern_line
pattern-lines b = table-lines pattern_record_at pattern_fields pattern_width no_pattern_record (λ a at. (pattern-rewritable a at).fields) b

pub order-parts : (n : ℕ) (b : List ℕ)
    → Parts (text_of n b) (line (ascii "tried") (n ∷ [])) (record_lines pattern_width b ++ line (ascii "struck") (counted_at b (section_end pattern_width b 0)))
unfolding order_text
order-parts n b = record { parts = ap (λ (x : List ℕ). line (ascii "tried") (n ∷ []) ++ (x ++ line (ascii "struck") (counted_at b (section_end pattern_width b 0)))) (pattern-lines b) }

-- the section of a buffer that holds an order is whole
pub order-whole : {b : List ℕ} → OrderHeld b → WholeSection pattern_width b 0
order-whole h = let i = h.inside in record { count = omega arith; records = omega arith }

-- the struck line by the list's place and count, as they are read
module _ (b : List ℕ) {end n : ℕ} (e : end ≡ section_end pattern_width b 0) (k : n ≡ field b end) where
  pub list_same : line (ascii "struck") (counted_at b (section_end pattern_width b 0)) ≡ line (ascii "struck") (fields_at b (end + 1) n)
  list_same = ap₂ (λ (at count : ℕ). line (ascii "struck") (fields_at b (at + 1) count)) (sym e) (ap (field b) (sym e) ∙ sym k)

  pub list_inside : OrderHeld b → 2 * (end + 1 + n) ≤ length b
  list_inside h =
      let i = h.inside in
      let c : n ≡ field b (section_end pattern_width b 0) = k ∙ ap (field b) e in
      omega arith
