-- Sections by their fields: how many records a section has, where each field of a record stands, and that it stands inside; the
-- tables of a case and of a document, a set of patterns, and a tree that may be either, as sections. Assumes nothing.
use Prim.Native.Nat.{ℕ, suc, ◌+◌, ◌*◌, ◌≤◌, ◌<◌}
use mathlib.Core.Path.{◌≡◌, sym, ap, ◌∙◌, subst}
use mathlib.Core.List.{List, []}
use native.Mathlib.Omega.{arith}
use native.Mathlib.Nat.{mul-suc, mul-le-mul_left, add-zero}
use native.Mathlib.Numerals.{add-one}
use lib.ListN.{length, get_or}
use Rattle.model.specs.Limits.{summary_width, pattern_width, document_width}
use Rattle.model.specs.Tree.{DocumentRecord}
use Rattle.model.specs.Summary.{SummaryRecord}
use Rattle.model.specs.Bytes.{field, section, records_at, summary_record_at, pattern_record_at, document_record_at, section_end, member_at, set_of, case_of, document_of, WholeSection, WholeSet}
use Rattle.model.proofs.ListLaws.{length-map-up_from}
use Rattle.model.proofs.Bytes.{member-next}
use Rattle.format.specs.Given.{summary_in, pattern_at}
use Rattle.format.proofs.RangeLaws.{get_or-map-below}

-- a record of a whole section ends inside
pub record-ends : (b : List ℕ) (at width i j : ℕ) → WholeSection width b at → i < field b at → j < width
    → (width * i + j < width * field b at) × (2 * (at + 1 + width * i + j) + 1 < length b)
record-ends b at width i j w h k =
    let more : width * suc i ≤ width * field b at = mul-le-mul_left width h in
    let one : width * suc i ≡ width * i + width = mul-suc width i in
    let end : 2 * (at + 1 + width * field b at) ≤ length b = w.records in
    (omega arith, omega arith)

-- the records that a count announces have few fields
pub records-few : (width n : ℕ) → width ≤ pattern_width → n < 65_536 → width * n ≤ 327_675
records-few width n h l = let more : width * n ≤ width * 65_535 = mul-le-mul_left width (omega arith) in omega arith

module _ {A : Type 0} (read : List ℕ → ℕ → A) (width : ℕ) (b : List ℕ) (at : ℕ) where
  pub section-length : length (section read width b at) ≡ field b at
  unfolding section records_at
  section-length = length-map-up_from (λ i. read b (at + 1 + width * i)) 0 (field b at)

  -- a record of a section is what its maker reads there
  pub section-record : (i : ℕ) (d : A) → i < field b at → get_or (section read width b at) i d ≡ read b (at + 1 + width * i)
  unfolding section records_at
  section-record i d h = get_or-map-below (λ i. read b (at + 1 + width * i)) (field b at) i d h

  pub section-below : (i : ℕ) → i < length (section read width b at) → i < field b at
  section-below i h = subst (λ (n : ℕ). i < n) section-length h

  -- a value of a record that its maker reads off field j is that field
  pub section-field : (d : A) (get : A → ℕ) (i j : ℕ) → ((a : ℕ) → get (read b a) ≡ field b (a + j)) → i < length (section read width b at)
      → field b (at + 1 + width * i + j) ≡ get (get_or (section read width b at) i d)
  section-field d get i j e h = sym (ap get (section-record i d (section-below i h)) ∙ e (at + 1 + width * i))

  -- the same of a list that is known to be the section
  module _ {xs : List A} (e : section read width b at ≡ xs) where
    pub viewed-count : field b at ≡ length xs
    viewed-count = sym section-length ∙ ap length e

    pub viewed-below : (i : ℕ) → i < length xs → i < field b at
    viewed-below i h = section-below i (subst (λ (l : List A). i < length l) (sym e) h)

    pub viewed-field : (d : A) (get : A → ℕ) (i j : ℕ) → ((a : ℕ) → get (read b a) ≡ field b (a + j)) → i < length xs
        → field b (at + 1 + width * i + j) ≡ get (get_or xs i d)
    viewed-field d get i j q h =
        section-field d get i j q (subst (λ (l : List A). i < length l) (sym e) h) ∙ ap (λ (l : List A). get (get_or l i d)) e

-- a maker's first field
pub first_field : (b : List ℕ) (a : ℕ) → field b a ≡ field b (a + 0)
first_field b a = ap (field b) (sym (add-zero a))

-- ---- the summary of a case

pub summary-count : (b : List ℕ) → length (summary_in b) ≡ field b 0
unfolding case_of
summary-count b = section-length summary_record_at summary_width b 0

-- it is a section's table
pub summary-section : (b : List ℕ) {S : List SummaryRecord} → summary_in b ≡ S → section summary_record_at summary_width b 0 ≡ S
unfolding case_of
summary-section b e = e

-- ---- a pattern

pub pattern-count : (b : List ℕ) (at : ℕ) → length (pattern_at b at) ≡ field b at
pattern-count b at = section-length pattern_record_at pattern_width b at

pub pattern-below : (b : List ℕ) (at i : ℕ) → i < length (pattern_at b at) → i < field b at
pattern-below b at i h = section-below pattern_record_at pattern_width b at i h

-- ---- a set of patterns

pub set-count : (b : List ℕ) (on : ℕ) → length (set_of b on) ≡ field b on
unfolding set_of
set-count b on = length-map-up_from (λ i. pattern_at b (member_at b on i)) 0 (field b on)

pub set_below : (b : List ℕ) (on i : ℕ) → i < length (set_of b on) → i < field b on
set_below b on i h = subst (λ (n : ℕ). i < n) (set-count b on) h

pub set-member : (b : List ℕ) (on i : ℕ) → i < length (set_of b on) → get_or (set_of b on) i [] ≡ pattern_at b (member_at b on i)
unfolding set_of
set-member b on i h = get_or-map-below (λ i. pattern_at b (member_at b on i)) (field b on) i [] (set_below b on i h)

-- its sections one after another: from the field of member k to the next, and a member's section is whole
pub member-step : (b : List ℕ) (on k : ℕ) {at end : ℕ} → at ≡ member_at b on k → end ≡ section_end pattern_width b at → end ≡ member_at b on (k + 1)
member-step b on k e h = h ∙ ap (section_end pattern_width b) e ∙ sym (member-next b on k) ∙ ap (member_at b on) (sym (add-one k))

pub member-section : (b : List ℕ) (on k : ℕ) {at : ℕ} → WholeSet b on → k < length (set_of b on) → at ≡ member_at b on k → WholeSection pattern_width b at
member-section b on k w h e = subst (WholeSection pattern_width b) (sym e) (w.sections k (set_below b on k h))

-- ---- a document

-- it is a section's table
pub document-section : (w : List ℕ) {W : List DocumentRecord} → document_of w ≡ W → section document_record_at document_width w 0 ≡ W
unfolding document_of
document-section w e = e

pub document-count : (w : List ℕ) → length (document_of w) ≡ field w 0
unfolding document_of
document-count w = section-length document_record_at document_width w 0
