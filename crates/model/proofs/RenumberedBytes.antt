-- A renumbering of an accepted case, written out: every field fits, since a parent is a node's number and all else stands in the given case; it
-- has as many bytes, reads back, and is accepted. Assumes nothing.
use Prim.Native.Nat.{ℕ, zero, suc, ◌+◌, ◌*◌, ◌≤◌, ◌<◌}
use mathlib.Core.Path.{◌≡◌, refl, sym, ap, ap₂, ◌∙◌, subst}
use mathlib.Core.Bool.{true}
use mathlib.Core.Logic.{◌⊎◌, inl, inr}
use mathlib.Core.List.Memᴰ
use mathlib.Core.List.{List, [], ◌∷◌, ◌++◌, flat_map, Memᴰ}
use native.Mathlib.Omega.{arith}
use lib.ListN.{length, get_or, length-append}
use Rattle.model.specs.Limits.{max_case_bytes, summary_width, pattern_width}
use Rattle.model.specs.Tree.{Rooted}
use Rattle.model.specs.Pattern.{Pattern, IsPatternTree}
use Rattle.model.specs.Bytes.{AreBytes, field_bytes, bytes_of, summary_record_at, pattern_record_at, Case, case_of, is_whole_case, summary_fields, pattern_fields, section_fields, set_fields, case_fields, encode_case}
use Rattle.model.specs.Questions.{case_whole, refusal, case_questions}
use Rattle.model.specs.Renumbering.{Renumbering, PatternRenumbering, CaseRenumbering}
use Rattle.model.proofs.ListLaws.{mem-at, at_mem, flat-intro, flat-elim}
use Rattle.model.proofs.TreeLaws.{rooted-inside}
use Rattle.model.proofs.Bytes.{FitFields, fit_append, fit_next, length-bytes, length-section, summary-readable, pattern-readable, whole-case, case-back, case-whole}
use Rattle.model.proofs.Refusals.{AllYes, refusal-none}
use Rattle.model.proofs.CaseFacts.{case-accepted}
use Rattle.model.proofs.Renumbering.{renumbered-length, fields_back, summary-rooted}
use Rattle.model.proofs.RenumberedCase.{CaseTrees, case-trees, TablesKept, renumbered-kept}
use Rattle.model.proofs.WriteBack.{spans_fit, case-again, encode-case}

-- ---- what is written are bytes

pub bytes_small : (fs : List ℕ) → AreBytes (bytes_of fs)
unfolding bytes_of flat_map field_bytes
bytes_small [] i = omega arith
bytes_small (f ∷ fs) zero = omega arith
bytes_small (f ∷ fs) (suc zero) = omega arith
bytes_small (f ∷ fs) (suc (suc i)) = bytes_small fs i

-- ---- what fits a field

fit-left : (xs ys : List ℕ) → FitFields (xs ++ ys) → FitFields xs
fit-left xs ys f x m = f x (Memᴰ.append_left ys m)

fit-right : (xs ys : List ℕ) → FitFields (xs ++ ys) → FitFields ys
fit-right xs ys f x m = f x (Memᴰ.append_right xs m)

-- a table's section, if it is a tree
module _ {A : Type 0} {none : A} {parent : A → ℕ} {others : A → List ℕ} {P Q : List A} (r : Renumbering none parent others P Q) (tree : Rooted (length Q) (λ j. parent (get_or Q j none))) where
  abbrev fields : A → List ℕ
  fields x = parent x ∷ others x

  section-fit : FitFields (section_fields fields P) → FitFields (section_fields fields Q)
  unfolding section_fields
  section-fit fit = fit_next (length Q) (flat_map fields Q) few rest
    where
      few : length Q < 65_536
      few = subst (λ (n : ℕ). n < 65_536) (renumbered-length r) (fit (length P) (Memᴰ.head refl))

      at : (j f : ℕ) → j < length Q → (f ≡ parent (get_or Q j none)) ⊎ Memᴰ f (others (get_or Q j none)) → f < 65_536
      at j f h (inl e) = let l : parent (get_or Q j none) < length Q = rooted-inside tree j h in omega (arith, few)
      at j f h (inr m) =
          fit f (Memᴰ.tail (flat-intro fields (get_or P (r.from j) none) P f (mem-at P (r.from j) none (r.inside_back j h))
          (Memᴰ.tail (subst (λ (l : List ℕ). Memᴰ f l) (sym (fields_back r j h)) m))))

      rest : FitFields (flat_map fields Q)
      rest f m =
          let k = flat-elim fields Q f m in
          let a = at_mem Q k.0 none k.1 in
          at a.0 f a.1 (Memᴰ.cases_cons (subst (λ (x : A). Memᴰ f (fields x)) (sym a.2) k.2))

-- a set's fields
set-fit : (Qs Rs : List Pattern) → length Qs ≡ length Rs → ((i : ℕ) → i < length Qs → PatternRenumbering (get_or Qs i []) (get_or Rs i []))
    → ((i : ℕ) → i < length Rs → IsPatternTree (get_or Rs i [])) → FitFields (set_fields Qs) → FitFields (set_fields Rs)
unfolding section_fields
set-fit Qs Rs count each trees fit =
    fit_next (length Rs) (flat_map (section_fields pattern_fields) Rs) (subst (λ (n : ℕ). n < 65_536) count (fit (length Qs) (Memᴰ.head refl))) rest
  where
    rest : FitFields (flat_map (section_fields pattern_fields) Rs)
    rest f m =
        let k = flat-elim (section_fields pattern_fields) Rs f m in
        let a = at_mem Rs k.0 [] k.1 in
        let l : a.0 < length Qs = subst (λ (n : ℕ). a.0 < n) (sym count) a.1 in
        section-fit (each a.0 l) (trees a.0 a.1)
        (λ g n. fit g (Memᴰ.tail (flat-intro (section_fields pattern_fields) (get_or Qs a.0 []) Qs g (mem-at Qs a.0 [] l) n)))
        f (subst (λ (Q : Pattern). Memᴰ f (section_fields pattern_fields Q)) (sym a.2) k.2)

module _ {c d : Case} (r : CaseRenumbering c d) (trees : CaseTrees d) where
  -- a case's
  pub renumbered-fit : FitFields (case_fields c) → FitFields (case_fields d)
  unfolding case_fields
  renumbered-fit fit =
      let summary : List ℕ = section_fields summary_fields c.summary in
      let first : List ℕ = section_fields pattern_fields c.first in
      let set : List ℕ = set_fields c.members in
      let later : FitFields (first ++ set) = fit-right summary (first ++ set) fit in
      fit_append (section_fields summary_fields d.summary) (section_fields pattern_fields d.first ++ set_fields d.members)
      (section-fit r.summary (summary-rooted d.summary trees.summary) (fit-left summary (first ++ set) fit))
      (fit_append (section_fields pattern_fields d.first) (set_fields d.members)
      (section-fit r.first trees.first (fit-left first set later))
      (set-fit c.members d.members r.count r.members trees.members (fit-right first set later)))

-- ---- how many there are

set-length : (Qs Rs : List Pattern) → length Qs ≡ length Rs → ((i : ℕ) → i < length Qs → length (get_or Qs i []) ≡ length (get_or Rs i []))
    → length (flat_map (section_fields pattern_fields) Qs) ≡ length (flat_map (section_fields pattern_fields) Rs)
unfolding flat_map
set-length [] [] count each = refl
set-length [] (R ∷ Rs) count each = absurd (omega arith)
set-length (Q ∷ Qs) [] count each = absurd (omega arith)
set-length (Q ∷ Qs) (R ∷ Rs) count each =
    let own : length (section_fields pattern_fields Q) ≡ length (section_fields pattern_fields R) =
    length-section pattern_record_at pattern_fields pattern_width pattern-readable Q ∙ ap (λ (n : ℕ). 1 + pattern_width * n) (each 0 (omega arith))
    ∙ sym (length-section pattern_record_at pattern_fields pattern_width pattern-readable R) in
    let rest : length (flat_map (section_fields pattern_fields) Qs) ≡ length (flat_map (section_fields pattern_fields) Rs) =
    set-length Qs Rs (omega arith) (λ i h. each (suc i) (omega arith)) in
    length-append (section_fields pattern_fields Q) (flat_map (section_fields pattern_fields) Qs) ∙ ap₂ (λ (m n : ℕ). m + n) own rest
    ∙ sym (length-append (section_fields pattern_fields R) (flat_map (section_fields pattern_fields) Rs))

fields-length : (c : Case) → length (case_fields c) ≡ (1 + summary_width * length c.summary) + ((1 + pattern_width * length c.first) + length (set_fields c.members))
unfolding case_fields
fields-length c =
    length-append (section_fields summary_fields c.summary) (section_fields pattern_fields c.first ++ set_fields c.members)
    ∙ ap₂ (λ (m n : ℕ). m + n) (length-section summary_record_at summary_fields summary_width summary-readable c.summary)
    (length-append (section_fields pattern_fields c.first) (set_fields c.members)
    ∙ ap (λ (n : ℕ). n + length (set_fields c.members)) (length-section pattern_record_at pattern_fields pattern_width pattern-readable c.first))

pub renumbered-size : {c d : Case} → CaseRenumbering c d → length (encode_case c) ≡ length (encode_case d)
unfolding encode_case section_fields
renumbered-size {c} {d} r =
    let one : length c.summary ≡ length d.summary = renumbered-length r.summary in
    let two : length c.first ≡ length d.first = renumbered-length r.first in
    let three : length (set_fields c.members) ≡ length (set_fields d.members) = ap suc (set-length c.members d.members r.count (λ i h. renumbered-length (r.members i h))) in
    length-bytes (case_fields c)
    ∙ ap (λ (n : ℕ). 2 * n) (fields-length c ∙ ap₂ (λ (m n : ℕ). (1 + summary_width * m) + n) one (ap₂ (λ (m n : ℕ). (1 + pattern_width * m) + n) two three) ∙ sym (fields-length d))
    ∙ sym (length-bytes (case_fields d))

-- ---- the questions

-- all are answered yes where the bytes are whole and each question on the tables is
all-yes-tables : (w : List ℕ) {d : Case} → case_of w ≡ d → is_whole_case w ≡ true → TablesKept d → AllYes (case_questions w)
unfolding case_questions case_whole
all-yes-tables w e whole k =
    let t : TablesKept (case_of w) = subst TablesKept (sym e) k in
    (whole, (t.counts, (t.few, (t.summary, (t.siblings, (t.patterns, (t.figures, (t.positions, tt))))))))

tables-all-yes : (b : List ℕ) → AllYes (case_questions b) → TablesKept (case_of b)
unfolding case_questions
tables-all-yes b y =
    record {
      counts = y.1.0;
      few = y.1.1.0;
      summary = y.1.1.1.0;
      siblings = y.1.1.1.1.0;
      patterns = y.1.1.1.1.1.0;
      figures = y.1.1.1.1.1.1.0;
      positions = y.1.1.1.1.1.1.1.0;
    }

-- the bytes of a renumbering d of the case with bytes b
pub record RenumberedBytes (b : List ℕ) (d : Case) : Type 0 where
  pub back : case_of (encode_case d) ≡ d
  pub bytes : AreBytes (encode_case d)
  pub size : length (encode_case d) ≡ length b
  pub again : AllYes (case_questions (encode_case d))
  pub accepted : refusal (case_questions (encode_case d)) ≡ 0
  pub renumbered : CaseRenumbering (case_of b) (case_of (encode_case d))

pub renumbered-bytes : (b : List ℕ) → AreBytes b → AllYes (case_questions b) → (d : Case) → CaseRenumbering (case_of b) d → CaseTrees d → RenumberedBytes b d
unfolding encode_case
renumbered-bytes b small asked d r trees =
    record {
      back = back;
      bytes = bytes_small (case_fields d);
      size = size;
      again = again;
      accepted = refusal-none (case_questions (encode_case d)) again;
      renumbered = subst (CaseRenumbering (case_of b)) (sym back) r;
    }
  where
    whole : is_whole_case b ≡ true
    whole = (whole-case b).1 (case-accepted b asked).whole

    fit : FitFields (case_fields d)
    fit = renumbered-fit r trees (spans_fit b small (case-again b))

    back : case_of (encode_case d) ≡ d
    back = case-back d fit

    size : length (encode_case d) ≡ length b
    size = sym (renumbered-size r) ∙ ap length (encode-case b small whole)

    again : AllYes (case_questions (encode_case d))
    again =
        all-yes-tables (encode_case d) back (case-whole d fit (subst (λ (n : ℕ). n ≤ max_case_bytes) (sym size) (case-accepted b asked).whole.size))
        (renumbered-kept r (case-trees (case-accepted b asked).facts) trees (tables-all-yes b asked))
