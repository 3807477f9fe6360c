-- What the call answers and leaves is the model's outcome, which keeps the demands; an accepted case fits the buffer, and its trees are
-- such as can be written. Assumes nothing.
use Prim.Native.Nat.{ℕ, ◌+◌, ◌*◌, ◌≤◌, ◌<◌}
use mathlib.Core.Path.{◌≡◌, sym, ap, ◌∙◌, subst}
use mathlib.Core.Bool.{true}
use mathlib.Core.List.{List, []}
use native.Mathlib.Omega.{arith}
use lib.ListN
use lib.ListN.{length, get_or, length-map}
use Rattle.model.specs.Limits.{summary_width, pattern_width}
use Rattle.model.specs.Summary.{SummaryRecord, no_summary_record}
use Rattle.model.specs.Pattern.{PatternRecord, Pattern, no_pattern_record}
use Rattle.model.specs.Bytes.{Case, AreBytes, section, summary_record_at, pattern_record_at, first_at, set_at, member_at, case_of, encode_case, written_at_front, is_whole_case}
use Rattle.model.specs.Moving.{moved_accepted}
use Rattle.model.specs.Facts.{AcceptedCase}
use Rattle.model.specs.Normal.{read_as, as_pattern, normal_case, normalise_refusal, normalised}
use Rattle.model.specs.Demands.{NormaliseAnswered}
use Rattle.model.proofs.Alike.{summary-tree}
use Rattle.model.proofs.Bytes.{whole-case}
use Rattle.model.proofs.CaseFacts.{case-accepted}
use Rattle.model.proofs.ListLaws.{mem-at}
use Rattle.model.proofs.Moving.{moved-refused, moved-accepted}
use Rattle.model.proofs.Normal.{accepted-normalise, case-small, case-renumbers}
use Rattle.model.proofs.ReadBack.{field_fits}
use Rattle.model.proofs.RenumberedBytes.{renumbered-size}
use Rattle.model.proofs.WriteBack.{encode-case}
use Rattle.model.proofs.Demands.{normalise-answered}
use Rattle.format.specs.Given.{pattern_at}
use Rattle.format.proofs.SectionLaws.{section-record, section-below, set-member}
use Rattle.normalising.specs.Trees.{CaseGiven}

-- ---- the trees of an accepted case

-- a record's edge is read off a field
module _ (b : List ℕ) (small : AreBytes b) where
  edge-fits : (at i : ℕ) → i < length (pattern_at b at) → (get_or (pattern_at b at) i no_pattern_record).edge < 65536
  edge-fits at i h =
      let e = ap (λ (r : PatternRecord). r.edge) (section-record pattern_record_at pattern_width b at i no_pattern_record (section-below pattern_record_at pattern_width b at i h)) in
      omega (arith, e, field_fits b small (at + 1 + pattern_width * i + 2))

  strong-fits : (i : ℕ) → i < length (as_pattern (case_of b).summary) → (get_or (as_pattern (case_of b).summary) i no_pattern_record).edge < 65536
  unfolding case_of
  strong-fits i h =
      let n : length (as_pattern (case_of b).summary) ≡ length (section summary_record_at summary_width b 0) = length-map (section summary_record_at summary_width b 0) read_as in
      let e = ap (λ (r : PatternRecord). r.edge) (ListN.get_or-map read_as (section summary_record_at summary_width b 0) i no_summary_record) in
      let s = ap (λ (r : SummaryRecord). r.strong) (section-record summary_record_at summary_width b 0 i no_summary_record (section-below summary_record_at summary_width b 0 i (omega arith))) in
      omega (arith, e, s, field_fits b small (0 + 1 + summary_width * i + 2))

  module _ (a : AcceptedCase b) where
    given : CaseGiven (case_of b)
    unfolding case_of
    given =
        record {
          outline = a.facts.summary;
          summary =
              record {
                tree = summary-tree (case_of b).summary a.facts.summary;
                few = omega (arith, a.facts.summary_size, length-map (case_of b).summary read_as);
                edges = strong-fits;
                positions = λ i h. (let e = ap (λ (r : PatternRecord). r.position) (ListN.get_or-map read_as (case_of b).summary i no_summary_record) in omega (arith, e));
              };
          first = record { tree = a.facts.first.tree; few = omega (arith, a.facts.first_size); edges = edge-fits (first_at b); positions = λ i h. (let r = a.facts.first.range i h in let n = a.facts.arity_bound in omega arith) };
          members = λ i h.
              let m = a.facts.members (get_or (case_of b).members i []) (mem-at (case_of b).members i [] h) in
              record {
                tree = m.pattern.tree;
                few = omega (arith, m.size);
                edges = subst (λ (Q : Pattern). (i : ℕ) → i < length Q → (get_or Q i no_pattern_record).edge < 65536) (sym (set-member b (set_at b) i h)) (edge-fits (member_at b (set_at b) i));
                positions = λ j k. (let r = m.pattern.range j k in let n = a.facts.arity_bound in let e = m.same_arity in omega arith);
              };
        }

    -- what is written has as many bytes
    normal-size : length (normalised b) ≡ length b
    unfolding normalised
    normal-size = sym (renumbered-size (case-renumbers (case_of b) a.facts)) ∙ ap length (encode-case b small ((whole-case b).1 a.whole))

-- ---- the call

-- the case is whole, and can be written to the buffer
pub record Writable (b buffer : List ℕ) : Type 0 where
  pub whole : is_whole_case b ≡ true
  pub given : CaseGiven (case_of b)
  pub fits : length (encode_case (normal_case (case_of b))) ≤ length buffer

module _ (b : List ℕ) (small : AreBytes b) (buffer : List ℕ) {n : ℕ} (e : n ≡ normalise_refusal b (length buffer)) where
  pub answered-no : (n ≡ 0 → ⊥) → NormaliseAnswered b buffer (record { answer = record { refused = n; count = 0 }; buffer = buffer })
  answered-no f =
      normalise-answered b small buffer
      ((λ i. record { answer = record { refused = e i; count = 0 }; buffer = buffer }) ∙ sym (moved-refused (normalise_refusal b (length buffer)) (normalised b) buffer (λ z. f (e ∙ z))))

  module _ (z : n ≡ 0) where
    pub case-fits : Writable b buffer
    unfolding normalised
    case-fits =
        let f = accepted-normalise b (length buffer) (sym e ∙ z) in
        let a = case-accepted b f.asked in
        record {
          whole = (whole-case b).1 a.whole;
          given = given b small a;
          fits = omega (arith, f.buffer, case-small b small f.asked, normal-size b small a);
        }

    pub answered-yes : {c : Case} → c ≡ case_of b → {count : ℕ} {after : List ℕ} → count ≡ length (encode_case (normal_case c)) → after ≡ written_at_front (encode_case (normal_case c)) buffer
        → NormaliseAnswered b buffer (record { answer = record { refused = 0; count = count }; buffer = after })
    unfolding moved_accepted normalised
    answered-yes {c} q {count} {after} k w =
        let l : count ≡ length (normalised b) = k ∙ ap (λ (d : Case). length (encode_case (normal_case d))) q in
        let v : after ≡ written_at_front (normalised b) buffer = w ∙ ap (λ (d : Case). written_at_front (encode_case (normal_case d)) buffer) q in
        normalise-answered b small buffer
        ((λ i. record { answer = record { refused = 0; count = l i }; buffer = v i }) ∙ sym (moved-accepted (normalise_refusal b (length buffer)) (normalised b) buffer (sym e ∙ z)))
