-- One way of writing: two selections, outlines or cases are written alike exactly when a renumbering turns one into the other. What is
-- written is a renumbering of what is given, and the given tables decide what is written only up to renumbering. Assumes nothing.
use Prim.Native.Nat.{ℕ, ◌+◌, ◌*◌, ◌≤◌, ◌<◌}
use mathlib.Core.Path.{◌≡◌, refl, sym, ap, ◌∙◌, subst}
use mathlib.Core.Logic.{◌↔◌}
use mathlib.Core.List.{List, [], ◌∷◌, ◌++◌, map, flat_map, map-map, map-id, append-nil, Memᴰ, head-eq_of_cons-eq, tail-eq_of_cons-eq}
use native.Mathlib.Omega.{arith}
use lib.ListN
use lib.ListN.{length, get_or, length-map, length-append}
use borrow.Author.Tests.{leb-true, le-leb}
use lib.Seq.{ext_get_or}
use Rattle.model.specs.Limits.{min_buffer, max_pattern, summary_width, pattern_width}
use Rattle.model.specs.Lists.{up_from}
use Rattle.model.specs.Tree.{Rooted, IsTree}
use Rattle.model.specs.Summary.{SummaryRecord, Summary, no_summary_record, as_document}
use Rattle.model.specs.Pattern.{PatternRecord, Pattern, no_pattern_record, IsPatternTree}
use Rattle.model.specs.Facts.{SummaryFacts, CaseFacts}
use Rattle.model.specs.Bytes.{AreBytes, Case, case_of, summary_record_at, pattern_record_at, summary_fields, pattern_fields, section_fields, set_fields, case_fields, encode_case}
use Rattle.model.specs.Questions.{Question, ask, refusal, buffer_large_enough, case_questions}
use Rattle.model.specs.Renumbering.{SummaryRenumbering, PatternRenumbering, CaseRenumbering}
use Rattle.model.specs.Normal.{Entry, preorder, table_of, by_label, by_subtree, normal_pattern, read_as, read_back, as_pattern, as_summary, normal_summary, normal_case, InOrder, normalise_refusal, normalised}
use Rattle.model.proofs.ListLaws.{at_mem, get_or_map, map-agree}
use Rattle.model.proofs.Refusals.{AllYes, refusal-none}
use Rattle.model.proofs.CaseFacts.{case-accepted, all_asked}
use Rattle.model.proofs.Bytes.{whole-case, length-bytes, pattern-readable, summary-readable, length-section}
use Rattle.model.proofs.WriteBack.{encode-case}
use Rattle.model.proofs.Renumbering.{renumbering-after, renumbering-back, record-as_pattern, length-as_pattern, summary-renumbering, pattern-renumbering, rooted-summary, fields_back}
use Rattle.model.proofs.RenumberedTables.{renumbered-summary-facts}
use Rattle.model.proofs.RenumberedCase.{CaseTrees, case-trees, case-renumbering-after, case-renumbering-back}
use Rattle.model.proofs.RenumberedBytes.{RenumberedBytes, renumbered-bytes}
use Rattle.model.proofs.Numbering.{normal-renumbers, normal-tree}
use Rattle.model.proofs.Alike.{normal-alike, summary-tree, by-label-order, by-label-alike}
use Rattle.model.proofs.InOrder.{normal-order}

-- ---- selections

pub pattern-exact : (P Q : Pattern) → IsPatternTree P → IsPatternTree Q → (normal_pattern P ≡ normal_pattern Q) ↔ PatternRenumbering P Q
pattern-exact P Q s t =
    (λ e. renumbering-after (subst (PatternRenumbering P) e (normal-renumbers P s)) (renumbering-back (normal-renumbers Q t) t), λ r. normal-alike s t r)

-- ---- outlines

module _ (S : Summary) (f : SummaryFacts S) where
  -- an outline is written as the selection that it reads as
  by-subtree : normal_summary S ≡ as_summary (normal_pattern (as_pattern S))
  unfolding normal_summary normal_pattern
  by-subtree = ap (λ (es : List Entry). as_summary (table_of es)) (by-label-alike S f)

  abbrev written : Pattern
  written = normal_pattern (as_pattern S)

  -- which has no positions and no figures, so it reads as an outline again
  no-position : (r : PatternRecord) → Memᴰ r written → read_as (read_back r) ≡ r
  no-position r m =
      let at = at_mem written r no_pattern_record m in
      let j : ℕ = at.0 in
      let n = normal-renumbers (as_pattern S) (summary-tree S f) in
      let same = tail-eq_of_cons-eq (tail-eq_of_cons-eq (fields_back n j at.1)) in
      let none : r.position ≡ 0 =
      ap (λ (x : PatternRecord). x.position) (sym at.2) ∙ sym (head-eq_of_cons-eq same) ∙ ap (λ (x : PatternRecord). x.position) (record-as_pattern S (n.from j)) in
      let bare : r.figure ≡ 0 =
      ap (λ (x : PatternRecord). x.figure) (sym at.2) ∙ sym (head-eq_of_cons-eq (tail-eq_of_cons-eq same)) ∙ ap (λ (x : PatternRecord). x.figure) (record-as_pattern S (n.from j)) in
      λ k. record { parent = r.parent; label = r.label; edge = r.edge; position = sym none k; figure = sym bare k }

  reads-again : as_pattern (as_summary written) ≡ written
  reads-again = map-map read_as read_back written ∙ map-agree (λ (r : PatternRecord). read_as (read_back r)) (λ r. r) written no-position ∙ map-id written

  pub summary-renumbers : SummaryRenumbering S (normal_summary S)
  summary-renumbers =
      subst (SummaryRenumbering S) (sym by-subtree)
      (summary-renumbering S (as_summary written) (subst (PatternRenumbering (as_pattern S)) (sym reads-again) (normal-renumbers (as_pattern S) (summary-tree S f))))

  pub summary-normal-tree : IsTree (as_document (normal_summary S))
  summary-normal-tree = subst (λ (T : Summary). IsTree (as_document T)) (sym by-subtree) (rooted-summary (as_summary written) tree)
    where
      read : (i : ℕ) → get_or (as_summary written) i no_summary_record ≡ read_back (get_or written i no_pattern_record)
      read i = ListN.get_or-map read_back written i no_pattern_record

      tree : Rooted (length (as_summary written)) (λ i. (get_or (as_summary written) i no_summary_record).parent)
      tree =
          let t = normal-tree (as_pattern S) (summary-tree S f) in
          let n : length (as_summary written) ≡ length written = length-map written read_back in
          record {
            inhabited = (let l = t.inhabited in omega arith);
            root = ap (λ (r : SummaryRecord). r.parent) (read 0) ∙ t.root;
            earlier = λ i z h. subst (λ (r : SummaryRecord). r.parent < i) (sym (read i)) (t.earlier i z (omega arith));
          }

  pub summary-normal-facts : SummaryFacts (normal_summary S)
  summary-normal-facts = renumbered-summary-facts summary-renumbers f summary-normal-tree

  -- it is in order, by label
  pub summary-order : preorder by_label (length (normal_summary S)) (as_pattern (normal_summary S)) 0 ≡ up_from 0 (length (normal_summary S))
  summary-order =
      let n : length (as_pattern (normal_summary S)) ≡ length (normal_summary S) = length-as_pattern (normal_summary S) in
      let same : as_pattern (normal_summary S) ≡ written = ap as_pattern by-subtree ∙ reads-again in
      ap (λ (k : ℕ). preorder by_label k (as_pattern (normal_summary S)) 0) (sym n) ∙ by-label-order (normal_summary S) summary-normal-facts
      ∙ ap (λ (P : Pattern). preorder by_subtree (length P) P 0) same ∙ normal-order (as_pattern S) (summary-tree S f) ∙ ap (λ (P : Pattern). up_from 0 (length P)) (sym same) ∙ ap (up_from 0) n

pub summary-alike : (S T : Summary) → SummaryFacts S → SummaryFacts T → SummaryRenumbering S T → normal_summary S ≡ normal_summary T
summary-alike S T f g r = by-subtree S f ∙ ap as_summary (normal-alike (summary-tree S f) (summary-tree T g) (pattern-renumbering S T r)) ∙ sym (by-subtree T g)

-- ---- cases

module _ (c : Case) (f : CaseFacts c) where
  member : (i : ℕ) → i < length c.members → get_or (map normal_pattern c.members) i [] ≡ normal_pattern (get_or c.members i [])
  member i h = get_or_map normal_pattern c.members i [] [] h

  -- what is written of a case is a renumbering of it, and its tables are trees
  pub case-renumbers : CaseRenumbering c (normal_case c)
  unfolding normal_case
  case-renumbers =
      record {
        summary = summary-renumbers c.summary f.summary;
        first = normal-renumbers c.first f.first.tree;
        count = sym (length-map c.members normal_pattern);
        members = λ i h. subst (PatternRenumbering (get_or c.members i [])) (sym (member i h)) (normal-renumbers (get_or c.members i []) ((case-trees f).members i h));
      }

  pub case-normal-trees : CaseTrees (normal_case c)
  unfolding normal_case
  case-normal-trees =
      record {
        summary = summary-normal-tree c.summary f.summary;
        first = normal-tree c.first f.first.tree;
        members = λ i h. (
            let inside : i < length c.members = subst (λ (n : ℕ). i < n) (length-map c.members normal_pattern) h in
            subst IsPatternTree (sym (member i inside)) (normal-tree (get_or c.members i []) ((case-trees f).members i inside))
            );
      }

  pub case-order : InOrder (normal_case c)
  unfolding normal_case
  case-order =
      record {
        summary = summary-order c.summary f.summary;
        first = normal-order c.first f.first.tree;
        members = λ i h. (
            let inside : i < length c.members = subst (λ (n : ℕ). i < n) (length-map c.members normal_pattern) h in
            subst (λ (P : Pattern). preorder by_subtree (length P) P 0 ≡ up_from 0 (length P)) (sym (member i inside)) (normal-order (get_or c.members i []) ((case-trees f).members i inside))
            );
      }

pub case-alike : (c d : Case) → CaseFacts c → CaseFacts d → CaseRenumbering c d → normal_case c ≡ normal_case d
unfolding normal_case
case-alike c d f g r =
    λ k. record {
      summary = summary-alike c.summary d.summary f.summary g.summary r.summary k;
      first = normal-alike f.first.tree g.first.tree r.first k;
      members = members k;
    }
  where
    members : map normal_pattern c.members ≡ map normal_pattern d.members
    members =
        let m = length-map c.members normal_pattern in
        let n = length-map d.members normal_pattern in
        let e = r.count in
        ext_get_or [] (map normal_pattern c.members) (map normal_pattern d.members) (omega arith)
        (λ i h. (
        let inside : i < length c.members = omega arith in
        let there : i < length d.members = omega arith in
        member c f i inside ∙ normal-alike ((case-trees f).members i inside) ((case-trees g).members i there) (r.members i inside) ∙ sym (member d g i there)
        ))

pub case-exact : (c d : Case) → CaseFacts c → CaseFacts d → (normal_case c ≡ normal_case d) ↔ CaseRenumbering c d
case-exact c d f g =
    (λ e. case-renumbering-after (subst (CaseRenumbering c) e (case-renumbers c f)) (case-renumbering-back (case-trees g) (case-renumbers d g)), λ r. case-alike c d f g r)

-- ---- bytes

module _ (b : List ℕ) (small : AreBytes b) (asked : AllYes (case_questions b)) where
  -- what is written of an accepted case is an accepted case, and a renumbering
  pub normal-bytes : RenumberedBytes b (normal_case (case_of b))
  normal-bytes =
      let f = (case-accepted b asked).facts in
      renumbered-bytes b small asked (normal_case (case_of b)) (case-renumbers (case_of b) f) (case-normal-trees (case_of b) f)

  pub normal-reads : case_of (normalised b) ≡ normal_case (case_of b)
  unfolding normalised
  normal-reads = normal-bytes.back

-- two accepted cases are written alike exactly when renumbering nodes turns one into the other
pub alike-exact : (a b : List ℕ) → AreBytes a → AreBytes b → AllYes (case_questions a) → AllYes (case_questions b) → (normalised a ≡ normalised b) ↔ CaseRenumbering (case_of a) (case_of b)
unfolding normalised
alike-exact a b s t p q =
    let exact = case-exact (case_of a) (case_of b) (case-accepted a p).facts (case-accepted b q).facts in
    (λ e. exact.0 (sym (normal-reads a s p) ∙ ap case_of e ∙ normal-reads b t q), λ r. ap encode_case (exact.1 r))

-- writing twice changes nothing
pub normal-twice : (b : List ℕ) → AreBytes b → AllYes (case_questions b) → normalised (normalised b) ≡ normalised b
unfolding normalised
normal-twice b s q =
    let n = normal-bytes b s q in
    sym ((alike-exact b (normalised b) s n.bytes q n.again).1 n.renumbered)

-- ---- the call

-- an accepted call
pub record NormaliseFacts (b : List ℕ) (buffer_bytes : ℕ) : Type 0 where
  pub asked : AllYes (case_questions b)
  pub buffer : min_buffer ≤ buffer_bytes

pub accepted-normalise : (b : List ℕ) (buffer_bytes : ℕ) → normalise_refusal b buffer_bytes ≡ 0 → NormaliseFacts b buffer_bytes
unfolding normalise_refusal buffer_large_enough
accepted-normalise b buffer_bytes e =
    let y = all_asked b (ask 2 (buffer_large_enough buffer_bytes) ∷ []) [] (omega arith, tt) tt (ap (λ (qs : List Question). refusal (ask 2 (buffer_large_enough buffer_bytes) ∷ qs)) (append-nil (case_questions b)) ∙ e) in
    record { asked = y.1; buffer = leb-true min_buffer buffer_bytes y.0.0 }

pub normalise-accepted : (b : List ℕ) (buffer_bytes : ℕ) → AllYes (case_questions b) → min_buffer ≤ buffer_bytes → normalise_refusal b buffer_bytes ≡ 0
unfolding normalise_refusal buffer_large_enough
normalise-accepted b buffer_bytes y h = refusal-none (ask 2 (buffer_large_enough buffer_bytes) ∷ case_questions b) (le-leb min_buffer buffer_bytes h, y)

-- an accepted case has at most 1 + 3 × 64 fields, 1 + 5 × 16, and 1 + 8 × (1 + 5 × 16)
members-small : (Qs : List Pattern) → ((Q : Pattern) → Memᴰ Q Qs → length Q ≤ max_pattern) → length (flat_map (section_fields pattern_fields) Qs) ≤ 81 * length Qs
unfolding flat_map
members-small [] h = omega arith
members-small (Q ∷ Qs) h =
    let a : length (section_fields pattern_fields Q ++ flat_map (section_fields pattern_fields) Qs) ≡ length (section_fields pattern_fields Q) + length (flat_map (section_fields pattern_fields) Qs) =
    length-append (section_fields pattern_fields Q) (flat_map (section_fields pattern_fields) Qs) in
    let b : length (section_fields pattern_fields Q) ≡ 1 + pattern_width * length Q = length-section pattern_record_at pattern_fields pattern_width pattern-readable Q in
    let c : length Q ≤ max_pattern = h Q (Memᴰ.head refl) in
    let d : length (flat_map (section_fields pattern_fields) Qs) ≤ 81 * length Qs = members-small Qs (λ R m. h R (Memᴰ.tail m)) in
    omega arith

pub case-small : (b : List ℕ) → AreBytes b → AllYes (case_questions b) → length b ≤ min_buffer
unfolding encode_case case_fields section_fields
case-small b s q =
    let k = case-accepted b q in
    let c : Case = case_of b in
    let f = k.facts in
    let whole : encode_case c ≡ b = encode-case b s ((whole-case b).1 k.whole) in
    let e : length (encode_case c) ≡ 2 * length (case_fields c) = length-bytes (case_fields c) in
    let n : length b ≡ length (encode_case c) = ap length (sym whole) in
    let x : length (case_fields c) ≡ length (section_fields summary_fields c.summary) + length (section_fields pattern_fields c.first ++ set_fields c.members) =
    length-append (section_fields summary_fields c.summary) (section_fields pattern_fields c.first ++ set_fields c.members) in
    let y : length (section_fields pattern_fields c.first ++ set_fields c.members) ≡ length (section_fields pattern_fields c.first) + length (set_fields c.members) =
    length-append (section_fields pattern_fields c.first) (set_fields c.members) in
    let u : length (section_fields summary_fields c.summary) ≡ 1 + summary_width * length c.summary = length-section summary_record_at summary_fields summary_width summary-readable c.summary in
    let v : length (section_fields pattern_fields c.first) ≡ 1 + pattern_width * length c.first = length-section pattern_record_at pattern_fields pattern_width pattern-readable c.first in
    let w : length (flat_map (section_fields pattern_fields) c.members) ≤ 81 * length c.members = members-small c.members (λ Q m. (f.members Q m).size) in
    let g = f.summary_size in
    let h = f.first_size in
    let i = f.few_members in
    omega arith
