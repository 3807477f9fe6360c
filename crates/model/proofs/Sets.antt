-- Sets. A set of one gives the base's verdict, call by call; the order of the members, and a member twice, change nothing of a verdict;
-- a further member never turns "included" into another verdict. All because a trial passes exactly when some member has its result, and
-- the trials do not depend on the set. Assumes nothing.
use Prim.Native.Nat.{ℕ, ◌*◌, ◌≤◌, ◌<◌}
use mathlib.Core.Path.{◌≡◌, refl, sym, ap, ap₂, ◌∙◌, subst}
use mathlib.Core.Bool.{Bool, true, false, ◌&&◌}
use mathlib.Core.Logic.{◌↔◌}
use mathlib.Core.List.Memᴰ
use mathlib.Core.List.{List, [], ◌∷◌, ◌++◌, append_assoc, Memᴰ}
use lib.Dec.{eqb}
use lib.ListN.{length, length-map, get_or-map}
use borrow.Author.Tests.{le-leb, lt-ltb, eq-eqb}
use Rattle.model.specs.Lists.{any_of, all_of}
use Rattle.model.specs.Limits.{callers, max_summary, max_pattern, max_case_bytes, summary_width}
use Rattle.model.specs.Summary.{Summary}
use Rattle.model.specs.Pattern.{PatternRecord, Pattern, pattern_figure, arity, Result, Contained, ContainedIn}
use Rattle.model.specs.Embeddings.{summary_embeddings}
use Rattle.model.specs.Canonical.{passes, covered}
use Rattle.model.specs.Verdict.{Verdict, included, verdict}
use Rattle.model.specs.Bytes.{summary_record_at, section, first_at, Case, is_whole_case, section_fields, case_fields, encode_case}
use Rattle.model.specs.Questions.{between, limit_in_range, buffer_large_enough, case_whole, count_in_range, counts_in_range, set_in_range, summary_kept, siblings_differ, pattern_kept, patterns_kept, figure_in_range, pattern_figures, figures_kept, positions_once, positions_kept, caller_in_range, tally_in_range, Question, ask, refusal, case_questions, verdict_refusal}
use Rattle.model.specs.Calls.{VerdictOutcome, outcome_by, verdict_accepted, verdict_call, verdict_refused}
use Rattle.model.specs.OldForm.{OldRecord, OldPattern, old_width, old_record_fields, old_record_at, new_record, new_pattern, SetOfOne, OldCase, second_at, old_end, old_case_of, old_fields, encode_old_case, one_of, old_whole, old_counts_in_range, old_patterns_kept, old_positions_kept, old_questions, old_verdict_refusal, old_verdict, old_accepted, old_verdict_call}
use Rattle.model.proofs.ListLaws.{bool-ext, and_intro, below_all, any-intro, any-elim}
use Rattle.model.proofs.Verdict.{judge-agree, judge-included, included-judge}
use Rattle.model.proofs.Refusals.{refusal-drop}
use Rattle.model.proofs.Bytes.{FitFields, Holds, old-readable, section-back, section-end, holds-rest, summary-back, first_back, written-length, case-back, case-whole}

abbrev no_old_record : OldRecord
no_old_record = record { parent = 0; label = 0; edge = 0; position = 0 }

-- ---- which members there are decides, and nothing else

-- every member of one set is a member of the other
abbrev pub Among : List Pattern → List Pattern → Type 0
Among Qs Rs = (Q : Pattern) → Memᴰ Q Qs → Memᴰ Q Rs

-- a trial that passes passes with further members
pub covered_more : (S : Summary) (P : Pattern) {Qs Rs : List Pattern} → Among Qs Rs → (es : List ℕ) → covered S P Qs es ≡ true → covered S P Rs es ≡ true
unfolding covered
covered_more S P {Qs} {Rs} h es e =
    let k = any-elim (λ Q. passes S P Q es) Qs e in
    any-intro (λ Q. passes S P Q es) k.0 Rs (h k.0 k.1) k.2

pub contained-more : (S : Summary) (P : Pattern) {Qs Rs : List Pattern} → Among Qs Rs → Contained S P Qs → Contained S P Rs
contained-more S P h c W w r k = let g = c W w r k in record { pattern = g.pattern; among = h g.pattern g.among; result = g.result }

-- a further member never turns "included" into anything else, and tried stays
pub included-more : (S : Summary) (P : Pattern) {Qs Rs : List Pattern} → Among Qs Rs → (L n : ℕ) → verdict S P Qs L ≡ included n → verdict S P Rs L ≡ included n
unfolding verdict
included-more S P {Qs} {Rs} h L n e =
    let k = judge-included (covered S P Qs) L (summary_embeddings S P) n e in
    included-judge (covered S P Rs) L (summary_embeddings S P)
    (record { few = k.1.few; pass = λ es m. covered_more S P h es (k.1.pass es m) })
    ∙ ap included (sym k.0)

-- sets with the same members, in whatever order and however often, get one verdict: kind, tried, placement
pub same-members : (S : Summary) (P : Pattern) {Qs Rs : List Pattern} → Among Qs Rs → Among Rs Qs → (L : ℕ) → verdict S P Qs L ≡ verdict S P Rs L
unfolding verdict
same-members S P {Qs} {Rs} h g L =
    judge-agree (covered S P Qs) (covered S P Rs) L (summary_embeddings S P) (λ es m. bool-ext (covered S P Qs es) (covered S P Rs es) (covered_more S P h es) (covered_more S P g es))

-- so do two cases: the whole outcome, buffer and tally included
pub same_outcome : (c d : Case) → c.summary ≡ d.summary → c.first ≡ d.first → Among c.members d.members → Among d.members c.members
    → (L tally : ℕ) (buffer : List ℕ) → verdict_accepted c L tally buffer ≡ verdict_accepted d L tally buffer
unfolding verdict_accepted
same_outcome c d s p h g L tally buffer =
    ap₂ (λ (S : Summary) (P : Pattern). outcome_by S P (verdict S P c.members L) tally buffer) s p
    ∙ ap (λ (v : Verdict). outcome_by d.summary d.first v tally buffer) (same-members d.summary d.first h g L)

-- ---- a set of one

pub covered_one : (S : Summary) (P Q : Pattern) (es : List ℕ) → covered S P (Q ∷ []) es ≡ passes S P Q es
unfolding covered any_of
covered_one S P Q es = go (passes S P Q es)
  where
    go : (b : Bool) → (elim b as (λ _. Bool) [ true ↦ true | false ↦ false ]) ≡ b
    go true = refl
    go false = refl

pub verdict-one : (S : Summary) (P Q : Pattern) (L : ℕ) → verdict S P (Q ∷ []) L ≡ old_verdict S P Q L
unfolding verdict old_verdict
verdict-one S P Q L = judge-agree (covered S P (Q ∷ [])) (passes S P Q) L (summary_embeddings S P) (λ es m. covered_one S P Q es)

-- included in a set of one is what the base calls included
pub contained-one : (S : Summary) (P Q : Pattern) → Contained S P (Q ∷ []) ↔ ContainedIn S P (Result Q)
contained-one S P Q = (
  λ c W w r k. (let g = c W w r k in subst (λ (R : Pattern). Result R W r) (Memᴰ.eq_of_singleton g.among) g.result),
  λ c W w r k. record { pattern = Q; among = Memᴰ.head refl; result = c W w r k },
)

-- ---- the call on a set of one

module _ (c : OldCase) where
  all_one : (test : Pattern → Bool) (Q : Pattern) → all_of test (Q ∷ []) ≡ test Q
  unfolding all_of
  all_one test Q = go (test Q)
    where
      go : (b : Bool) → (elim b as (λ _. Bool) [ true ↦ true | false ↦ false ]) ≡ b
      go true = refl
      go false = refl

  pub counts-one : counts_in_range (one_of c) ≡ old_counts_in_range c
  unfolding counts_in_range old_counts_in_range
  counts-one =
      ap (λ (t : Bool). between 1 max_summary (length c.summary) && count_in_range (new_pattern c.first) && t) (all_one count_in_range (new_pattern c.second))
      ∙ ap₂ (λ (m n : ℕ). between 1 max_summary (length c.summary) && between 1 max_pattern m && between 1 max_pattern n) (length-map c.first new_record) (length-map c.second new_record)

  kept-one : patterns_kept (one_of c) ≡ old_patterns_kept c
  unfolding patterns_kept old_patterns_kept
  kept-one = ap (λ (t : Bool). pattern_kept (new_pattern c.first) && t) (all_one pattern_kept (new_pattern c.second))

  and_assoc : (a b d : Bool) → (a && (b && d)) ≡ (a && b && d)
  and_assoc true b d = refl
  and_assoc false b d = refl

  positions-one : positions_kept (one_of c) ≡ old_positions_kept c
  unfolding positions_kept old_positions_kept
  positions-one =
      let P : Pattern = new_pattern c.first in
      let Q : Pattern = new_pattern c.second in
      ap (λ (t : Bool). positions_once P && t) (all_one (λ R. positions_once R && eqb (arity P) (arity R)) Q)
      ∙ and_assoc (positions_once P) (positions_once Q) (eqb (arity P) (arity Q))

-- figures given are 0, so question 17 is answered yes
given-figures : (P : OldPattern) → pattern_figures (new_pattern P) ≡ true
unfolding pattern_figures figure_in_range
given-figures P =
    below_all (λ q. figure_in_range (pattern_figure (new_pattern P) q)) (length (new_pattern P))
    (λ q h. ap (λ (r : PatternRecord). figure_in_range r.figure) (get_or-map new_record P q no_old_record))

figures-one : (c : OldCase) → figures_kept (one_of c) ≡ true
unfolding figures_kept
figures-one c = and_intro (given-figures c.first) (all_one c pattern_figures (new_pattern c.second) ∙ given-figures c.second)

one-in-range : (c : OldCase) → set_in_range (one_of c) ≡ true
unfolding set_in_range
one-in-range c = refl

-- 3 to 8 with these answers on the whole, on counts, patterns and positions, and what is asked after
asked : OldCase → Bool → Bool → Bool → Bool → List Question → List Question
asked c whole counts patterns positions after =
    ask 3 whole ∷ ask 4 counts ∷ ask 5 (summary_kept c.summary) ∷ ask 6 (siblings_differ c.summary) ∷ ask 7 patterns ∷ ask 8 positions ∷ after

module _ {a b : List ℕ} (s : SetOfOne a b) where
  -- both are refused alike, whatever is asked before and after
  pub refused-one : (before after : List Question) → refusal (before ++ (case_questions b ++ after)) ≡ refusal (before ++ (old_questions a ++ after))
  unfolding case_questions old_questions case_whole asked
  refused-one before after =
      let c : OldCase = old_case_of a in
      let four : List Question = ask 3 (is_whole_case b) ∷ ask 4 (counts_in_range (one_of c)) ∷ [] in
      let set : Question = ask 14 (set_in_range (one_of c)) in
      let three : List Question = ask 5 (summary_kept c.summary) ∷ ask 6 (siblings_differ c.summary) ∷ ask 7 (patterns_kept (one_of c)) ∷ [] in
      let figures : Question = ask 17 (figures_kept (one_of c)) in
      let rest : List Question = ask 8 (positions_kept (one_of c)) ∷ after in
      ap (λ (d : Case). refusal (before ++ (ask 3 (is_whole_case b) ∷ ask 4 (counts_in_range d) ∷ ask 14 (set_in_range d) ∷ ask 5 (summary_kept d.summary)
      ∷ ask 6 (siblings_differ d.summary) ∷ ask 7 (patterns_kept d) ∷ ask 17 (figures_kept d) ∷ ask 8 (positions_kept d) ∷ after))) s.same
      ∙ ap refusal (sym (append_assoc before four (set ∷ (three ++ (figures ∷ rest))))) ∙ refusal-drop (before ++ four) set (three ++ (figures ∷ rest)) (one-in-range c)
      ∙ ap refusal (append_assoc before four (three ++ (figures ∷ rest)) ∙ sym (append_assoc before (four ++ three) (figures ∷ rest)))
      ∙ refusal-drop (before ++ (four ++ three)) figures rest (figures-one c) ∙ ap refusal (append_assoc before (four ++ three) rest)
      ∙ λ i. refusal (before ++ asked c ((s.new ∙ sym s.old) i) (counts-one c i) (kept-one c i) (positions-one c i) after)

  refusal-one : (L caller tally bytes : ℕ) → caller < callers → verdict_refusal b L caller tally bytes ≡ old_verdict_refusal a L tally bytes
  unfolding verdict_refusal old_verdict_refusal caller_in_range
  refusal-one L caller tally bytes h =
      let before : List Question = ask 1 (limit_in_range L) ∷ ask 2 (buffer_large_enough bytes) ∷ [] in
      let after : List Question = ask 9 (tally_in_range tally L) ∷ [] in
      refusal-drop (before ++ case_questions b) (ask 16 (caller_in_range caller)) after (lt-ltb caller callers h) ∙ refused-one before after

  -- the base's outcome, whole: refusal, kind, tried, tally, every byte; whichever of the callers asks
  pub call-one : (L caller tally : ℕ) (buffer : List ℕ) → caller < callers → verdict_call b L caller tally buffer ≡ old_verdict_call a L tally buffer
  unfolding verdict_call old_verdict_call verdict_accepted old_accepted
  call-one L caller tally buffer h =
      let c : OldCase = old_case_of a in
      ap₂ (λ (n : ℕ) (o : VerdictOutcome). elim (eqb n 0) as (λ _. VerdictOutcome) [ true ↦ o | false ↦ verdict_refused n tally buffer ])
      (refusal-one L caller tally (length buffer) h)
      (ap (λ (d : Case). verdict_accepted d L tally buffer) s.same
      ∙ ap (λ (v : Verdict). outcome_by c.summary (new_pattern c.first) v tally buffer) (verdict-one c.summary (new_pattern c.first) (new_pattern c.second) L))

-- ---- such a pair of bytes, of every old case that fits

module _ (c : OldCase) (old : FitFields (old_fields c)) where
  abbrev second_part : List ℕ
  second_part = section_fields old_record_fields c.second

  holds-second : Holds (encode_old_case c) (second_at (encode_old_case c)) second_part
  unfolding encode_old_case old_fields
  holds-second = holds-rest old_record_at old_record_fields old_width old-readable no_old_record c.summary c.first second_part old

  pub old-back : old_case_of (encode_old_case c) ≡ c
  unfolding old_case_of encode_old_case old_fields
  old-back =
      let w : List ℕ = encode_old_case c in
      let s : section summary_record_at summary_width w 0 ≡ c.summary = summary-back old_record_at old_record_fields old_width old-readable no_old_record c.summary c.first second_part old in
      let f : section old_record_at old_width w (first_at w) ≡ c.first = first_back old_record_at old_record_fields old_width old-readable no_old_record c.summary c.first second_part old in
      let g : section old_record_at old_width w (second_at w) ≡ c.second = section-back old_record_at old_record_fields old_width old-readable w no_old_record (second_at w) c.second holds-second in
      λ i. record { summary = s i; first = f i; second = g i }

  old-length : length (encode_old_case c) ≡ 2 * old_end (encode_old_case c)
  unfolding encode_old_case old_fields
  old-length =
      written-length old_record_at old_record_fields old_width old-readable no_old_record c.summary c.first second_part old (old_end (encode_old_case c))
      (section-end old_record_at old_record_fields old_width old-readable (encode_old_case c) (second_at (encode_old_case c)) c.second holds-second)

  pub old-whole : length (encode_old_case c) ≤ max_case_bytes → old_whole (encode_old_case c) ≡ true
  unfolding old_whole
  old-whole h = and_intro (le-leb (length (encode_old_case c)) max_case_bytes h) (eq-eqb (length (encode_old_case c)) (2 * old_end (encode_old_case c)) old-length)

  pub encoded-one : FitFields (case_fields (one_of c)) → length (encode_old_case c) ≤ max_case_bytes → length (encode_case (one_of c)) ≤ max_case_bytes → SetOfOne (encode_old_case c) (encode_case (one_of c))
  encoded-one new h k = record { old = old-whole h; new = case-whole (one_of c) new k; same = case-back (one_of c) new ∙ ap one_of (sym old-back) }
