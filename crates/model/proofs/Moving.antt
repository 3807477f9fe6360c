-- Moving the filed cases over: for every case that a tool accepts, what it writes is accepted by the other, and there and back gives the
-- same bytes, both ways. Because bytes that are read and written again are the same, tables that are written and read again are the
-- same, and between the two forms nothing but the count of the set comes and goes. Assumes nothing.
use Prim.Native.Nat.{ℕ, suc, ◌+◌, ◌*◌, ◌≤◌, ◌<◌}
use mathlib.Core.Path.{◌≡◌, refl, sym, ap, ◌∙◌}
use mathlib.Core.Bool.{true, ◌&&◌}
use mathlib.Core.Logic.{◌⊎◌, inl, inr, ◌≢◌}
use mathlib.Core.List.Memᴰ
use mathlib.Core.List.{List, [], ◌∷◌, ◌++◌, append-nil, Memᴰ}
use native.Mathlib.Omega.{arith}
use lib.Dec.{eqb}
use lib.ListN.{length, get_or, length-append, length-map}
use borrow.Author.Tests.{eqb-true, leb-true, le-leb}
use Rattle.model.specs.Lists.{all_of}
use Rattle.model.specs.Limits.{callers, min_buffer, max_summary, max_pattern, summary_width, pattern_width}
use Rattle.model.specs.Pattern.{Pattern}
use Rattle.model.specs.Bytes.{summary_record_at, pattern_record_at, Case, case_of, summary_fields, pattern_fields, section_fields, set_fields, case_fields, encode_case, AreBytes}
use Rattle.model.specs.Questions.{between, buffer_large_enough, case_whole, counts_in_range, Question, ask, refusal, case_questions}
use Rattle.model.specs.Calls.{CountOutcome, count_refused, verdict_call}
use Rattle.model.specs.OldForm.{OldPattern, OldCase, old_width, old_record_at, old_record_fields, old_case_of, old_fields, encode_old_case, new_record, new_pattern, one_of, old_pattern, old_of, old_whole, old_counts_in_range, old_questions, SetOfOne, old_verdict_call}
use Rattle.model.specs.Moving.{figureless, goes_back, upgrade_refusal, downgrade_refusal, upgraded, downgraded, moved_accepted, moved_call, upgrade_call, downgrade_call}
use Rattle.model.specs.Demands.{Upgraded, Downgraded}
use Rattle.model.proofs.ListLaws.{and_intro, and_left, and_right, all-intro, all-elim, mem-at}
use Rattle.model.proofs.Bytes.{length-bytes, length-section, summary-readable, pattern-readable, old-readable, case-back, case-whole}
use Rattle.model.proofs.Refusals.{AllYes, refusal-none, accepted-all-yes, all-yes-append}
use Rattle.model.proofs.CaseFacts.{between-facts, all_asked}
use Rattle.model.proofs.Calls.{chosen-accepted, chosen-refused}
use Rattle.model.proofs.Sets.{counts-one, refused-one, call-one, old-back, old-whole}
use Rattle.model.proofs.WriteBack.{old-new, new-old, one-fields, upgraded-fit, downgraded-fit, encode-case, encode-old}

-- ---- the calls go by their refusals

module _ (number : ℕ) (written buffer : List ℕ) where
  pub moved-refused : number ≢ 0 → moved_call number written buffer ≡ record { answer = record { refused = number; count = 0 }; buffer = buffer }
  unfolding moved_call count_refused
  moved-refused f = chosen-refused number (moved_accepted written buffer) (count_refused number buffer) f

  pub moved-accepted : number ≡ 0 → moved_call number written buffer ≡ moved_accepted written buffer
  unfolding moved_call
  moved-accepted e = chosen-accepted number (moved_accepted written buffer) (count_refused number buffer) e

-- ---- what an accepted call has

pub record UpgradeFacts (b : List ℕ) (buffer_bytes : ℕ) : Type 0 where
  pub asked : AllYes (old_questions b)
  pub buffer : min_buffer ≤ buffer_bytes

pub accepted-upgrade : (b : List ℕ) (buffer_bytes : ℕ) → upgrade_refusal b buffer_bytes ≡ 0 → UpgradeFacts b buffer_bytes
unfolding upgrade_refusal buffer_large_enough old_questions
accepted-upgrade b buffer_bytes e =
    let y = accepted-all-yes (ask 2 (buffer_large_enough buffer_bytes) ∷ old_questions b)
    (omega arith, (omega arith, (omega arith, (omega arith, (omega arith, (omega arith, (omega arith, tt))))))) e in
    record { asked = y.1; buffer = leb-true min_buffer buffer_bytes y.0 }

pub record DowngradeFacts (b : List ℕ) (buffer_bytes : ℕ) : Type 0 where
  pub asked : AllYes (case_questions b)
  pub one : goes_back (case_of b) ≡ true
  pub buffer : min_buffer ≤ buffer_bytes

pub accepted-downgrade : (b : List ℕ) (buffer_bytes : ℕ) → downgrade_refusal b buffer_bytes ≡ 0 → DowngradeFacts b buffer_bytes
unfolding downgrade_refusal buffer_large_enough
accepted-downgrade b buffer_bytes e =
    let y = all_asked b (ask 2 (buffer_large_enough buffer_bytes) ∷ []) (ask 15 (goes_back (case_of b)) ∷ []) (omega arith, tt) (omega arith, tt) e in
    record { asked = y.1; one = y.2.0; buffer = leb-true min_buffer buffer_bytes y.0.0 }

-- ---- sizes

module _ (c : OldCase) where
  new-size : length (case_fields (one_of c)) ≡ 4 + 3 * length c.summary + 5 * length c.first + 5 * length c.second
  unfolding case_fields
  new-size =
      let S : List ℕ = section_fields summary_fields c.summary in
      let P : List ℕ = section_fields pattern_fields (new_pattern c.first) in
      let Q : List ℕ = section_fields pattern_fields (new_pattern c.second) in
      let e : S ++ (P ++ set_fields (new_pattern c.second ∷ [])) ≡ S ++ (P ++ (1 ∷ Q)) = ap (λ (y : List ℕ). S ++ (P ++ y)) (one-fields (new_pattern c.second)) in
      let f : length (S ++ (P ++ (1 ∷ Q))) ≡ length S + length (P ++ (1 ∷ Q)) = length-append S (P ++ (1 ∷ Q)) in
      let g : length (P ++ (1 ∷ Q)) ≡ length P + suc (length Q) = length-append P (1 ∷ Q) in
      let s : length S ≡ 1 + 3 * length c.summary = length-section summary_record_at summary_fields summary_width summary-readable c.summary in
      let p : length P ≡ 1 + 5 * length (new_pattern c.first) = length-section pattern_record_at pattern_fields pattern_width pattern-readable (new_pattern c.first) in
      let q : length Q ≡ 1 + 5 * length (new_pattern c.second) = length-section pattern_record_at pattern_fields pattern_width pattern-readable (new_pattern c.second) in
      let m = length-map c.first new_record in
      let n = length-map c.second new_record in
      ap length e ∙ omega arith

  old-size : length (old_fields c) ≡ 3 + 3 * length c.summary + 4 * length c.first + 4 * length c.second
  unfolding old_fields
  old-size =
      let S : List ℕ = section_fields summary_fields c.summary in
      let P : List ℕ = section_fields old_record_fields c.first in
      let Q : List ℕ = section_fields old_record_fields c.second in
      let h : length (S ++ (P ++ Q)) ≡ length S + length (P ++ Q) = length-append S (P ++ Q) in
      let k : length (P ++ Q) ≡ length P + length Q = length-append P Q in
      let s : length S ≡ 1 + 3 * length c.summary = length-section summary_record_at summary_fields summary_width summary-readable c.summary in
      let p : length P ≡ 1 + 4 * length c.first = length-section old_record_at old_record_fields old_width old-readable c.first in
      let q : length Q ≡ 1 + 4 * length c.second = length-section old_record_at old_record_fields old_width old-readable c.second in
      omega arith

  module _ (counts : old_counts_in_range c ≡ true) where
    counts-few : (length c.summary ≤ 64) × (length c.first ≤ 16) × (length c.second ≤ 16)
    unfolding old_counts_in_range
    counts-few =
        let s = between-facts 1 max_summary (length c.summary) (and_left _ _ (and_left _ _ counts)) in
        let p = between-facts 1 max_pattern (length c.first) (and_right (between 1 max_summary (length c.summary)) _ (and_left _ _ counts)) in
        let q = between-facts 1 max_pattern (length c.second)
        (and_right (between 1 max_summary (length c.summary) && between 1 max_pattern (length c.first)) _ counts) in
        (s.1, p.1, q.1)

    new-small : length (encode_case (one_of c)) ≤ 712
    unfolding encode_case
    new-small = omega (arith, length-bytes (case_fields (one_of c)), new-size, counts-few.0, counts-few.1, counts-few.2)

    old-small : length (encode_old_case c) ≤ 646
    unfolding encode_old_case
    old-small = omega (arith, length-bytes (old_fields c), old-size, counts-few.0, counts-few.1, counts-few.2)

-- ---- old to new

-- figures given are 0
given-figureless : (P : OldPattern) → figureless (new_pattern P) ≡ true
unfolding figureless all_of
given-figureless [] = refl
given-figureless (r ∷ P) = given-figureless P

-- so the case that an old one is goes back
one_goes_back : (c : OldCase) → goes_back (one_of c) ≡ true
unfolding goes_back
one_goes_back c = and_intro refl (and_intro (given-figureless c.first) (all-intro figureless (new_pattern c.second ∷ []) (λ Q m. only Q (Memᴰ.cases_cons m))))
  where
    only : (Q : Pattern) → (Q ≡ new_pattern c.second) ⊎ Memᴰ Q [] → figureless Q ≡ true
    only Q (inl e) = ap figureless e ∙ given-figureless c.second
    only Q (inr n) = absurd (Memᴰ.not-nil n)

module _ (b : List ℕ) (small : AreBytes b) where
  module _ (whole : old_whole b ≡ true) (counts : old_counts_in_range (old_case_of b) ≡ true) where
    -- what is written is the old case with a set of one
    pub upgraded-one : SetOfOne b (upgraded b)
    unfolding upgraded
    upgraded-one =
        record {
          old = whole;
          new = case-whole (one_of (old_case_of b)) (upgraded-fit b small) (omega (arith, new-small (old_case_of b) counts));
          same = case-back (one_of (old_case_of b)) (upgraded-fit b small);
        }

    -- and small
    pub upgraded-small : length (upgraded b) ≤ 712
    unfolding upgraded
    upgraded-small = new-small (old_case_of b) counts

    -- its questions are the old case's
    pub upgraded-asked : refusal (case_questions (upgraded b)) ≡ refusal (old_questions b)
    upgraded-asked =
        ap refusal (sym (append-nil (case_questions (upgraded b)))) ∙ refused-one upgraded-one [] [] ∙ ap refusal (append-nil (old_questions b))

    -- going back gives the bytes that were given
    upgraded-back : downgraded (upgraded b) ≡ b
    unfolding downgraded
    upgraded-back =
        let c : OldCase = old_case_of b in
        let again : old_of (one_of c) ≡ c = λ i. record { summary = c.summary; first = new-old c.first i; second = new-old c.second i } in
        ap (λ (d : Case). encode_old_case (old_of d)) upgraded-one.same ∙ ap encode_old_case again ∙ encode-old b small whole

  upgraded-returns : AllYes (old_questions b) → (lent : List ℕ) → min_buffer ≤ length lent → downgrade_call (upgraded b) lent ≡ moved_accepted b lent
  unfolding downgrade_refusal buffer_large_enough old_questions
  upgraded-returns y lent h =
      let one : SetOfOne b (upgraded b) = upgraded-one y.0 y.1.0 in
      let single : goes_back (case_of (upgraded b)) ≡ true = ap goes_back one.same ∙ one_goes_back (old_case_of b) in
      let large : buffer_large_enough (length lent) ≡ true = le-leb min_buffer (length lent) h in
      let none : downgrade_refusal (upgraded b) (length lent) ≡ 0 =
      refused-one one (ask 2 (buffer_large_enough (length lent)) ∷ []) (ask 15 (goes_back (case_of (upgraded b))) ∷ [])
      ∙ refusal-none (ask 2 (buffer_large_enough (length lent)) ∷ (old_questions b ++ (ask 15 (goes_back (case_of (upgraded b))) ∷ [])))
      (large, all-yes-append (old_questions b) (ask 15 (goes_back (case_of (upgraded b))) ∷ []) y (single, tt)) in
      moved-accepted (downgrade_refusal (upgraded b) (length lent)) (downgraded (upgraded b)) lent none ∙ ap (λ (w : List ℕ). moved_accepted w lent) (upgraded-back y.0 y.1.0)

  -- Old to new to old gives the same bytes, for every accepted case
  pub upgrade-moved : (before : List ℕ) → upgrade_refusal b (length before) ≡ 0 → Upgraded b before (upgrade_call b before)
  unfolding moved_accepted old_questions
  upgrade-moved before e =
      let f = accepted-upgrade b (length before) e in
      let q : upgrade_call b before ≡ moved_accepted (upgraded b) before = moved-accepted (upgrade_refusal b (length before)) (upgraded b) before e in
      let y : AllYes (old_questions b) = f.asked in
      record {
        accepted = ap (λ (o : CountOutcome). o.answer.refused) q;
        written = upgraded b;
        count = ap (λ (o : CountOutcome). o.answer.count) q;
        buffer = ap (λ (o : CountOutcome). o.buffer) q;
        whole = omega (arith, upgraded-small y.0 y.1.0, f.buffer);
        same = upgraded-one y.0 y.1.0;
        returns = upgraded-returns y;
      }

-- every verdict of a caller 0 to 7 on what is written is the base's verdict on the old case: refusal, kind, tried, tally, every byte
pub upgraded-verdict : (b : List ℕ) → AreBytes b → (buffer_bytes : ℕ) → upgrade_refusal b buffer_bytes ≡ 0 → (L caller tally : ℕ) (buffer : List ℕ)
    → caller < callers → verdict_call (upgraded b) L caller tally buffer ≡ old_verdict_call b L tally buffer
unfolding old_questions
upgraded-verdict b small buffer_bytes e = let y = (accepted-upgrade b buffer_bytes e).asked in call-one (upgraded-one b small y.0 y.1.0)

-- ---- new to old

-- a set of one is its first selection
first_alone : (Qs : List Pattern) → length Qs ≡ 1 → get_or Qs 0 [] ∷ [] ≡ Qs
first_alone [] e = absurd (omega arith)
first_alone (Q ∷ []) e = refl
first_alone (Q ∷ R ∷ Qs) e = absurd (omega arith)

-- what goes back has one member, and no figures
pub record GoesBack (c : Case) : Type 0 where
  pub one : length c.members ≡ 1
  pub first : figureless c.first ≡ true
  pub second : figureless (get_or c.members 0 []) ≡ true

pub goes_back_lem : (c : Case) → goes_back c ≡ true → GoesBack c
unfolding goes_back
goes_back_lem c e =
    let n : length c.members ≡ 1 = eqb-true (length c.members) 1 (and_left _ _ e) in
    let f : (figureless c.first && all_of figureless c.members) ≡ true = and_right (eqb (length c.members) 1) _ e in
    record {
      one = n;
      first = and_left _ _ f;
      second = all-elim figureless c.members (and_right (figureless c.first) _ f) (get_or c.members 0 []) (mem-at c.members 0 [] (omega arith));
    }

-- and goes back to the old case that it is
pub one_again : (c : Case) → goes_back c ≡ true → one_of (old_of c) ≡ c
one_again c e =
    let g = goes_back_lem c e in
    let m : new_pattern (old_pattern (get_or c.members 0 [])) ∷ [] ≡ c.members =
    ap (λ (Q : Pattern). Q ∷ []) (old-new (get_or c.members 0 []) g.second) ∙ first_alone c.members g.one in
    λ i. record { summary = c.summary; first = old-new c.first g.first i; members = m i }

module _ (b : List ℕ) (small : AreBytes b) (y : AllYes (case_questions b)) (single : goes_back (case_of b) ≡ true) where
  abbrev d : OldCase
  d = old_of (case_of b)

  downgraded-counts : old_counts_in_range d ≡ true
  unfolding case_questions
  downgraded-counts = sym (counts-one d) ∙ ap counts_in_range (one_again (case_of b) single) ∙ y.1.0

  -- what is written is an old case that is the given one with a set of one
  pub downgraded-one : SetOfOne (downgraded b) b
  unfolding downgraded case_questions case_whole
  downgraded-one =
      record {
        old = old-whole d (downgraded-fit b small (goes_back_lem (case_of b) single).one) (omega (arith, old-small d downgraded-counts));
        new = y.0;
        same = sym (ap one_of (old-back d (downgraded-fit b small (goes_back_lem (case_of b) single).one)) ∙ one_again (case_of b) single);
      }

  -- and small
  pub downgraded-small : length (downgraded b) ≤ 646
  unfolding downgraded
  downgraded-small = old-small d downgraded-counts

  downgraded-back : upgraded (downgraded b) ≡ b
  unfolding upgraded case_questions case_whole
  downgraded-back = ap encode_case (sym downgraded-one.same) ∙ encode-case b small y.0

  downgraded-returns : (lent : List ℕ) → min_buffer ≤ length lent → upgrade_call (downgraded b) lent ≡ moved_accepted b lent
  unfolding upgrade_refusal buffer_large_enough
  downgraded-returns lent h =
      let front : Question = ask 2 (buffer_large_enough (length lent)) in
      let large : buffer_large_enough (length lent) ≡ true = le-leb min_buffer (length lent) h in
      let none : upgrade_refusal (downgraded b) (length lent) ≡ 0 =
      ap (λ (qs : List Question). refusal (front ∷ qs)) (sym (append-nil (old_questions (downgraded b)))) ∙ sym (refused-one downgraded-one (front ∷ []) [])
      ∙ refusal-none (front ∷ (case_questions b ++ [])) (large, all-yes-append (case_questions b) [] y tt) in
      moved-accepted (upgrade_refusal (downgraded b) (length lent)) (upgraded (downgraded b)) lent none ∙ ap (λ (w : List ℕ). moved_accepted w lent) downgraded-back

-- New to old to new gives the same bytes, for every accepted case
pub downgrade-moved : (b : List ℕ) → AreBytes b → (before : List ℕ) → downgrade_refusal b (length before) ≡ 0 → Downgraded b before (downgrade_call b before)
unfolding moved_accepted
downgrade-moved b small before e =
    let f = accepted-downgrade b (length before) e in
    let q : downgrade_call b before ≡ moved_accepted (downgraded b) before = moved-accepted (downgrade_refusal b (length before)) (downgraded b) before e in
    record {
      accepted = ap (λ (o : CountOutcome). o.answer.refused) q;
      written = downgraded b;
      count = ap (λ (o : CountOutcome). o.answer.count) q;
      buffer = ap (λ (o : CountOutcome). o.buffer) q;
      whole = omega (arith, downgraded-small b small f.asked f.one, f.buffer);
      same = downgraded-one b small f.asked f.one;
      returns = downgraded-returns b small f.asked f.one;
    }
