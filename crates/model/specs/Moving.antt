-- Moving the filed cases over (document 02, #102): the refusal and the whole outcome of the tool that turns an old case into a set of one,
-- and of the tool that turns a set of one back.
use Rattle.std.specs.Prelude.{ℕ, Bool, true, false, ◌&&◌, List, [], ◌∷◌, ◌++◌, eqb, length}
use Rattle.model.specs.Lists.{all_of}
use Rattle.model.specs.Pattern.{PatternRecord, Pattern}
use Rattle.model.specs.Bytes.{Case, case_of, encode_case, written_at_front}
use Rattle.model.specs.Questions.{buffer_large_enough, ask, refusal, case_questions}
use Rattle.model.specs.Calls.{CountOutcome, count_refused}
use Rattle.model.specs.OldForm.{old_case_of, encode_old_case, one_of, old_of, old_questions}

-- 15. Going back, has the set one selection, and is every least figure 0?
unfoldable pub figureless : Pattern → Bool
figureless P = all_of (λ (r : PatternRecord). eqb r.figure 0) P

unfoldable pub goes_back : Case → Bool
goes_back c = eqb (length c.members) 1 && (figureless c.first && all_of figureless c.members)

-- old to new: 2, then the base's 3 to 8
unfoldable pub upgrade_refusal : List ℕ → ℕ → ℕ
upgrade_refusal b buffer_bytes = refusal (ask 2 (buffer_large_enough buffer_bytes) ∷ old_questions b)

-- new to old: 2, then all questions on the case, then 15
unfoldable pub downgrade_refusal : List ℕ → ℕ → ℕ
downgrade_refusal b buffer_bytes = refusal (ask 2 (buffer_large_enough buffer_bytes) ∷ case_questions b ++ ask 15 (goes_back (case_of b)) ∷ [])

-- the bytes of the set of one that an old case is, and of the old case that a set of one goes back to
unfoldable pub upgraded : List ℕ → List ℕ
upgraded b = encode_case (one_of (old_case_of b))

unfoldable pub downgraded : List ℕ → List ℕ
downgraded b = encode_old_case (old_of (case_of b))

-- they go to the front of the answer buffer, and their number is the count
unfoldable pub moved_accepted : List ℕ → List ℕ → CountOutcome
moved_accepted written buffer = record { answer = record { refused = 0; count = length written }; buffer = written_at_front written buffer }

-- where the refusal's number is not 0, nothing is written
unfoldable pub moved_call : ℕ → List ℕ → List ℕ → CountOutcome
moved_call number written buffer = elim (eqb number 0) [ true ↦ moved_accepted written buffer | false ↦ count_refused number buffer ]

-- Old to new: case, answer buffer
abbrev pub upgrade_call : List ℕ → List ℕ → CountOutcome
upgrade_call b buffer = moved_call (upgrade_refusal b (length buffer)) (upgraded b) buffer

-- New to old: case, answer buffer
abbrev pub downgrade_call : List ℕ → List ℕ → CountOutcome
downgrade_call b buffer = moved_call (downgrade_refusal b (length buffer)) (downgraded b) buffer
