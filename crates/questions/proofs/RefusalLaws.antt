-- A refusal's number tells it, and `?` passes it on; a question that held, and what later questions require of those before them. What a call
-- leads to that asks questions in order is found by computing `refusal` over them. Assumes nothing.
use Prim.Native.Nat.{ℕ}
use mathlib.Core.Path.{◌≡◌, refl, sym, ap, ◌∙◌}
use mathlib.Core.Bool.{Bool, true, false}
use mathlib.Core.List.{List, [], ◌∷◌, ◌++◌}
use native.Mathlib.Omega.{arith}
use lib.ListN.{get_or}
use borrow.Author.Rules.{rules}
use Rattle.std.proofs.Common.{Result, Ok, Err, IsErrAnd, if◌then◌else◌}
use Rattle.std.proofs.lemmas.Result.{err_from_is_err_and}
use Rattle.model.specs.Bytes.{is_whole_case}
use Rattle.model.specs.Questions.{case_whole, ask, Question, refusal, case_questions}
use Rattle.model.proofs.Refusals.{AllYes, Numbered, accepted-all-yes, refusal-after, refusal-kept, refusal-yes}
use Rattle.questions.specs.declared.refusal.Refusal.{Refusal}
use Rattle.questions.specs.declared.refusal.Refusal.TheVariants.{Limit, Room, Bytes, Counts, SummaryRecords, Siblings, PatternRecords, Positions, Tally, Document, ResultList, PatternNumber, Embedding, SetCount, OldForm, Caller, Figure}
use Rattle.questions.specs.Refusal.{number_of, asked}

-- ---- the number of a refusal

of_number : ℕ → Refusal
of_number n = get_or (Limit ∷ Limit ∷ Room ∷ Bytes ∷ Counts ∷ SummaryRecords ∷ Siblings ∷ PatternRecords ∷ Positions ∷ Tally ∷ Document ∷ ResultList ∷ PatternNumber ∷ Embedding ∷ SetCount ∷ OldForm ∷ Caller ∷ Figure ∷ []) n Limit

back : (r : Refusal) → of_number (number_of r) ≡ r
unfolding of_number
back Limit = refl
back Room = refl
back Bytes = refl
back Counts = refl
back SummaryRecords = refl
back Siblings = refl
back PatternRecords = refl
back Positions = refl
back Tally = refl
back Document = refl
back ResultList = refl
back PatternNumber = refl
back Embedding = refl
back SetCount = refl
back OldForm = refl
back Caller = refl
back Figure = refl

-- it tells the refusal
pub number-tells : (r s : Refusal) → number_of r ≡ number_of s → r ≡ s
number-tells r s e = sym (back r) ∙ ap of_number e ∙ back s

-- and is none that says there is none
pub number-not_zero : (r : Refusal) → number_of r ≡ 0 → ⊥
unfolding of_number
number-not_zero r e = let k : 1 ≡ number_of r = ap number_of (ap of_number (sym e) ∙ back r) in omega arith

-- what was asked leads to 0 exactly where there is no refusal
pub asked-ok : {T : Type 0} (a : Result T Refusal) → asked a ≡ 0 → (x : T) × (a ≡ Ok x)
asked-ok (Ok x) e = (x, refl)
asked-ok (Err r) e = absurd (number-not_zero r e)

-- a refusal is passed on by `?` as it is
pub passed_on : {T : Type 0} (a : Result T Refusal) (r : Refusal) → IsErrAnd a (λ s. s ≡ r) → asked a ≡ number_of r
passed_on a r h = let p = err_from_is_err_and a h in ap asked (p.1 ∙ ap Err p.2)

-- ---- one question: `hold(answer, r)?`

pub held : {x : Unit {0}} (answer : Bool) (r : Refusal) → Ok x ≡ (if answer then Ok tt else Err r) → answer ≡ true
held true r e = refl
held false r e = cc

pub asked-yes : {x : Unit {0}} (k n : ℕ) (r : Refusal) (answer test : Bool) (rest : List Question) → Ok x ≡ (if answer then Ok tt else Err r) → answer ≡ test → k ≡ refusal rest → k ≡ refusal (ask n test ∷ rest)
asked-yes k n r answer test rest h e after = after ∙ sym (refusal-yes (ask n test) rest (sym e ∙ held answer r h))

-- the last one, whose answer is returned
pub asked-last : (a : Result (Unit {0}) Refusal) (r : Refusal) (n : ℕ) (answer test : Bool) → a ≡ (if answer then Ok tt else Err r) → answer ≡ test → n ≡ number_of r → asked a ≡ refusal (ask n test ∷ [])
unfolding refusal
asked-last a r n true true h e c = ap asked h
asked-last a r n false false h e c = ap asked h ∙ sym c
asked-last a r n true false h e c = cc
asked-last a r n false true h e c = cc

-- ---- the case questions

pub case-numbered : (b : List ℕ) → Numbered (case_questions b)
unfolding case_questions
case-numbered b = (omega arith, (omega arith, (omega arith, (omega arith, (omega arith, (omega arith, (omega arith, (omega arith, tt))))))))

all_yes : (b : List ℕ) → refusal (case_questions b) ≡ 0 → AllYes (case_questions b)
all_yes b e = accepted-all-yes (case_questions b) (case-numbered b) e

pub case-no : {T : Type 0} (a : Result T Refusal) (s : Refusal) (b : List ℕ) (rest : List Question) → number_of s ≡ refusal (case_questions b) → IsErrAnd a (λ t. t ≡ s)
    → asked a ≡ refusal (case_questions b ++ rest)
case-no a s b rest e p = passed_on a s p ∙ e ∙ sym (refusal-kept (case_questions b) rest (λ z. number-not_zero s (e ∙ z)))

pub case-yes : (k : ℕ) (b : List ℕ) (rest : List Question) → 0 ≡ refusal (case_questions b) → k ≡ refusal rest → k ≡ refusal (case_questions b ++ rest)
case-yes k b rest e after = after ∙ sym (refusal-after (case_questions b) rest (all_yes b (sym e)))

-- ---- what later questions require of the bytes

pub whole_held : {x : Unit {0}} (answer : Bool) (r : Refusal) (b : List ℕ) → Ok x ≡ (if answer then Ok tt else Err r) → answer ≡ case_whole b → is_whole_case b ≡ true
unfolding case_whole
whole_held answer r b h e = sym e ∙ held answer r h

pub test_held : {x : Unit {0}} (answer : Bool) (r : Refusal) (test : Bool) → Ok x ≡ (if answer then Ok tt else Err r) → answer ≡ test → test ≡ true
test_held answer r test h e = sym e ∙ held answer r h

pub accepted-whole : (b : List ℕ) → refusal (case_questions b) ≡ 0 → is_whole_case b ≡ true
unfolding case_questions case_whole
accepted-whole b e = (all_yes b e).0

pub ruleset required = (rules, whole_held, test_held, accepted-whole)
