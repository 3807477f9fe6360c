-- Refusals: a refusal is the number of the first question whose answer is no, because each question is asked only where all before it
-- were answered yes. Assumes nothing.
use Prim.Native.Nat.{ℕ}
use mathlib.Core.Path.{◌≡◌, refl, sym, ap, ◌∙◌}
use mathlib.Core.Bool.{true, false}
use mathlib.Core.Logic.{◌⊎◌, inl, inr, ◌≢◌}
use mathlib.Core.List.{List, [], ◌∷◌, ◌++◌, append-nil}
use Rattle.model.specs.Questions.{Question, refusal}
use Rattle.model.proofs.ListLaws.{true-or-false}

pub refusal-yes : (q : Question) (qs : List Question) → q.answer ≡ true → refusal (q ∷ qs) ≡ refusal qs
unfolding refusal
refusal-yes q qs y = rw (y, refusal) refl

pub refusal-no : (q : Question) (qs : List Question) → q.answer ≡ false → refusal (q ∷ qs) ≡ q.number
unfolding refusal
refusal-no q qs n = rw (n, refusal) refl

-- every answer is yes
abbrev pub AllYes : List Question → Type 0
AllYes [] = Unit {0}
AllYes (q ∷ qs) = (q.answer ≡ true) × AllYes qs

-- every number can be told from an acceptance
abbrev pub Numbered : List Question → Type 0
Numbered [] = Unit {0}
Numbered (q ∷ qs) = (q.number ≢ 0) × Numbered qs

-- where every answer is yes, what comes after decides
pub refusal-after : (qs rs : List Question) → AllYes qs → refusal (qs ++ rs) ≡ refusal rs
refusal-after [] rs y = refl
refusal-after (q ∷ qs) rs y = refusal-yes q (qs ++ rs) y.0 ∙ refusal-after qs rs y.1

pub refusal-none : (qs : List Question) → AllYes qs → refusal qs ≡ 0
unfolding refusal
refusal-none qs y = ap refusal (sym (append-nil qs)) ∙ refusal-after qs [] y

-- the refusal is the number of the first question whose answer is no, whatever comes after
pub refusal-first : (qs : List Question) (q : Question) (rs : List Question) → AllYes qs → q.answer ≡ false → refusal (qs ++ q ∷ rs) ≡ q.number
refusal-first qs q rs y n = refusal-after qs (q ∷ rs) y ∙ refusal-no q rs n

pub accepted-all-yes : (qs : List Question) → Numbered qs → refusal qs ≡ 0 → AllYes qs
accepted-all-yes [] k e = tt
accepted-all-yes (q ∷ qs) k e = go (true-or-false q.answer) (λ p. accepted-all-yes qs k.1 p)
  where
    go : (q.answer ≡ true) ⊎ (q.answer ≡ false) → (refusal qs ≡ 0 → AllYes qs) → (q.answer ≡ true) × AllYes qs
    go (inl y) rest = (y, rest (sym (refusal-yes q qs y) ∙ e))
    go (inr n) rest = absurd (k.0 (sym (refusal-no q qs n) ∙ e))

-- a refusal stays what it is, whatever is asked after
pub refusal-kept : (qs rs : List Question) → refusal qs ≢ 0 → refusal (qs ++ rs) ≡ refusal qs
unfolding refusal
refusal-kept [] rs f = absurd (f refl)
refusal-kept (q ∷ qs) rs f = go (true-or-false q.answer) (λ p. refusal-kept qs rs p)
  where
    go : (q.answer ≡ true) ⊎ (q.answer ≡ false) → (refusal qs ≢ 0 → refusal (qs ++ rs) ≡ refusal qs) → refusal (q ∷ (qs ++ rs)) ≡ refusal (q ∷ qs)
    go (inl y) rest = refusal-yes q (qs ++ rs) y ∙ rest (λ p. f (refusal-yes q qs y ∙ p)) ∙ sym (refusal-yes q qs y)
    go (inr n) rest = refusal-no q (qs ++ rs) n ∙ sym (refusal-no q qs n)

-- a question that is answered yes may as well not be asked
pub refusal-drop : (qs : List Question) (q : Question) (rs : List Question) → q.answer ≡ true → refusal (qs ++ q ∷ rs) ≡ refusal (qs ++ rs)
unfolding refusal
refusal-drop [] q rs y = refusal-yes q rs y
refusal-drop (p ∷ qs) q rs y = ap (λ (n : ℕ). elim p.answer as (λ _. ℕ) [ true ↦ n | false ↦ p.number ]) (refusal-drop qs q rs y)

pub all-yes-left : (qs rs : List Question) → AllYes (qs ++ rs) → AllYes qs
all-yes-left [] rs y = tt
all-yes-left (q ∷ qs) rs y = (y.0, all-yes-left qs rs y.1)

pub all-yes-right : (qs rs : List Question) → AllYes (qs ++ rs) → AllYes rs
all-yes-right [] rs y = y
all-yes-right (q ∷ qs) rs y = all-yes-right qs rs y.1

pub all-yes-append : (qs rs : List Question) → AllYes qs → AllYes rs → AllYes (qs ++ rs)
all-yes-append [] rs y z = z
all-yes-append (q ∷ qs) rs y z = (y.0, all-yes-append qs rs y.1 z)

pub numbered-append : (qs rs : List Question) → Numbered qs → Numbered rs → Numbered (qs ++ rs)
numbered-append [] rs k l = l
numbered-append (q ∷ qs) rs k l = (k.0, numbered-append qs rs k.1 l)
