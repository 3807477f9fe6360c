-- `refusals::ask_minimise` meets its contract: 1 is asked first, so 120 times the limit does not wrap, and then the others. Assumes nothing.
use Prim.Native.Nat.{ℕ, ◌≤◌}
use mathlib.Core.Path.{◌≡◌}
use mathlib.Core.Bool.{true}
use native.Mathlib.Omega.{arith}
use Rattle.model.specs.Limits.{max_limit}
use Rattle.model.specs.Questions.{limit_in_range, minimise_refusal, case_questions, refusal}
use borrow.Author.Rules.{rules}
use Rattle.model.proofs.CaseFacts.{between-facts}
use Rattle.questions.proofs.RefusalLaws.{required}
use Rattle.refusals.proofs.ask_minimise.Goals as goal

limit-high : (L : ℕ) → limit_in_range L ≡ true → L ≤ max_limit
unfolding limit_in_range
limit-high L e = (between-facts 1 max_limit L e).1

pub overflow_mul-limit : goal.overflow_mul-limit
overflow_mul-limit c =
    let e : limit_in_range c.args.limit ≡ true = search required in
    let l : c.args.limit ≤ max_limit = limit-high _ e in
    record { fits = omega arith }

pub returns-in_err-hold : goal.returns-in_err-hold
unfolding minimise_refusal case_questions refusal
returns-in_err-hold c = search rules

pub returns : goal.returns
unfolding minimise_refusal case_questions refusal
returns c = search rules
