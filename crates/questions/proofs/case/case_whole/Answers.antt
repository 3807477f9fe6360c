-- `questions::case::case_whole` meets its contract: where nothing is found, no end is the bytes', and else the set's end decides. Assumes
-- nothing.
use Rattle.std.proofs.Common.{sym, ◌∙◌, rules}
use Rattle.questions.proofs.CaseLaws.{set-inside, by_front}
use Rattle.questions.proofs.case.case_whole.Goals as goal

pub is_some_and-requires : goal.is_some_and-requires
is_some_and-requires c = λ on e _ _ _ _ _ _. set-inside _ on (sym e ∙ c.front_end.ensures)

pub returns : goal.returns
returns c = by_front _ _ _ c.front_end.ensures (search rules)
