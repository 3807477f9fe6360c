-- `moving::old::old_whole` meets its contract: where the second pattern's count is not found, the bytes are cut before it; else the number
-- of fields decides. Assumes nothing.
use native.Mathlib.Omega.{arith}
use Rattle.std.proofs.Common.{sym, ◌∙◌, rules}
use Rattle.moving.proofs.OldLaws.{second-inside, by_front}
use Rattle.moving.proofs.old.old_whole.Goals as goal

pub is_some_and-requires : goal.is_some_and-requires
is_some_and-requires c = λ second e _ _ _ _ _ _. (second-inside _ second (sym e ∙ c.front_end.ensures), omega arith)

pub returns : goal.returns
returns c = by_front _ _ _ c.front_end.ensures (search rules)
