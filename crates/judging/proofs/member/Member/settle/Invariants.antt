use mathlib.Core.Path.{◌≡◌}
use lib.ListN.{length}
use Rattle.model.specs.Pattern.{pattern_parent}
use Rattle.judging.specs.Blocks.{last_in, sets_in}
use Rattle.judging.specs.Room.{Judgeable}
use Rattle.judging.specs.Settling.{folded_by}
use Rattle.judging.proofs.GivenLoop.{Gathering}
use Rattle.judging.proofs.member.Member.settle.Given as goal

abbrev pub invariant-loop-c : goal.invariant-loop-c
invariant-loop-c l =
    Judgeable l.self l.p l.images × Gathering (pattern_parent l.p) (folded_by (sets_in l.self) l.p (last_in l.m) l.q.0 l.images) (length l.p) l.initial.hangs l.c l.hangs × (length l.initial.hangs ≡ 16)
