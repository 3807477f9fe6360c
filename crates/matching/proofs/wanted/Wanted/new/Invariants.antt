use lib.ListN.{length}
use Rattle.model.specs.Pattern.{pattern_label, pattern_parent}
use Rattle.matching.proofs.WantedLaws.{Columned}
use Rattle.matching.proofs.wanted.Wanted.new.Given as goal

abbrev pub invariant-loop-q : goal.invariant-loop-q
invariant-loop-q l =
    let P = l.pattern in
    Columned (pattern_label P) (length P) l.labels l.q × Columned (pattern_parent P) (length P) l.parents l.q
