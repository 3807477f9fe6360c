use lib.ListN.{length}
use Rattle.model.specs.Pattern.{position}
use Rattle.model.specs.Bytes.{list_of}
use Rattle.matching.specs.Wanted.{Wants, mark_at}
use Rattle.matching.proofs.WantedLaws.{Columned}
use Rattle.matching.proofs.wanted.Wanted.pin.Given as goal

abbrev pub invariant-loop-q : goal.invariant-loop-q
invariant-loop-q l =
    let P = l.pattern in
    Wants P l.self × Columned (λ p. mark_at (position P p) (list_of l.list)) (length P) l.self.marks l.q
