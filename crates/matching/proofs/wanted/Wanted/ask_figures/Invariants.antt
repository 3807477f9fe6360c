use mathlib.Core.Path.{◌≡◌}
use lib.ListN.{length}
use Rattle.model.specs.Pattern.{pattern_figure}
use Rattle.matching.specs.Wanted.{Wants}
use Rattle.matching.proofs.WantedLaws.{Columned}
use Rattle.matching.proofs.wanted.Wanted.ask_figures.Given as goal

abbrev pub invariant-loop-q : goal.invariant-loop-q
invariant-loop-q l =
    let P = l.pattern in
    Wants P l.self × (l.self.marks ≡ l.initial.self.marks) × Columned (pattern_figure P) (length P) l.self.least l.q
