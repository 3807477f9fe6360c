use Rattle.canonical.proofs.FigureLaws.{Figuring}
use Rattle.canonical.proofs.figures.figures.Given as goal

abbrev pub invariant-loop-q : goal.invariant-loop-q
invariant-loop-q l = Figuring l.pattern l.own l.initial.answer l.answer l.q
