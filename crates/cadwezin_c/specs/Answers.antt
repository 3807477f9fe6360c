-- C's answers, and what the calls leave, as the model has them.
use Rattle.std.specs.Prelude.{ℕ, List}
use Rattle.model.specs.Calls as model
use Rattle.model.specs.Striking as striking
use Rattle.laying.specs.declared.laid.NodeRecord.{NodeRecord}
use Rattle.cadwezin.specs.Table.{records_in}
use Rattle.cadwezin.specs.declared.Tallies.{Tallies}
use Rattle.cadwezin_c.specs.declared.answers.VerdictAnswer.{VerdictAnswer}
use Rattle.cadwezin_c.specs.declared.answers.MinimiseAnswer.{MinimiseAnswer}
use Rattle.cadwezin_c.specs.declared.answers.TestAnswer.{TestAnswer}
use Rattle.cadwezin_c.specs.declared.answers.CountAnswer.{CountAnswer}
use Rattle.cadwezin_c.specs.declared.answers.PathsAnswer.{PathsAnswer}

-- the numbers of each
abbrev pub verdict_in : VerdictAnswer → model.VerdictAnswer
verdict_in r = record { refused = r.refused; kind = r.kind; tried = r.tried }

abbrev pub minimised_in : MinimiseAnswer → striking.MinimiseAnswer
minimised_in r = record { refused = r.refused; struck = r.struck; tried = r.tried }

abbrev pub test_in : TestAnswer → model.TestAnswer
test_in r = record { refused = r.refused; holds = r.holds }

abbrev pub count_in : CountAnswer → model.CountAnswer
count_in r = record { refused = r.refused; count = r.count }

abbrev pub paths_in : PathsAnswer → model.PathsAnswer
paths_in r = record { refused = r.refused; masks = r.masks; counts = r.counts }

-- with the answer buffer and the tallies afterwards
abbrev pub exported_outcome : VerdictAnswer → List ℕ → Tallies → model.TalliedOutcome
exported_outcome r after tallies = record { answer = verdict_in r; buffer = after; tallies = tallies.counts }

abbrev pub exported_strikes : MinimiseAnswer → List ℕ → Tallies → model.OnEight striking.MinimiseAnswer
exported_strikes r after tallies = record { answer = minimised_in r; buffer = after; tallies = tallies.counts }

-- with the answer buffer afterwards
abbrev pub buffer_of : CountAnswer → List ℕ → model.CountOutcome
buffer_of r after = record { answer = count_in r; buffer = after }

-- with the table afterwards
abbrev pub table_of : CountAnswer → List NodeRecord → model.LayoutOutcome
table_of r after = record { answer = count_in r; table = records_in after }
