-- `laying::laid::laid_out` meets its contract: a refusal lays out nothing, and an accepted call what it would for a table of 1,024
-- records. Assumes nothing.
use mathlib.Core.Path.{sym}
use borrow.Author.Rules.{rules}
use Rattle.laying.proofs.RecordLaws.{accepted-larger, laid-refused, laid-accepted}
use Rattle.laying.proofs.laid.laid_out.Goals as goal

pub returns-in_err-ask_layout : goal.returns-in_err-ask_layout
returns-in_err-ask_layout c = laid-refused _ _ _ _ _ _ c.in_err-ask_layout.ensures (search rules)

pub accepted_layout-requires : goal.accepted_layout-requires
accepted_layout-requires c = accepted-larger _ _ _ _ (sym c.in_ok-ask_layout.ensures)

pub returns : goal.returns
returns c = laid-accepted _ _ _ _ (sym c.in_ok-ask_layout.ensures) c.accepted_layout.ensures
