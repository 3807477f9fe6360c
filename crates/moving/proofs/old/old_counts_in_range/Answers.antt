-- `moving::old::old_counts_in_range` meets its contract: a whole old case has every count, and each is tested as the definition says.
-- Assumes nothing.
use Rattle.questions.proofs.TestLaws.{joined}
use Rattle.moving.proofs.OldLaws.{old_sections, old-counts-asked, count-told}
use Rattle.moving.proofs.old.old_counts_in_range.Goals as goal
use Rattle.moving.proofs.old.old_counts_in_range.Goals.{then-between, else-between}

pub field-requires : goal.field-requires
field-requires c = search old_sections

pub first_at-requires : goal.first_at-requires
first_at-requires c = search old_sections

pub field-requires-then-between : goal.field-requires-then-between
field-requires-then-between c = search old_sections

pub field-requires-then-between-2 : goal.field-requires-then-between-2
field-requires-then-between-2 c = search old_sections

pub returns-then-between-2 : goal.returns-then-between-2
returns-then-between-2 c = elim c.if-between.branch [
  | then-between w ↦ search (joined, old-counts-asked, count-told)
  | else-between w ↦ search (joined, old-counts-asked, count-told)
]

pub returns-else-between-2 : goal.returns-else-between-2
returns-else-between-2 c = elim c.if-between.branch [
  | then-between w ↦ search (joined, old-counts-asked, count-told)
  | else-between w ↦ search (joined, old-counts-asked, count-told)
]
