-- A refusal's line, by its number. Assumes nothing.
use Rattle.model.specs.Text.{refused_text}
use Rattle.listing.proofs.answer_text.Goals as goal

pub line-requires : goal.line-requires
unfolding refused_text
line-requires c = rw c.number.ensures (rw c.in-Err.is at c.requires.room)

pub returns-in-Err : goal.returns-in-Err
unfolding refused_text
returns-in-Err c = rw c.in-Err.is (rw c.number.ensures at c.line.ensures)
