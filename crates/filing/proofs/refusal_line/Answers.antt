-- The number has two digits at most, so its line has room. Assumes nothing.
use borrow.Author.Rules.{rules}
use Rattle.model.specs.Text.{refused_text}
use Rattle.filing.proofs.FiledLaws.{line-room, line-filed}
use Rattle.filing.proofs.refusal_line.Goals as goal

pub line-requires : goal.line-requires
unfolding refused_text
line-requires c = line-room c.args.refusal c.number.ensures c.new-page.ensures.front (search rules)

pub returns : goal.returns
unfolding refused_text
returns c = rw (← c.new-page.ensures.bytes, ← c.number.ensures) (line-filed _ c.new-page.ensures.front c.line.ensures)
