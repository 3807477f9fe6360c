-- One line, then the other. Assumes nothing.
use Rattle.text.proofs.PutLaws.{room-first, room-rest, put_then}
use Rattle.printing.proofs.LineLaws.{first-parts}
use Rattle.printing.proofs.lines.first_lines.Goals as goal

pub words-requires : goal.words-requires
words-requires c = room-first (first-parts _ _) c.requires

pub line-requires : goal.line-requires
line-requires c = room-rest (first-parts _ _) c.requires c.words.ensures

pub returns : goal.returns
returns c = put_then (first-parts _ _) c.requires c.words.ensures c.line.ensures
