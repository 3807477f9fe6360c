-- The words, then the number. Assumes nothing.
use Rattle.text.proofs.PutLaws.{room-first, room-rest, put_then}
use Rattle.text.proofs.LineLaws.{line-parts}
use Rattle.text.proofs.page.Page.line.Goals as goal

pub word-requires : goal.word-requires
word-requires c = room-first (line-parts _ _) c.requires

pub last-requires : goal.last-requires
last-requires c = room-rest (line-parts _ _) c.requires c.word.ensures

pub returns : goal.returns
returns c = put_then (line-parts _ _) c.requires c.word.ensures c.last.ensures
