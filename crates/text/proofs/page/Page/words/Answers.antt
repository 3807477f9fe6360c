-- The words, then a newline. Assumes nothing.
use Rattle.text.proofs.PutLaws.{room-first, room-rest, put_then}
use Rattle.text.proofs.LineLaws.{words-parts}
use Rattle.text.proofs.page.Page.words.Goals as goal

pub word-requires : goal.word-requires
word-requires c = room-first (words-parts _) c.requires

pub put-requires : goal.put-requires
put-requires c = room-rest (words-parts _) c.requires c.word.ensures

pub returns : goal.returns
returns c = put_then (words-parts _) c.requires c.word.ensures c.put.ensures
