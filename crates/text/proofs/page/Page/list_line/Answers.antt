-- The words, then the fields. Assumes nothing.
use Rattle.text.proofs.PutLaws.{room-first, room-rest, put_then}
use Rattle.text.proofs.LineLaws.{list-parts}
use Rattle.text.proofs.page.Page.list_line.Goals as goal

pub word-requires : goal.word-requires
word-requires c = room-first (list-parts _ _) c.requires.room

pub last_fields-requires : goal.last_fields-requires
last_fields-requires c = record { inside = c.requires.inside; room = room-rest (list-parts _ _) c.requires.room c.word.ensures }

pub returns : goal.returns
returns c = put_then (list-parts _ _) c.requires.room c.word.ensures c.last_fields.ensures
