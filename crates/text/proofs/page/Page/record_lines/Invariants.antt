use Rattle.model.specs.Bytes.{field}
use Rattle.text.specs.Records.{record_line}
use Rattle.text.proofs.ListedLaws.{ListedUpTo}
use Rattle.text.proofs.page.Page.record_lines.Given as goal

abbrev pub invariant-loop-i : goal.invariant-loop-i
invariant-loop-i l = ListedUpTo (record_line l.width l.b) (field l.b 0) l.initial.self l.self l.i
