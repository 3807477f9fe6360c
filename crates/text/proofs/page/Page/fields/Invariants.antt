use Prim.Native.Nat.{◌+◌}
use Rattle.model.specs.Bytes.{field}
use Rattle.model.specs.Text.{number}
use Rattle.text.proofs.ListedLaws.{ListedUpTo}
use Rattle.text.proofs.page.Page.fields.Given as goal

abbrev pub invariant-loop-i : goal.invariant-loop-i
invariant-loop-i l = ListedUpTo (λ j. number (field l.b (l.from + j))) l.n l.initial.self l.self l.i
