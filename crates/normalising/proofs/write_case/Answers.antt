-- `normalising::write_case` meets its contract: the sections follow each other. Assumes nothing.
use Prim.Native.Nat.{◌+◌, ◌*◌}
use mathlib.Core.Path.{◌≡◌, ap, ◌∙◌}
use mathlib.Core.List.{List}
use native.Mathlib.Omega.{arith}
use borrow.Author.Rules.{rules}
use lib.ListN.{length}
use lib.Seq.{sets}
use Rattle.model.specs.Bytes.{bytes_of, pattern_fields, encode_case, written_at_front}
use Rattle.model.specs.Pattern.{Pattern}
use Rattle.model.specs.Summary.{Summary}
use Rattle.model.specs.Normal.{as_pattern, normal_case}
use Rattle.normalising.specs.Trees.{outline_fields, normal_fields}
use Rattle.normalising.proofs.CaseLaws.{normal_set, case-size, case-written}
use Rattle.normalising.proofs.write_case.Goals as goal
use Rattle.normalising.proofs.write_case.Goals.{After-write_set}

pub write_tree-first-requires-clause-room : goal.write_tree-first-requires-clause-room
write_tree-first-requires-clause-room c =
    omega (arith, c.requires.1, case-size c.args.case.now c.requires.0.outline, ap (λ (S : Summary). length (normal_fields outline_fields (as_pattern S))) c.summary.ensures)

pub write_tree-set-requires-clause-room : goal.write_tree-set-requires-clause-room
write_tree-set-requires-clause-room c =
    omega (
      arith,
      c.requires.1,
      case-size c.args.case.now c.requires.0.outline,
      c.write_tree-first.auto.out,
      c.write_tree-first.ensures.end,
      ap (λ (S : Summary). length (normal_fields outline_fields (as_pattern S))) c.summary.ensures,
      ap (λ (P : Pattern). length (normal_fields pattern_fields P)) c.first.ensures,
    )

pub write_set-requires-clause-room : goal.write_set-requires-clause-room
write_set-requires-clause-room c =
    omega (
      arith,
      c.requires.1,
      case-size c.args.case.now c.requires.0.outline,
      c.write_tree-first.auto.out,
      c.write_tree-set.auto.out,
      c.write_tree-first.ensures.end,
      c.write_tree-set.ensures.end,
      ap (λ (S : Summary). length (normal_fields outline_fields (as_pattern S))) c.summary.ensures,
      ap (λ (P : Pattern). length (normal_fields pattern_fields P)) c.first.ensures,
      ap (λ (Qs : List Pattern). length (normal_set Qs)) c.set.ensures,
    )

-- what is written
written : (c : After-write_set) → (2 * c.write_set.result ≡ length (encode_case (normal_case c.args.case.now))) × (c.write_set.new.out ≡ written_at_front (encode_case (normal_case c.args.case.now)) c.args.out.now)
written c =
    case-written c.args.case.now c.requires.0.outline c.args.out.now c.requires.1
    (c.write_tree-first.ensures.end ∙ ap (λ (S : Summary). 0 + length (normal_fields outline_fields (as_pattern S))) c.summary.ensures)
    (c.write_tree-first.ensures.buffer ∙ ap (λ (S : Summary). sets c.args.out.now 0 (bytes_of (normal_fields outline_fields (as_pattern S)))) c.summary.ensures)
    (c.write_tree-set.ensures.end ∙ ap (λ (P : Pattern). c.write_tree-first.result + length (normal_fields pattern_fields P)) c.first.ensures)
    (c.write_tree-set.ensures.buffer ∙ ap (λ (P : Pattern). sets c.write_tree-first.new.out (2 * c.write_tree-first.result) (bytes_of (normal_fields pattern_fields P))) c.first.ensures)
    (c.write_set.ensures.end ∙ ap (λ (Qs : List Pattern). c.write_tree-set.result + length (normal_set Qs)) c.set.ensures)
    (c.write_set.ensures.buffer ∙ ap (λ (Qs : List Pattern). sets c.write_tree-set.new.out (2 * c.write_tree-set.result) (bytes_of (normal_set Qs))) c.set.ensures)

pub overflow_mul-result : goal.overflow_mul-result
overflow_mul-result c =
    let e = (written (goal.at.overflow_mul-result c).After-write_set).0 in
    let room = c.requires.1 in
    search rules

pub returns-clause-end : goal.returns-clause-end
returns-clause-end c = (written (goal.at.returns-clause-end c).After-write_set).0

pub returns-clause-buffer : goal.returns-clause-buffer
returns-clause-buffer c = (written (goal.at.returns-clause-buffer c).After-write_set).1
