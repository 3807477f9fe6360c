-- `canonical::fill::add_missing` meets its contract: a child that is there leaves the draft as it is, and one that is missing is one
-- node more. Assumes nothing.
use mathlib.Core.Path.{◌∙◌, sym}
use Rattle.canonical.proofs.DraftLaws.{drafted-roomy, drafted-by}
use Rattle.canonical.proofs.FillLaws.{there-drafted, new-room, new-drafted}
use Rattle.canonical.proofs.fill.add_missing.Goals as goal

pub append-requires-clause-summary_kept : goal.append-requires-clause-summary_kept
append-requires-clause-summary_kept c = (c.requires.summary_kept.0, drafted-roomy c.requires.missing.2.drafted)

pub append-requires-clause-v_lt_count : goal.append-requires-clause-v_lt_count
append-requires-clause-v_lt_count c =
    let m = c.requires.missing.2 in
    let g = c.requires.summary_kept in
    (m.inside, g.1, new-room g.0.few m.drafted _ _ m.inside g.1 (sym c.has_child.ensures ∙ c.if-not-has_child.true) m.room)

pub returns-then-not-has_child-clause-added : goal.returns-then-not-has_child-clause-added
returns-then-not-has_child-clause-added c = λ spots base k.
    let m = c.requires.missing.2 in
    let g = c.requires.summary_kept in
    let missing = sym c.has_child.ensures ∙ c.if-not-has_child.true in
    drafted-by c.append.ensures.row c.append.ensures.counted (new-drafted g.0.few k _ _ m.inside g.1 missing (new-room g.0.few m.drafted _ _ m.inside g.1 missing m.room))

pub returns-else-not-has_child-clause-added : goal.returns-else-not-has_child-clause-added
returns-else-not-has_child-clause-added c = λ spots base k.
    let g = c.requires.summary_kept in
    there-drafted g.0.few k _ _ c.requires.missing.2.inside g.1 (sym c.has_child.ensures ∙ c.if-not-has_child.false)
