-- `canonical::lay_out` meets its contract: the chains, then filling up, give the definition's nodes, whose bound of 1,009 is what the
-- room rests on; with its count and its figures the section is the document's. Assumes nothing.
use mathlib.Core.Path.{◌≡◌}
use native.Mathlib.Omega.{arith}
use lib.Seq.{sets}
use borrow.Author.Rules.{rules}
use Rattle.model.specs.Bytes.{field_bytes}
use Rattle.canonical.proofs.LayoutLaws.{chains-fillable, written-plain, written_out}
use Rattle.canonical.proofs.lay_out.Goals as goal

pub fill-requires : goal.fill-requires
fill-requires c =
    let same = c.summary-summary.ensures.0 in
    let rooted = rw same at c.root-draft.ensures.drafted in
    let chained = rw same at c.chains-own.ensures.nodes in
    (_, _, _, chains-fillable c.requires.embedded (chained _ rooted))

pub overflow_cast-count : goal.overflow_cast-count
overflow_cast-count c =
    let same = c.summary-summary.ensures.0 in
    let rooted = rw same at c.root-draft.ensures.drafted in
    let chained = rw same at c.chains-own.ensures.nodes in
    let d = c.fill.ensures.filled _ _ _ (chains-fillable c.requires.embedded (chained _ rooted)) in
    omega (arith, c.count-count.ensures, d.fits)

pub figures-requires : goal.figures-requires
figures-requires c =
    let e = c.requires.embedded in
    let same = c.summary-summary.ensures.0 in
    let rooted = rw same at c.root-draft.ensures.drafted in
    let chained = rw same at c.chains-own.ensures.nodes in
    let own = rw same at c.chains-own.ensures.own in
    let d = c.fill.ensures.filled _ _ _ (chains-fillable e (chained _ rooted)) in
    let put : c.put_field.new.out ≡ sets c.fill.new.draft.bytes.now 0 (field_bytes c.fill.new.draft.count) = search rules in
    (_, _, _, written-plain e own d put)

pub returns : goal.returns
returns c =
    let e = c.requires.embedded in
    let same = c.summary-summary.ensures.0 in
    let rooted = rw same at c.root-draft.ensures.drafted in
    let chained = rw same at c.chains-own.ensures.nodes in
    let own = rw same at c.chains-own.ensures.own in
    let d = c.fill.ensures.filled _ _ _ (chains-fillable e (chained _ rooted)) in
    let put : c.put_field.new.out ≡ sets c.fill.new.draft.bytes.now 0 (field_bytes c.fill.new.draft.count) = search rules in
    written_out e own d (search rules) c.count-count.ensures (c.figures.ensures _ _ _ (written-plain e own d put))
