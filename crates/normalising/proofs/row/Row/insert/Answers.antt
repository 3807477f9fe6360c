-- `normalising::row::Row::insert` meets its contract: the row goes in at its place. Assumes nothing.
use Prim.Native.Nat.{◌+◌, ◌≤◌}
use mathlib.Core.Path.{◌≡◌, refl, sym, ap, ap₂, ◌∙◌}
use native.Mathlib.Omega.{arith}
use lib.ListN.{length, take}
use lib.Seq.{length-take-le}
use borrow.Author.Rules.{rules}
use Rattle.model.specs.Gathering.{place_in, joined}
use Rattle.normalising.proofs.PlaceLaws.{row-inserted}
use Rattle.normalising.proofs.row.Row.insert.Goals as goal

pub returns : goal.returns
returns c =
    let E = c.self.inside.entries in
    let r = c.entries-row.result.now in
    let own = c.entries.ensures in
    let given = c.entries-row.ensures in
    let size : length E ≡ 64 = search rules in
    let len : length (take c.self.inside.len E) ≡ c.self.inside.len = length-take-le c.self.inside.len E (omega (arith, size, c.self.invariant)) in
    let fits : c.self.inside.len + length r ≤ length E = omega (arith, size, len, c.requires.1, ap length c.self.view_is, ap length given) in
    let inside : c.place-at.result ≤ c.self.inside.len = omega (arith, c.place-at.ensures.1, len, ap length own, ap length c.self.view_is) in
    ap (take (c.self.inside.len + length r)) c.put_in.ensures
    ∙ row-inserted r E refl inside fits (c.place-at.ensures.0 ∙ ap (place_in r) (own ∙ sym c.self.view_is)) ∙ ap₂ joined given c.self.view_is
