-- `alternatives::partial::Partial::turn` meets its contract: whatever is joined, each list still covers what hangs from its node. Assumes nothing.
use Rattle.std.proofs.Common.{◌<◌, [], length, arith, sym, ◌∙◌, subst}
use Rattle.std.proofs.lemmas.List.{get_or_read}
use Rattle.cover.specs.Cover.{Covers}
use Rattle.alternatives.proofs.OpenLaws.{left-placed, left_open, turned-join}
use Rattle.alternatives.proofs.FillLaws.{judged-few, judged-parent}
use Rattle.alternatives.proofs.partial.Partial.turn.Goals as goal

pub returns-then-c-self : goal.returns-then-c-self
returns-then-c-self c =
    left-placed c.requires.made c.args.self.now.inside c.requires.before c.requires.node.0 c.requires.node.1 c.parent-j.ensures c.if-c-self.true c.join_placed.ensures

pub returns : goal.returns
returns c =
    let P = c.args.self.now in
    let J = P.by.now in
    let z = c.requires.node.0 in
    let h = c.requires.node.1 in
    let few = judged-few J in
    let j = judged-parent J z h c.parent-j.ensures in
    let inside : c.parent-j.result.0 < length c.args.lists.now = omega (arith, j, h, few, c.requires.node.2) in
    let at = sym (get_or_read c.args.lists.now _ _ inside c.index-lists-j.is []) ∙ c.index-lists-j.is in
    left_open c.requires.made P.inside c.requires.before z h c.parent-j.ensures (omega (arith, few, h))
    (subst (λ x. x < 64) (sym c.image_of.ensures) (P.placed.inside c.parent-j.result.0 (omega (arith, j, h)))) c.if-self-j.false c.image_of.ensures c.requires.right
    (turned-join inside (λ f s. c.join_entry.ensures f (subst (λ l. Covers (length J.members.now) l f) at s)))
