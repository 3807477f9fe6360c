-- `normalising::write_set` meets its contract: before each turn the count and the members so far are written. Assumes nothing.
use Prim.Native.Nat.{ℕ, ◌+◌, ◌*◌, ◌≤◌}
use mathlib.Core.Path.{◌≡◌, sym, ap, ◌∙◌, subst}
use mathlib.Core.List.{List, []}
use native.Mathlib.Omega.{arith}
use lib.ListN.{length}
use lib.Seq.{sets}
use Rattle.std.proofs.lemmas.Iterator.Consumers.{YieldsList-from_first, YieldsList-turn, YieldsList-end}
use Rattle.std.proofs.lemmas.List.{get_or_read, length_push}
use Rattle.model.specs.Bytes.{bytes_of, pattern_fields}
use Rattle.model.specs.Pattern.{Pattern}
use Rattle.normalising.specs.Trees.{normal_fields}
use Rattle.normalising.proofs.CaseLaws.{Members, set-some, members-start, member-fits, members-step, members-end}
use Rattle.normalising.proofs.write_set.Goals as goal

pub put_field-requires : goal.put_field-requires
put_field-requires c = omega (arith, c.requires.room, set-some c.args.set.now)

pub loop-member-init : goal.loop-member-init
loop-member-init c = members-start _

pub write_tree-to-requires-clause-room : goal.write_tree-to-requires-clause-room
write_tree-to-requires-clause-room c =
    let t = YieldsList-turn (YieldsList-from_first (λ (x : Pattern). x) (λ m. m) c.args.set.now cc) c.loop-member.yielded _ c.loop-member.yielded_by _ _ c.in-Some.member c.in-Some.is c.next.ensures.steps in
    let own = get_or_read c.args.set.now (length c.loop-member.yielded) c.in-Some.member t.0 t.1 [] in
    subst (λ (Q : Pattern). 2 * (c.loop-member.to + length (normal_fields pattern_fields Q)) ≤ length c.loop-member.out) (sym own)
    (member-fits c.loop-member.invariant t.0 (omega (arith, c.requires.room, c.loop-member.auto.out, c.put_field.auto.out)))

pub loop-member-preserved : goal.loop-member-preserved
loop-member-preserved c =
    let t = YieldsList-turn (YieldsList-from_first (λ (x : Pattern). x) (λ m. m) c.args.set.now cc) c.loop-member.yielded _ c.loop-member.yielded_by _ _ c.in-Some.member c.in-Some.is c.next.ensures.steps in
    let own = get_or_read c.args.set.now (length c.loop-member.yielded) c.in-Some.member t.0 t.1 [] in
    subst (λ (k : ℕ). Members c.args.set.now c.args.at c.put_field.new.out c.write_tree-to.new.out c.write_tree-to.result k) (sym (length_push c.loop-member.yielded c.in-Some.member))
    (members-step c.loop-member.invariant t.0 (c.write_tree-to.ensures.end ∙ ap (λ (Q : Pattern). c.loop-member.to + length (normal_fields pattern_fields Q)) own)
    (c.write_tree-to.ensures.buffer ∙ ap (λ (Q : Pattern). sets c.loop-member.out (2 * c.loop-member.to) (bytes_of (normal_fields pattern_fields Q))) own))

pub returns-clause-end : goal.returns-clause-end
returns-clause-end c =
    let t = YieldsList-end (YieldsList-from_first (λ (x : Pattern). x) (λ m. m) c.args.set.now cc) c.loop-member.yielded _ c.loop-member.yielded_by _ _ c.in-None.is c.next.ensures.steps in
    (members-end c.args.out.now c.count.ensures.0 c.put_field.ensures c.loop-member.invariant (omega (arith, t.1, c.count.ensures.0))).0

pub returns-clause-buffer : goal.returns-clause-buffer
returns-clause-buffer c =
    let t = YieldsList-end (YieldsList-from_first (λ (x : Pattern). x) (λ m. m) c.args.set.now cc) c.loop-member.yielded _ c.loop-member.yielded_by _ _ c.in-None.is c.next.ensures.steps in
    (members-end c.args.out.now c.count.ensures.0 c.put_field.ensures c.loop-member.invariant (omega (arith, t.1, c.count.ensures.0))).1
