use Rattle.bits.specs.Members.{members_left}
use Rattle.canonical.specs.Draft.{tables, SameTables}
use Rattle.canonical.proofs.FillLaws.{Visiting}
use Rattle.canonical.proofs.fill.fill_node.Given as goal

abbrev pub invariant-loop-t : goal.invariant-loop-t
invariant-loop-t l =
    record {
      same_tables : SameTables l.initial.draft l.draft;
      visiting : Visiting l.outline l.v.0 l.initial.draft.count (tables l.initial.draft) (tables l.draft) l.draft.count (members_left l.t-iterator);
    }
