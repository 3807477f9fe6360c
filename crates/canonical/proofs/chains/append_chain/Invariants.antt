use Rattle.bits.specs.Members.{members_left}
use Rattle.canonical.specs.Draft.{tables, SameTables}
use Rattle.canonical.proofs.ChainLaws.{Chaining}
use Rattle.canonical.proofs.chains.append_chain.Given as goal

abbrev pub invariant-loop-x : goal.invariant-loop-x
invariant-loop-x l =
    record {
      same_tables : SameTables l.initial.draft l.draft;
      chaining : Chaining l.summary (members_left l.initial.x-iterator) l.initial.v.0 l.initial.draft.count (tables l.initial.draft) (tables l.draft) l.v.0 l.draft.count (members_left l.x-iterator);
    }
