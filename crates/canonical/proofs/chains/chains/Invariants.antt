use Rattle.canonical.specs.Draft.{tables, SameTables}
use Rattle.canonical.proofs.ChainPhaseLaws.{Going}
use Rattle.canonical.proofs.chains.chains.Given as goal

abbrev pub invariant-loop-q : goal.invariant-loop-q
invariant-loop-q l =
    record {
      same_tables : SameTables l.initial.draft l.draft;
      going : Going l.summary l.pattern l.images (tables l.initial.draft) (tables l.draft) l.initial.own l.own l.initial.draft.count l.draft.count l.q;
    }
