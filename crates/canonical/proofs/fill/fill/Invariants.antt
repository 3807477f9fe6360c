use Prim.Native.Nat.{ℕ, ◌-◌}
use mathlib.Core.List.{List}
use Rattle.model.specs.Limits.{max_canonical}
use Rattle.model.specs.Canonical.{Spot}
use Rattle.canonical.specs.Draft.{Tables, tables, SameTables}
use Rattle.canonical.specs.Given.{Fillable}
use Rattle.canonical.proofs.FillLaws.{Filling}
use Rattle.canonical.proofs.fill.fill.Given as goal

abbrev pub invariant-loop-v : goal.invariant-loop-v
invariant-loop-v l =
    record {
      same_tables : SameTables l.initial.draft l.draft;
      filling : (spots : List Spot) (base : Tables) (k : ℕ)
          → Fillable l.outline spots base (tables l.initial.draft) l.initial.draft.count k → Filling l.outline spots base (tables l.draft) k l.v l.draft.count;
    }

abbrev pub decreases-loop-v : goal.decreases-loop-v
decreases-loop-v l = max_canonical - l.v
