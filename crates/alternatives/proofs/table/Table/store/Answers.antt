-- `alternatives::table::Table::store` meets its contract: what is stored covers what the alternatives do. Assumes nothing.
use Rattle.std.proofs.Common.{subst, sym}
use Rattle.cover.specs.Cover.{Covers}
use Rattle.alternatives.proofs.FillLaws.{right-stored, common-covers}
use Rattle.alternatives.proofs.table.Table.store.Goals as goal

pub returns-then-ends_with : goal.returns-then-ends_with
returns-then-ends_with c ts m P K A =
    right-stored c.requires.0 c.requires.1 K c.point.ensures (λ n f s. subst (λ l. Covers n l f) (sym (c.ends_with.ensures c.if-ends_with.true).1) s) A

pub returns-then-self-n-le-ROOM : goal.returns-then-self-n-le-ROOM
returns-then-self-n-le-ROOM c ts m P K A = right-stored c.requires.0 c.requires.1 K c.append.ensures (λ n f s. s) A

pub returns-then-self-lt-ROOM : goal.returns-then-self-lt-ROOM
returns-then-self-lt-ROOM c ts m P K A =
    right-stored c.requires.0 c.requires.1 K c.append-then-self-lt-ROOM.ensures (common-covers c.common_all.ensures) A
