-- `cover::lists::Offers::add` meets its contract: a is left out where a set inside it is there, put at the end where there is room, and merged
-- where there is none. Assumes nothing.
use Rattle.std.proofs.Common.{inr, ⊎_elim, subst, sym}
use Rattle.cover.specs.Cover.{Covers}
use Rattle.cover.proofs.CoverLaws.{covers-push}
use Rattle.cover.proofs.lists.Offers.add.Goals as goal

pub returns-then-self-lt-ROOM : goal.returns-then-self-lt-ROOM
returns-then-self-lt-ROOM c n f s =
    subst (λ l. Covers n l f) (sym c.push.ensures) (covers-push c.drop_over.new.self c.args.a (⊎_elim (c.drop_over.ensures.kept n f) inr s))
