-- `refusals::list::list_in_range` meets its contract: the three tests are the definition's. Assumes nothing.
use Rattle.std.proofs.Common.{rules, arith, refl, ℕ}
use Rattle.std.proofs.lemmas.Grind.{common_steps}
use lib.Dec.{ltb}
use Rattle.model.specs.Bytes.{field}
use Rattle.format.proofs.ChainLaws.{all_range}
use Rattle.refusals.proofs.DocumentLaws.{list-asked}
use Rattle.refusals.proofs.list.list_in_range.Goals as goal

pub returns-then-r-k : goal.returns-then-r-k
returns-then-r-k c =
    let e = all_range (λ (i : ℕ). ltb (field c.args.r.now i) c.args.n) 0 c.args.k c.args.k _ refl (search rules) (λ x t q k. search rules) c.all.ensures.ran in
    list-asked _ _ _ _ (grind (arith, common_steps))

pub returns-else-r-k : goal.returns-else-r-k
returns-else-r-k c = list-asked _ _ _ _ (grind (arith, common_steps))
