-- `alternatives::table::same_sets` meets its contract: the test of all pairs says that the lists are the same. Assumes nothing.
use Rattle.std.proofs.Common.{rules, tests, sym, ◌∙◌}
use Rattle.std.proofs.lemmas.Iterator.{YieldsList-from_slice, YieldsList-from_zip}
use Rattle.std.proofs.lemmas.Iterator.Search.{all_from_yields_List}
use Rattle.alternatives.proofs.TableLaws.{pair_same, pairs-same}
use Rattle.alternatives.proofs.table.same_sets.Goals as goal

pub returns : goal.returns
returns c e =
    let a = c.args.a.now in
    let b = c.args.b.now in
    pairs-same a b c.requires
    (sym (all_from_yields_List pair_same c.all.new.self _ c.all.result c.all.ensures.ran
    (YieldsList-from_zip {s = c.zip.result} (YieldsList-from_slice a cc) (YieldsList-from_slice b cc)) (λ x t q k. search (rules, tests))) ∙ e)
