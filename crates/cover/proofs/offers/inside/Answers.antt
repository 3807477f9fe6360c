-- `cover::offers::inside` meets its contract: the test of all pairs is the test at all members. Assumes nothing.
use Rattle.std.proofs.Common.{rules, tests, ◌∙◌}
use Rattle.std.proofs.lemmas.Iterator.{YieldsList-from_slice, YieldsList-from_zip}
use Rattle.std.proofs.lemmas.Iterator.Search.{all_from_yields_List}
use Rattle.cover.proofs.CoverLaws.{pair_inside, pairs-inside}
use Rattle.cover.proofs.offers.inside.Goals as goal

pub returns : goal.returns
returns c =
    let a = c.args.a.now in
    let b = c.args.b.now in
    all_from_yields_List pair_inside c.all.new.self _ c.all.result c.all.ensures.ran
    (YieldsList-from_zip {s = c.zip.result} (YieldsList-from_slice a cc) (YieldsList-from_slice b cc)) (λ x t q k. search (rules, tests))
    ∙ pairs-inside a b (cc)
